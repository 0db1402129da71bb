pub mod Ends
pub mod Rows
pub mod Carries
pub mod Loops
pub mod Powers
