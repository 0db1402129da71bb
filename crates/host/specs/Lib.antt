pub mod Ends
pub mod Model
pub mod Acts
