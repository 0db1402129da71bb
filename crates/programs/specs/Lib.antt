pub mod Prog
pub mod Machine
pub mod Fates
pub mod Beside
