pub mod Meaning
pub mod Entry
