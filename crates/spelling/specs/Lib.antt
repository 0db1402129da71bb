pub mod Kinds
pub mod Meaning
