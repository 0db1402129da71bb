pub mod Words
pub mod Rows
pub mod Tapes
