pub mod Words
pub mod Row
pub mod Told
