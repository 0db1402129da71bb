pub mod Known
pub mod Own
pub mod Entry
pub mod Stores
