pub mod Stores
pub mod Model
