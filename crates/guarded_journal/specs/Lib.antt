pub mod Programs
pub mod Promises
