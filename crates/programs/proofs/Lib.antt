pub mod Programs
pub mod Rules
pub mod Fate
pub mod Rightly
