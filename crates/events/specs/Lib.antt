pub mod Entry
pub mod Events
