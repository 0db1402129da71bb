pub mod Fronts
pub mod KindOf
pub mod Names
