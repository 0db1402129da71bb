pub mod Memory
pub mod Model
pub mod Engine
pub mod View
