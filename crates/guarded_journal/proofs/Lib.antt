pub mod Recovery
pub mod Stages
