pub mod Parts
pub mod Runs
pub mod Tells
pub mod Kept
pub mod Grows
pub mod Replays
