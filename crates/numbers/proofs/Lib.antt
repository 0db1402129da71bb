pub mod Signs
pub mod Replies
