pub mod Handling
pub mod Replies
