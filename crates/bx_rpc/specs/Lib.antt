pub mod Callers
pub mod Checks
pub mod Message
pub mod Replies
pub mod Stops
