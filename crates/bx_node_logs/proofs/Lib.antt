pub mod Moved
pub mod Starts
pub mod Steps
