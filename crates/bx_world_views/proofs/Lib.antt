pub mod Doubts
pub mod Steps
