pub mod Steps
pub mod Unused
pub mod Puts
pub mod FileMade
pub mod FileDead
pub mod LinkMade
