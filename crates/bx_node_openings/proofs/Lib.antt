pub mod Closed
pub mod Finds
pub mod Kept
pub mod Opens
