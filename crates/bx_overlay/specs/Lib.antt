pub mod Over
pub mod OneOver
pub mod Refusals
pub mod Reading
pub mod Kept
