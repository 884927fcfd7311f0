pub mod Formats
pub mod Moments
pub mod Kept
