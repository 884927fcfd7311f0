pub mod Steps
pub mod Searches
pub mod Behind
pub mod Fits
pub mod Whole
pub mod Cuts
pub mod Writes
