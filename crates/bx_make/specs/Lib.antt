pub mod Counts
pub mod Feeding
pub mod Makes
