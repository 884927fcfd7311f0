pub mod Disks
pub mod Moments
pub mod Counts
pub mod Crash
pub mod Past
pub mod Stops
pub mod Kept
