pub mod Renamed
pub mod Swapped
pub mod Ways
