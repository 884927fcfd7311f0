pub mod Sectors
pub mod Headers
pub mod Kept
pub mod Labelled
pub mod Counts
pub mod Absent
pub mod Standing
pub mod Rooms
