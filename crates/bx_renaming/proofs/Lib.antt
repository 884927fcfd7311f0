pub mod Finds
pub mod Placed
pub mod Tested
pub mod Passed
pub mod Rooms
pub mod Comes
pub mod Lacks
