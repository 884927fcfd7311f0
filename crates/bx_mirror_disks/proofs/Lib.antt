pub mod Labelling
pub mod Putting
pub mod Rooms
