pub mod Nodes
pub mod Rooms
