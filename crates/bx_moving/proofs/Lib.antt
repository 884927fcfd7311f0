pub mod Parents
pub mod Rooms
pub mod Edited
pub mod Settled
pub mod Brought
pub mod Order
pub mod Steps
