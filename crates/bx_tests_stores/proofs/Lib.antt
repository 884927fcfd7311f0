pub mod Mirrors
pub mod Promises
pub mod Rooms
pub mod Together
