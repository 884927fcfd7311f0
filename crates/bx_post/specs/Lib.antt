pub mod Lanes
pub mod Machines
pub mod Posts
pub mod Rising
pub mod Slots
