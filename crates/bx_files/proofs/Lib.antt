pub mod Needs
pub mod Slots
pub mod Told
pub mod Windows
