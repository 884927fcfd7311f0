pub mod Datagrams
pub mod Draws
pub mod Progress
pub mod Schedules
