pub mod Found
pub mod Landed
pub mod Read
pub mod Told
pub mod Sending
pub mod Homed
pub mod Sent
