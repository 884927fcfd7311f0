pub mod Steps
pub mod Sending
pub mod Lookups
mod Turns
mod Placing
