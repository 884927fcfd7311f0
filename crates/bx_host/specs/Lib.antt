pub mod Errors
pub mod Hearing
pub mod Lost
pub mod Sending
pub mod Serves
pub mod Standing
pub mod Steps
pub mod Turns
