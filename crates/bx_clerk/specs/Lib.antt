pub mod Requests
pub mod Turns
pub mod Places
pub mod Clerks
pub mod Events
