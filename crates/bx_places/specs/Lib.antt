pub mod Places
pub mod Handles
