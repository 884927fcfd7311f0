pub mod Begun
pub mod Sent
