pub mod Closings
pub mod Sends
