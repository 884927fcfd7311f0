pub mod Crashed
pub mod Restarted
pub mod Stopped
