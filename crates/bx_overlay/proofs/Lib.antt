pub mod Over
pub mod There
pub mod Shown
pub mod Refused
pub mod Moved
