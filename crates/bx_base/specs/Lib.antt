pub mod Actors
pub mod Bytes
pub mod Faults
pub mod Text
pub mod Reading
pub mod Writing
