pub mod Left
pub mod Legal
pub mod Readings
pub mod Recovered
pub mod Trees
pub mod Volumes
