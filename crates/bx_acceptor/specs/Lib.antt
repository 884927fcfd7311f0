pub mod Disks
pub mod Saving
pub mod Standing
pub mod Starting
