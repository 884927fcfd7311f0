pub mod Machines
pub mod Disks
pub mod Events
pub mod Steps
pub mod Meanings
pub mod Needs
pub mod Fitting
pub mod Laws
