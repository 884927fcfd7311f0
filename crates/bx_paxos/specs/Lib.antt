pub mod Counted
pub mod Fits
pub mod Machines
pub mod Reading
pub mod Shown
