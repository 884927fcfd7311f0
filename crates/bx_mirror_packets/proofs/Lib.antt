pub mod Whole
pub mod Fields
pub mod Parted
pub mod Spelled
