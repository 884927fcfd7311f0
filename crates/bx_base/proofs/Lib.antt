pub mod Lines
pub mod Machines
pub mod Fields
pub mod Written
pub mod Whole
pub mod Lists
