pub mod Following
pub mod Lists
pub mod Machines
pub mod Sessions
