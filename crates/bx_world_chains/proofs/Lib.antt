pub mod Chains
pub mod Changed
pub mod Rows
pub mod Sessions
