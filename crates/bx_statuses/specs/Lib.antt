pub mod Checks
pub mod Formats
pub mod Report
