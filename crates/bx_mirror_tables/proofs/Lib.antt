pub mod Lying
pub mod Noting
