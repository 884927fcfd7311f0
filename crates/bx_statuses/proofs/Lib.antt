pub mod Reports
pub mod Refused
