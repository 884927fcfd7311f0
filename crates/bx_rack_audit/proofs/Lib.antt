pub mod Labels
pub mod Own
pub mod Refused
pub mod Telling
