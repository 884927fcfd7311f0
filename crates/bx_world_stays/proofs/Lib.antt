pub mod Begins
pub mod Drops
pub mod Heard
pub mod Labels
pub mod Stays
