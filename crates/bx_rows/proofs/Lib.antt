pub mod Ballots
pub mod Fields
pub mod Loops
pub mod Pushed
