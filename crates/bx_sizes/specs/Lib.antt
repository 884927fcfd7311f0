pub mod Answers
pub mod Clearing
pub mod Cuts
pub mod FirstPieces
pub mod Lengths
pub mod Setting
pub mod Steps
