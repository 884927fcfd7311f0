pub mod Chosen
pub mod Labelling
pub mod OneRead
pub mod Refusals
pub mod Sectors
pub mod Seeing
pub mod Threes
pub mod Views
