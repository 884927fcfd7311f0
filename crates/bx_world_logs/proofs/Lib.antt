pub mod Activities
pub mod Growing
pub mod Moving
pub mod Regions
