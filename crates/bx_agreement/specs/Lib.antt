pub mod Cells
pub mod Events
pub mod History
pub mod Passing
pub mod Round
pub mod Sound
