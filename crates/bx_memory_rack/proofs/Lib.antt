pub mod Among
pub mod Sectors
pub mod Keeping
pub mod Owed
pub mod Racks
pub mod Blank
pub mod Passes
pub mod Crashing
