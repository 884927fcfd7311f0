pub mod Audited
pub mod Blocks
pub mod Walked
