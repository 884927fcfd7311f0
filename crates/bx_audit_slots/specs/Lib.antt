pub mod OwnBlocks
pub mod UsedSlots
pub mod Told
pub mod Numbers
