pub mod OfKind
pub mod PairedEntries
pub mod Rising
pub mod NamesOfTrees
pub mod Steps
pub mod Followers
