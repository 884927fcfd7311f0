pub mod Entries
pub mod Searches
pub mod Changes
pub mod Edits
pub use Rattle.bx_leaves.specs.bx_blink
