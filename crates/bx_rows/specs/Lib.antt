pub mod Ballots
pub mod Conditions
pub mod Modes
pub mod Reading
pub mod Rows
pub mod Spelling
pub mod Words
pub use Rattle.bx_base
