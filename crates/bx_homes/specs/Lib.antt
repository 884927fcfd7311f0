pub mod Sources
pub mod Slots
pub mod Standing
pub mod Reading
pub use Rattle.bx_volume
