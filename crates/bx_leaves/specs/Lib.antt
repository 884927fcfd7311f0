pub mod Leaves
pub mod Changes
pub use Rattle.bx_blink
