pub mod Splits
pub mod Cutting
pub mod Halves
pub use Rattle.bx_leaves
