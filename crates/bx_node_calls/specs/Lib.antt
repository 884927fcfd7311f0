pub mod Turns
pub mod Waits
pub use Rattle.bx_nodes
