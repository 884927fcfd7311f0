pub mod Machines
pub mod Nodes
pub mod Recoveries
pub mod Recovering
pub mod Stopping
pub use Rattle.bx_recover
