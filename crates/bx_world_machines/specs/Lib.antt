pub mod Acts
pub mod Answering
pub mod AtOnce
pub mod Doubts
pub mod Machines
pub mod Standing
pub use Rattle.bx_node_calls
pub use Rattle.bx_node_calls.specs.bx_nodes
