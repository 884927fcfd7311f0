pub mod Beginning
pub mod Cluster
pub mod Keeps
pub mod Parts
pub use Rattle.bx_paxos
pub use Rattle.bx_paxos_found
