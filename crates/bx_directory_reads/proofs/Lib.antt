pub mod Along
pub mod Putting
pub mod Followed
pub mod LookedUp
pub mod RunSlots
pub mod Wider
pub use Rattle.bx_reads.proofs.Told
