pub mod Tested
pub mod Linked
pub mod Comes
pub use Rattle.bx_entries.proofs.Lacks
