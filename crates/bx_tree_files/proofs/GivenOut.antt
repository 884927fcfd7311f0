-- Handles kept in a set.
pub use Rattle.bx_tree_parts.proofs.GivenOut.{without-with}
