-- What contracts of files that are made, and of files that die, speak of, in one place.
pub use Rattle.bx_chunks.specs.Allocating.{NeedsFairly}
pub use Rattle.bx_layout.specs.Inodes.{IsInode}
pub use Rattle.bx_model.specs.declared.tree.Tree.{Tree}
pub use Rattle.bx_truth.specs.Stands.{StandsFor}
pub use Rattle.bx_views.specs.Attempts.{IsHeldDraft}
pub use Rattle.bx_views.specs.Truths.{IsTruth, Truth, with_draft}
