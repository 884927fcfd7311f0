-- What contracts of room in trees speak of, in one place.
pub use Rattle.bx_blink.specs.Hints.{Under}
pub use Rattle.bx_chunks.specs.Taking.{NoSlots, TakesSlots}
pub use Rattle.bx_leaves.specs.Changes.{NeedsUnheld}
pub use Rattle.bx_truth.specs.PageTrees.{PageTree}
pub use Rattle.bx_views.specs.Attempts.{IsHeldDraft}
pub use Rattle.bx_views.specs.Truths.{Truth}
