-- What a step of a node makes of what its cache shows.
use Rattle.std.specs.Prelude.{◌≡◌, ◌≢◌, ◌⊎◌, ℕ, Some, None}
use Rattle.bx_base.specs.declared.names.Mode.{Mode}
use Rattle.bx_base.specs.declared.names.Mode.TheVariants.{Exclusive}
use Rattle.bx_records.specs.Drafts.{Block}
use Rattle.bx_views.specs.Truths.{Held}

-- A view with one block more, that is held in this mode: where it is held exclusively it shows for both modes.
pub record ShowsOne (at : ℕ) (way : Mode) (block : Block) (old new : Held) : Type 0 where
  pub here : (mode : Mode) (other : Block) → new at mode ≡ Some other → (other ≡ block) × ((way ≡ mode) ⊎ (way ≡ Exclusive))
  pub others : (other : ℕ) (mode : Mode) → other ≢ at → new other mode ≡ old other mode

-- A view without one block.
pub record Hides (at : ℕ) (old new : Held) : Type 0 where
  pub here : (mode : Mode) → new at mode ≡ None
  pub others : (other : ℕ) (mode : Mode) → other ≢ at → new other mode ≡ old other mode
