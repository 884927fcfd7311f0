-- Drafts in which slots are taken one after the other, and what the next slot needs.
use Rattle.std.specs.Prelude.{◌≡◌, ℕ, ◌↔◌, List, Some, Ok, Err}
use Rattle.bx_base.specs.declared.names.Mode.{Mode}
use Rattle.bx_base.specs.declared.names.Mode.TheVariants.{Shared}
use Rattle.bx_layout.specs.declared.area.AreaBlock.{AreaBlock}
use Rattle.bx_layout.specs.declared.block.Block.{Block}
use Rattle.bx_records.specs.Drafts.{Changed}
use Rattle.bx_truth.specs.Chunks.{own_block}
use Rattle.bx_truth.specs.bx_views.specs.Truths.{Held}
use Rattle.bx_chunks.specs.Allocating.{AllocatesAt}
use Rattle.bx_chunks.specs.Areas.{HasSlots, seen_in}
use Rattle.bx_chunks.specs.declared.error.ChunkError.TheVariants.{Need, Full}

-- an area is held, and as the draft leaves it, it has these slots
pub record ShowsSlots (held : Held) (draft : List Changed) (area : ℕ) (slots : AreaBlock) : Type 0 where
  pub block : Block
  pub there : seen_in held draft (own_block area) Shared ≡ Some block
  pub has : HasSlots area slots block

-- what is seen in a block isn't an area's own one
abbrev pub IsNoArea : Held → List Changed → ℕ → Type 0
IsNoArea held draft at = (area : ℕ) (slots : AreaBlock) → own_block area ≡ at → ShowsSlots held draft area slots → ⊥

-- two drafts leave all slots alike
abbrev pub LeavesSlots : Held → List Changed → List Changed → Type 0
LeavesSlots held old new = (area : ℕ) (slots : AreaBlock) → ShowsSlots held old area slots ↔ ShowsSlots held new area slots

-- From a first draft on, slots are taken one after the other, near an area. What else is changed leaves all slots as they are.
pub data TakesSlots (held : Held) (near areas : ℕ) (first : List Changed) : List Changed → Type 0 where
  none : TakesSlots held near areas first first
  more : (old new : List Changed) (handle : ℕ) → TakesSlots held near areas first old → AllocatesAt held old new near areas (Ok handle) → TakesSlots held near areas first new
  other : (old new : List Changed) → TakesSlots held near areas first old → LeavesSlots held old new → TakesSlots held near areas first new

-- The path of taking slots: what the next one needs.
pub record OnSlots (held : Held) (near areas : ℕ) (first : List Changed) (at : ℕ) (mode : Mode) : Type 0 where
  pub draft : List Changed
  pub taken : TakesSlots held near areas first draft
  pub needs : AllocatesAt held draft draft near areas (Err (Need at mode))

-- The next slot isn't there: every area is held, none has a free slot left, and so many were free in the view.
pub record NoSlots (held : Held) (near areas : ℕ) (first : List Changed) (spare : ℕ) : Type 0 where
  pub draft : List Changed
  pub taken : TakesSlots held near areas first draft
  pub full : AllocatesAt held draft draft near areas (Err (Full spare))
