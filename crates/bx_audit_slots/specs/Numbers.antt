-- The numbers that are told of a chunk that is torn.
use Rattle.std.specs.Prelude.{◌≡◌, ℕ}
use Rattle.bx_audit_pages.specs.Shown.{IsOfSlot}
use Rattle.bx_homes.specs.Slots.{HasHandle}
use Rattle.bx_layout.specs.declared.block.Block.{Block}
use Rattle.bx_truth.specs.Chunks.{block_at}
use Rattle.bx_views.specs.Truths.{Truth}

-- What is told of a handle: the block of its slot, and the handle in its header, 0 where no block is there; block 0 and the handle itself for
-- one of no slot of the volume.
pub record IsToldOf (areas : ℕ) (stands : ℕ → Block → Type 0) (handle at found : ℕ) : Type 0 where
  pub slot : IsOfSlot areas handle → (at ≡ block_at handle) × HasHandle stands at found
  pub no_slot : (IsOfSlot areas handle → ⊥) → (at ≡ 0) × (found ≡ handle)

-- the block with a number is the one that a truth has
abbrev pub IsBlockOf : Truth → ℕ → Block → Type 0
IsBlockOf truth at block = block ≡ truth at
