-- What is told of the own blocks of areas.
use Rattle.std.specs.Prelude.{◌≡◌, ℕ, List, length, slice_get, Some}
use Rattle.bx_audit_slots.specs.declared.own_blocks.OwnBlock.{OwnBlock}
use Rattle.bx_audit_slots.specs.declared.own_blocks.OwnBlock.TheVariants.{Slots, Wrong}
use Rattle.bx_homes.specs.Slots.{HasHandle}
use Rattle.bx_layout.specs.declared.block.Block.{Block}
use Rattle.bx_layout.specs.Areas.{IsArea, SpellsArea}
use Rattle.bx_truth.specs.Chunks.{IsAreaBlock, own_block}

-- an area's own block is told: it is one, with these slots; or it is none, and this is the handle in its header
abbrev pub TellsOwn : (ℕ → Block → Type 0) → ℕ → OwnBlock → Type 0
TellsOwn stands area (Slots slots) = (own : Block) × stands (own_block area) own × IsAreaBlock area own × SpellsArea slots own.payload
TellsOwn stands area (Wrong found) = HasHandle stands (own_block area) found × ((own : Block) → stands (own_block area) own → IsAreaBlock area own → ⊥)

-- those of so many areas are told
pub record AreOwn (stands : ℕ → Block → Type 0) (areas : ℕ) (owns : List OwnBlock) : Type 0 where
  pub count : length owns ≡ areas
  pub tells : (area : ℕ) (own : OwnBlock) → slice_get owns area ≡ Some own → TellsOwn stands area own

abbrev pub HasArea : OwnBlock → Type 0
HasArea (Slots slots) = IsArea slots
HasArea (Wrong found) = Unit {0}
