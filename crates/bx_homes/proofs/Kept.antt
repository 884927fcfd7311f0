-- Blocks that stay.
use Rattle.std.proofs.Common.{◌≡◌, ℕ, ◌+◌, ◌*◌, ◌<◌, ◌≤◌, ◌⊎◌, ⊎_elim, arith, subst}
use Rattle.bx_layout.specs.declared.block.Block.{Block}
use Rattle.bx_places.specs.Places.{IsBlock, block_area, block_slot}
use Rattle.bx_volume.specs.bx_truth.specs.Chunks.{own_block}
use Rattle.bx_volume.specs.bx_views.specs.Truths.{Truth}
use Rattle.bx_homes.specs.Slots.{AreBlocks, HasBlock, HasArea, HasHandle, StaysSo}

pub are_still : (areas : ℕ) (before now : ℕ → Block → Type 0) (truth : Truth) → StaysSo before now → AreBlocks areas before truth → AreBlocks areas now truth
are_still areas before now truth stays are = λ at is. (stays at (truth at)).0 (are at is)

pub stays_then : (before mid now : ℕ → Block → Type 0) → StaysSo before mid → StaysSo mid now → StaysSo before now
stays_then before mid now first next = λ at block. (λ is. (next at block).0 ((first at block).0 is), λ is. (first at block).1 ((next at block).1 is))

pub was_there : (before now : ℕ → Block → Type 0) (at : ℕ) → StaysSo before now → HasBlock now at → HasBlock before at
was_there before now at stays has = record { block = has.block; is = (stays at has.block).1 has.is }

pub had_handle : (before now : ℕ → Block → Type 0) (at handle : ℕ) → StaysSo before now → HasHandle now at handle → HasHandle before at handle
had_handle before now at handle stays has = record {
  there = λ block is. has.there block ((stays at block).0 is);
  absent = λ none. has.absent (λ block is. none block ((stays at block).1 is));
}

pub area_was_there : (before now : ℕ → Block → Type 0) (area : ℕ) → StaysSo before now → HasArea now area → HasArea before area
area_was_there before now area stays has = record {
  own = was_there before now (own_block area) stays has.own;
  slots = λ slot less. was_there before now (1024 * area + slot) stays (has.slots slot less);
}

-- each block of a volume is an area's own or a slot's
pub all_there : (areas : ℕ) (stands : ℕ → Block → Type 0) → ((area : ℕ) → area < areas → HasArea stands area) → (at : ℕ) → IsBlock areas at → HasBlock stands at
all_there areas stands each at is = ⊎_elim
    (λ less. subst (HasBlock stands) whole ((each (block_area at) is.area).slots (block_slot at) less))
    (λ last. subst (HasBlock stands) (own last) (each (block_area at) is.area).own)
    (side (block_slot at) is.slot)
  where
    side : (n : ℕ) → n ≤ 960 → (n < 960) ⊎ (n ≡ 960)
    side n le = grind (arith, le)

    whole : 1024 * block_area at + block_slot at ≡ at
    whole = omega arith

    own : block_slot at ≡ 960 → own_block (block_area at) ≡ at
    own last = omega (arith, last)
