-- The numbers that are told of a handle, once slots are right.
use Rattle.std.proofs.Common.{◌≡◌, ℕ, ◌<◌, ◌≤◌, ◌%◌, ◌/◌, ◌*◌, ◌+◌, arith, List, sym, ap, ◌∙◌, subst, refl}
use Rattle.bx_audit_slots.specs.declared.slots.UsedSlot.{UsedSlot}
use Rattle.bx_audit_slots.specs.Numbers.{IsBlockOf, IsToldOf}
use Rattle.bx_audit_slots.specs.UsedSlots.{AreUsed, IsHandleOf}
use Rattle.bx_audit_slots.proofs.InUse.{header_is}
use Rattle.bx_audit_pages.specs.Shown.{IsOfSlot}
use Rattle.bx_homes.specs.Slots.{HasHandle}
use Rattle.bx_layout.specs.declared.block.Block.{Block}
use Rattle.bx_truth.specs.Chunks.{IsChunked, IsSlot, block_at}
use Rattle.bx_views.specs.Truths.{Truth}

-- the block of a slot of the volume is one of a slot
pub slot_of : (areas handle : ℕ) → IsOfSlot areas handle → IsSlot areas (block_at handle)
slot_of areas handle is = by (handle / 281474976710656) (handle / 4294967296 % 65536) is.0 is.1
  where
    by : (area slot : ℕ) → area < areas → slot < 960 → IsSlot areas (1024 * area + slot)
    by area slot is_area is_slot = record { area = omega (arith, is_area, is_slot); slot = omega (arith, is_area, is_slot) }

-- the header of its block is told
pub told_in : (areas : ℕ) (truth : Truth) (few : areas ≤ 64) (slots : List UsedSlot) (handle at found : ℕ) → AreUsed areas truth slots → IsChunked areas truth → IsOfSlot areas handle → at ≡ block_at handle
    → IsHandleOf slots at found → IsToldOf areas (IsBlockOf truth) handle at found
told_in areas truth few slots handle at found are chunked is here names = record {
  slot = λ other. (here, headed);
  no_slot = λ never. absurd (never is);
}
  where
    found_is : found ≡ (truth at).handle
    found_is = header_is areas truth few slots are chunked at found (subst (IsSlot areas) (sym here) (slot_of areas handle is)) names

    headed : HasHandle (IsBlockOf truth) at found
    headed = record { there = λ block same. ap (λ (b : Block). b.handle) same ∙ sym found_is; absent = λ none. absurd (none (truth at) refl) }

-- of a handle of no slot, that it is found in block 0
pub told_none : (areas : ℕ) (truth : Truth) (handle : ℕ) → (IsOfSlot areas handle → ⊥) → IsToldOf areas (IsBlockOf truth) handle 0 handle
told_none areas truth handle never = record { slot = λ is. absurd (never is); no_slot = λ none. (refl, refl) }
