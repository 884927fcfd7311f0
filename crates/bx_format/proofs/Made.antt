-- The truths of a volume while it is made, from one without a block in use to the opening truth.
use Rattle.std.proofs.Common.{◌≡◌, ℕ, ◌+◌, ◌*◌, ◌<◌, ◌≤◌, ◌⊎◌, inl, inr, arith, true, sym, ap, subst, refl}
use Rattle.std.specs.Prelude.{◌≢◌, nat_lt}
use Rattle.std.proofs.lemmas.Bool.Decides.{nat_tests}
use Rattle.bx_disk.specs.Disks.{Image}
use Rattle.bx_layout.specs.Blocks.{HasParts}
use Rattle.bx_places.specs.Places.{IsBlock, block_area, block_slot}
use Rattle.bx_truth.specs.Opening.{area_block, free_block, opening_truth, page_block, root_block}
use Rattle.bx_truth.proofs.Cases.{eq_false, eq_true, same_or}
use Rattle.bx_truth.proofs.OpeningBlocks.{opening_has}
use Rattle.bx_views.specs.Truths.{Truth}
use Rattle.bx_volume.specs.Images.{devices_of}
use Rattle.bx_volume.specs.Overlay.{IsHome}
use Rattle.bx_format.specs.Formats.{areas_truth, HoldsBlocks, with_chunk}

pub root_parts : HasParts root_block
root_parts = opening_has 1 0 (omega arith) (record { area = omega arith; slot = omega arith })

pub page_parts : HasParts page_block
page_parts = opening_has 1 1 (omega arith) (record { area = omega arith; slot = omega arith })

pub free_parts : HasParts free_block
free_parts = opening_has 1 2 (omega arith) (record { area = omega arith; slot = omega arith })

-- the number of an area's own block
own_slot : (area : ℕ) → block_slot (1024 * area + 960) ≡ 960
own_slot area = omega arith

own_area : (area : ℕ) → block_area (1024 * area + 960) ≡ area
own_area area = omega arith

pub own_parts : (areas area : ℕ) → areas ≤ 64 → area < areas → HasParts (area_block area)
own_parts areas area few less =
    subst HasParts (rw (eq_true (block_slot (1024 * area + 960)) 960 (own_slot area)) (ap area_block (own_area area)))
    (opening_has areas (1024 * area + 960) few (record { area = subst (λ (a : ℕ). a < areas) (sym (own_area area)) less; slot = omega (arith, own_slot area) }))

-- truths that agree on the blocks of a volume
pub same_blocks : (image : Image) (devices areas : ℕ) (truth other : Truth) → HoldsBlocks image devices areas truth
    → ((at : ℕ) → IsBlock areas at → truth at ≡ other at) → HoldsBlocks image devices areas other
same_blocks image devices areas truth other holds same = record {
  home = λ member at is. subst (IsHome (devices_of image (λ device sector. member)) devices at) (same at is) (holds.home member at is);
}

-- one more area has its own block
pub one_area : (area at : ℕ) → with_chunk (areas_truth area) (1024 * area + 960) (area_block area) at ≡ areas_truth (area + 1) at
one_area area at = by (same_or at (1024 * area + 960)) (same_or (block_slot at) 960)
  where
    more : block_area at ≢ area → nat_lt (block_area at) area ≡ nat_lt (block_area at) (area + 1)
    more other = grind (arith, nat_tests)

    there : nat_lt area (area + 1) ≡ true
    there = grind (arith, nat_tests)

    own : block_slot (1024 * area + 960) ≡ 960
    own = own_slot area

    back : at ≢ 1024 * area + 960 → block_slot at ≡ 960 → block_area at ≢ area
    back other slot same = other (omega (arith, slot, same))

    by : (at ≡ 1024 * area + 960) ⊎ (at ≢ 1024 * area + 960) → (block_slot at ≡ 960) ⊎ (block_slot at ≢ 960)
        → with_chunk (areas_truth area) (1024 * area + 960) (area_block area) at ≡ areas_truth (area + 1) at
    by (inl same) slot = rw (same, eq_true (1024 * area + 960) (1024 * area + 960) refl, eq_true (block_slot (1024 * area + 960)) 960 own, own_area area, there) refl
    by (inr other) (inl slot) = rw (eq_false at (1024 * area + 960) other, eq_true (block_slot at) 960 slot, more (back other slot)) refl
    by (inr other) (inr slot) = rw (eq_false at (1024 * area + 960) other, eq_false (block_slot at) 960 slot) refl

-- all areas have theirs, and the root is there
pub root_is_made : (areas at : ℕ) → IsBlock areas at → with_chunk (with_chunk (areas_truth areas) 0 root_block) 1 page_block at ≡ opening_truth at
root_is_made areas at is = by (same_or at 1) (same_or at 0) (same_or (block_slot at) 960)
  where
    there : nat_lt (block_area at) areas ≡ true
    there = grind (arith, nat_tests, is.area)

    by : (at ≡ 1) ⊎ (at ≢ 1) → (at ≡ 0) ⊎ (at ≢ 0) → (block_slot at ≡ 960) ⊎ (block_slot at ≢ 960)
        → with_chunk (with_chunk (areas_truth areas) 0 root_block) 1 page_block at ≡ opening_truth at
    by (inl page) root own = rw page refl
    by (inr not_page) (inl root) own = rw root refl
    by (inr not_page) (inr not_root) (inl own) = rw (eq_false at 1 not_page, eq_false at 0 not_root, eq_true (block_slot at) 960 own, there) refl
    by (inr not_page) (inr not_root) (inr other) = rw (eq_false at 1 not_page, eq_false at 0 not_root, eq_false (block_slot at) 960 other) refl
