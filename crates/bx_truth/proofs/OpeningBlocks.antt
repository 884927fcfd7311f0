-- Each block of the opening truth is a block.
use Rattle.std.proofs.Common.{refl, ◌≡◌, ℕ, ◌^◌, ◌<◌, ◌≤◌, ◌⊎◌, inl, inr, arith}
use Rattle.std.specs.Prelude.{◌≢◌}
use Rattle.std.proofs.lemmas.List.{length-replicate}
use Rattle.bx_page.specs.bx_base.proofs.Whole.{length-padded}
use Rattle.bx_views.specs.bx_layout.specs.Areas.{area_text}
use Rattle.bx_views.specs.bx_layout.specs.Blocks.{HasParts, IsOwn}
use Rattle.bx_views.specs.bx_layout.specs.Inodes.{inode_text}
use Rattle.bx_views.specs.bx_layout.proofs.AreaFields.{length-area_text}
use Rattle.bx_views.specs.bx_layout.proofs.InodeFields.{length-inode_text}
use Rattle.bx_page.proofs.Whole.{length-page_bytes}
use Rattle.bx_places.specs.Places.{IsBlock, block_area, block_slot}
use Rattle.bx_places.specs.Handles.{number_of, own_handle, parts_of}
use Rattle.bx_truth.specs.Opening.{area_block, root_block, page_block, free_block, empty_page, opening_inode, opening_slots, opening_truth}
use Rattle.bx_truth.proofs.Cases.{same_or, eq_true, eq_false}
use Rattle.bx_truth.proofs.OpeningSlots.{opening_area}

own_is : (area handle : ℕ) → area < 64 → handle ≡ number_of (own_handle area) → IsOwn (parts_of handle)
own_is area handle few is = record { area = omega (arith, few, is); slot = omega (arith, is); generation = omega (arith, is) }

own_has : (area : ℕ) → area < 64 → HasParts (area_block area)
unfolding area_block
own_has area few = record {
  handle = fits (number_of (own_handle area)) refl;
  kind = omega arith;
  own = λ four. own_is area (number_of (own_handle area)) few refl;
  payload = length-padded 4096 (area_text (opening_slots area)) (let long = length-area_text (opening_slots area) (opening_area area) in omega (arith, long));
}
  where
    fits : (handle : ℕ) → handle ≡ number_of (own_handle area) → handle < 2 ^ 64
    fits handle is = omega (arith, few, is)

root_has : HasParts root_block
unfolding root_block
root_has = record {
  handle = omega arith;
  kind = omega arith;
  own = λ four. absurd (omega (arith, four));
  payload = length-padded 4096 (inode_text opening_inode) (let long = length-inode_text opening_inode in omega (arith, long));
}

page_has : HasParts page_block
unfolding page_block
page_has = record {
  handle = omega arith;
  kind = omega arith;
  own = λ four. absurd (omega (arith, four));
  payload = length-page_bytes empty_page (omega arith);
}

free_has : HasParts free_block
unfolding free_block
free_has = record {
  handle = omega arith;
  kind = omega arith;
  own = λ four. absurd (omega (arith, four));
  payload = length-replicate {A = ℕ} 4096 0;
}

pub opening_has : (areas at : ℕ) → areas ≤ 64 → IsBlock areas at → HasParts (opening_truth at)
opening_has areas at few is = by (same_or (block_slot at) 960) (same_or at 0) (same_or at 1)
  where
    low : (area : ℕ) → area < areas → area < 64
    low area less = omega (arith, few, less)

    by : (block_slot at ≡ 960) ⊎ (block_slot at ≢ 960) → (at ≡ 0) ⊎ (at ≢ 0) → (at ≡ 1) ⊎ (at ≢ 1) → HasParts (opening_truth at)
    by (inl own) first second = rw (eq_true (block_slot at) 960 own) (own_has (block_area at) (low (block_area at) is.area))
    by (inr other) (inl first) second = rw (eq_false (block_slot at) 960 other, eq_true at 0 first) root_has
    by (inr other) (inr not_first) (inl second) = rw (eq_false (block_slot at) 960 other, eq_false at 0 not_first, eq_true at 1 second) page_has
    by (inr other) (inr not_first) (inr not_second) = rw (eq_false (block_slot at) 960 other, eq_false at 0 not_first, eq_false at 1 not_second) free_has
