-- Disks of zeros hold a volume without a block in use.
use Rattle.std.proofs.Common.{◌≡◌, ℕ, ◌+◌, ◌/◌, ◌<◌, ◌⊎◌, inl, inr, arith, Bool, true, false, List, replicate, ◌++◌, sym, ap, ◌∙◌, subst, refl}
use Rattle.std.specs.Prelude.{◌≢◌, nat_lt, slice_index}
use Rattle.std.proofs.lemmas.Bool.Decides.{nat_tests}
use Rattle.std.proofs.lemmas.List.{replicate-append-replicate}
use Rattle.bx_disk.specs.Disks.{blank_image, sector_of, zeros}
use Rattle.bx_calls.specs.Laws.{blank_sector}
use Rattle.bx_layout.specs.Blocks.{block_text, header_text}
use Rattle.bx_places.specs.Places.{IsVolume, IsBlock, block_place, block_slot}
use Rattle.bx_truth.specs.Opening.{free_block}
use Rattle.bx_truth.proofs.Cases.{eq_false, eq_true, same_or}
use Rattle.bx_volume.specs.Images.{devices_of, member_disk}
use Rattle.bx_volume.specs.Overlay.{IsHome}
use Rattle.bx_volume.proofs.Sizes.{length-block_text}
use Rattle.bx_format.specs.Formats.{areas_truth, HasSizes, HoldsBlocks}
use Rattle.bx_format.proofs.Made.{free_parts}
use Rattle.bx_format.proofs.Puts.{room_on}

-- a free block is zeros
free_header : header_text 0 0 ≡ replicate 512 0
free_header = refl

free_text : block_text free_block ≡ replicate 4608 0
unfolding free_block
free_text = ap (λ (l : List ℕ). l ++ replicate 4096 0) free_header ∙ replicate-append-replicate 512 4096 0

free_sector : (i : ℕ) → i < 9 → sector_of (block_text free_block) i ≡ zeros
free_sector i less = ap (λ (l : List ℕ). sector_of l i) free_text ∙ blank_sector 4608 i (omega arith)

none_in_use : (at : ℕ) → areas_truth 0 at ≡ free_block
none_in_use at = by (same_or (block_slot at) 960)
  where
    none : nat_lt (at / 1024) 0 ≡ false
    none = grind (arith, nat_tests)

    by : (block_slot at ≡ 960) ⊎ (block_slot at ≢ 960) → areas_truth 0 at ≡ free_block
    by (inl own) = rw (eq_true (block_slot at) 960 own, none) refl
    by (inr other) = rw (eq_false (block_slot at) 960 other) refl

pub blank_holds : (sizes : List ℕ) (devices areas : ℕ) → IsVolume devices areas → HasSizes sizes devices areas → HoldsBlocks (blank_image sizes) devices areas (areas_truth 0)
blank_holds sizes devices areas volume has = record {
  home = λ member at is.
      subst (IsHome (devices_of (blank_image sizes) (λ device sector. member)) devices at) (sym (none_in_use at)) (record {
        is = free_parts;
        reads = record {
          each = λ i less.
              blank (member_disk (block_place at devices).0 member) ((block_place at devices).1 + i)
              (within member at is i (subst (λ (n : ℕ). i < n) (length-block_text free_block free_parts) less))
              ∙ sym (free_sector i (subst (λ (n : ℕ). i < n) (length-block_text free_block free_parts) less));
        };
      });
}
  where
    blank : (disk sector : ℕ) → sector < slice_index sizes disk → blank_image sizes disk sector ≡ zeros
    blank disk sector less = rw (the sector less) refl
      where
        the : (s : ℕ) → s < slice_index sizes disk → nat_lt s (slice_index sizes disk) ≡ true
        the s less = grind (arith, nat_tests, less)

    within : (member : Bool) (at : ℕ) → IsBlock areas at → (i : ℕ) → i < 9 → (block_place at devices).1 + i < slice_index sizes (member_disk (block_place at devices).0 member)
    within member at is i less = let r = room_on sizes devices areas at member has volume is in omega (arith, r, less)
