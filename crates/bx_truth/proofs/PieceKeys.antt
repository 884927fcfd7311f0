-- Keys and values of pieces: what they name, and that different ones differ.
use Rattle.std.proofs.Common.{◌≡◌, ℕ, ◌+◌, ◌*◌, ◌^◌, ◌<◌, ◌≤◌, arith, Bool, true, false, List, drop, sym, ap, ◌∙◌, refl, Option, Some, None}
use Rattle.std.specs.Prelude.{◌≢◌, bytes_eq}
use Rattle.std.specs.Int.{w32, from_be_bytes}
use Rattle.std.proofs.lemmas.Nat.{from_be_bytes-to_be_bytes_4}
use Rattle.std.proofs.lemmas.Slice.Eq.{bytes_eq-Decides}
use Rattle.bx_views.specs.bx_layout.specs.declared.block.Block.{Block}
use Rattle.bx_views.specs.bx_layout.specs.Areas.{generation_in}
use Rattle.bx_places.specs.Places.{block_area, block_slot}
use Rattle.bx_truth.specs.Chunks.{chunks_of, block_at, word_at}
use Rattle.bx_truth.specs.Keys.{content_key, content_value}
use Rattle.bx_truth.specs.PageTrees.{handle_in}
use Rattle.bx_views.specs.Truths.{Truth}
use Rattle.bx_truth.proofs.Frames.{handle_back}
use Rattle.bx_truth.proofs.Same.{chunk_is}

pub none_some : {X : Type 0} (b : X) → ◌≡◌ {A = Option X} None (Some b) → ⊥
none_some b e = absurd cc

pub some_same : {X : Type 0} (x y : X) → Some x ≡ Some y → x ≡ y
some_same x y e = cc

pub yes : (a b : List ℕ) → a ≡ b → bytes_eq a b ≡ true
yes a b same = (bytes_eq-Decides a b).1 same

pub not_yes : (a b : List ℕ) → a ≢ b → bytes_eq a b ≡ false
not_yes a b other = by (bytes_eq a b) refl
  where
    by : (t : Bool) → bytes_eq a b ≡ t → t ≡ false
    by true is = absurd (other ((bytes_eq-Decides a b).0 is))
    by false is = refl

pub one_index : (n m : ℕ) → n < 2 ^ 32 → m < 2 ^ 32 → content_key n ≡ content_key m → n ≡ m
one_index n m fits_n fits_m same = sym (from_be_bytes-to_be_bytes_4 n fits_n) ∙ ap (λ (l : List ℕ). from_be_bytes w32 (drop 1 l)) same ∙ from_be_bytes-to_be_bytes_4 m fits_m

-- a value names one handle
pub one_handle : (a b : ℕ) → a < 2 ^ 64 → b < 2 ^ 64 → content_value a ≡ content_value b → a ≡ b
one_handle a b fits_a fits_b same = sym (handle_back a fits_a) ∙ ap handle_in same ∙ handle_back b fits_b

-- the handle of a chunk has 64 bits
pub chunk_fits : (areas : ℕ) (truth : Truth) (handle : ℕ) (block : Block) → areas ≤ 64 → chunks_of areas truth handle ≡ Some block → handle < 2 ^ 64
chunk_fits areas truth handle block few some =
    let c = chunk_is areas truth handle block some in
    let area = c.slot.area in
    let slot = c.slot.slot in
    by (block_area (block_at handle)) (block_slot (block_at handle)) (word_at truth (block_at handle)) c.is_handle area slot
  where
    by : (a s w : ℕ) → handle ≡ a * 2 ^ 48 + s * 2 ^ 32 + generation_in w → a < areas → s < 960 → handle < 2 ^ 64
    by a s w is in_areas in_slots = omega (arith, few, is, in_areas, in_slots)
