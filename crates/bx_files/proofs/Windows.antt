-- Bytes of a file in a window of pieces.
use Rattle.std.proofs.Common.{◌≡◌, ℕ, ◌+◌, ◌-◌, ◌*◌, ◌/◌, ◌%◌, ◌<◌, ◌≤◌, arith, List, length, take, drop, get_or, Option, sym, ap, ◌∙◌, inl, inr}
use Rattle.std.specs.Prelude.{◌⊎◌, min, slice_range}
use Rattle.std.specs.Int.{div_ceil}
use Rattle.std.proofs.lemmas.Bool.{cases_lt}
use Rattle.std.proofs.lemmas.List.{ext_get_or, get_or-drop, get_or-take, length-drop, length-take}
use Rattle.std.proofs.lemmas.List.Edits.{get_or-between, length-between}
use Rattle.bx_layout.specs.declared.block.Block.{Block}
use Rattle.bx_chunks.specs.bx_truth.specs.Stored.{AreBytesOf, byte_in}
use Rattle.bx_files.specs.Reads.{AreOfPieces}

-- ---- pieces in numbers

pub piece_below : (len end number : ℕ) → end ≡ div_ceil len 4096 → number < end → 4096 * number < len
piece_below len end number is less = omega (arith, is, less)

pub all_below : (len end number place : ℕ) → end ≡ div_ceil len 4096 → end ≤ number → place < len → place < 4096 * number
all_below len end number place is most less = omega (arith, is, most, less)

pub few_pieces : (len end number : ℕ) → end ≡ div_ceil len 4096 → number < end → len ≤ 12288 → number < 3
few_pieces len end number is less most = omega (arith, is, less, most)

pub its_index : (number : ℕ) → 4096 * number / 4096 ≡ number
its_index number = omega arith

-- ---- one piece more

module _ (pieces : ℕ → Option Block) (first number : ℕ) (old new : List ℕ) where
  pub piece_more : AreOfPieces pieces first (4096 * number) old → ((place : ℕ) → place < 4096 * number → get_or new place 0 ≡ get_or old place 0)
      → ((place : ℕ) → place < 4096 → get_or new (4096 * number + place) 0 ≡ byte_in (pieces (first + number)) place) → AreOfPieces pieces first (4096 * (number + 1)) new
  piece_more are before here place less = by (cases_lt place (4096 * number))
    where
      by : (place < 4096 * number) ⊎ (4096 * number ≤ place) → get_or new place 0 ≡ byte_in (pieces (first + place / 4096)) (place % 4096)
      by (inl low) = before place low ∙ are place low
      by (inr high) =
          let in_piece : 4096 * number + place % 4096 ≡ place = omega (arith, high, less) in
          let index : first + number ≡ first + place / 4096 = omega (arith, high, less) in
          let small : place % 4096 < 4096 = omega arith in
          ap (λ (n : ℕ). get_or new n 0) (sym in_piece) ∙ here (place % 4096) small ∙ ap (λ (n : ℕ). byte_in (pieces n) (place % 4096)) index

-- ---- the window

module _ (pieces : ℕ → Option Block) (size tail : ℕ) (bytes into : List ℕ) (offset count start len from first : ℕ)
    (are : AreBytesOf pieces size tail bytes) (start_is : start ≡ min offset size) (len_is : len ≡ min (size - start) count)
    (from_is : from ≡ start % 4096) (first_is : first ≡ start / 4096) (long : length into ≡ 12288) (fits : from + len ≤ 12288) where
  window_long : length (slice_range into from (from + len)) ≡ length (take count (drop offset bytes))
  window_long =
      let here = length-between into from (from + len) (omega (arith, fits, long)) in
      let there = length-take count (drop offset bytes) in
      let rest = length-drop offset bytes in
      let whole = are.long in
      omega (arith, here, there, rest, whole, start_is, len_is)

  pub window : AreOfPieces pieces first (from + len) into → slice_range into from (from + len) ≡ take count (drop offset bytes)
  window held = ext_get_or 0 (slice_range into from (from + len)) (take count (drop offset bytes)) window_long each
    where
      each : (k : ℕ) → k < length (slice_range into from (from + len)) → get_or (slice_range into from (from + len)) k 0 ≡ get_or (take count (drop offset bytes)) k 0
      each k less =
          let here = length-between into from (from + len) (omega (arith, fits, long)) in
          let in_len : k < len = omega (arith, less, here) in
          let in_window : from + k < from + len = omega (arith, in_len) in
          let in_count : k < count = omega (arith, in_len, len_is) in
          let at : start ≡ offset = omega (arith, in_len, len_is, start_is) in
          let in_bytes : start + k < length bytes = let whole = are.long in omega (arith, in_len, len_is, whole) in
          let index : first + (from + k) / 4096 ≡ (start + k) / 4096 = omega (arith, from_is, first_is) in
          let inside : (from + k) % 4096 ≡ (start + k) % 4096 = omega (arith, from_is, first_is) in
          get_or-between into from (from + len) k 0 in_window
          ∙ held (from + k) in_window
          ∙ (λ i. byte_in (pieces (index i)) (inside i))
          ∙ sym (are.each (start + k) in_bytes)
          ∙ ap (λ (n : ℕ). get_or bytes (n + k) 0) at
          ∙ sym (get_or-drop offset bytes k 0)
          ∙ sym (get_or-take count (drop offset bytes) k 0 in_count)
