-- Contents as lists of bytes, off what is at each place.
use Rattle.std.proofs.Common.{◌≡◌, ℕ, ◌+◌, ◌-◌, ◌*◌, ◌<◌, ◌≤◌, ◌⊎◌, inl, inr, min, arith, List, ◌++◌, length, take, drop, get_or, replicate, refl, sym, ap, ◌∙◌}
use Rattle.std.proofs.lemmas.List.{length-append, length-take, length-drop, length-replicate, get_or-replicate, get_or-take, get_or-drop, get_or-append_right, get_or_past}
use Rattle.std.proofs.Math.ListN.{get_or-append}
use Rattle.bx_tree_parts.specs.Contents.{sized, written_over}
use Rattle.bx_tree_parts.specs.Bytes.{bytes_from, HasNoneFrom, IsNextPiece, IsPut}
use Rattle.bx_tree_parts.specs.Sparse.{AreZerosFrom, IsNext}
use Rattle.bx_tree_parts.proofs.Places.{side, bytes_len, byte_there, is_bytes, part_bytes}

-- what is read
pub part_is : (at : ℕ → ℕ) (size offset count start len : ℕ) → start ≡ min size offset → len ≡ min (size - start) count → bytes_from at start len ≡ take count (drop offset (bytes_from at 0 size))
part_is at size offset count start len start_is len_is =
    let l = bytes_from at 0 size in
    let long : length (take count (drop offset l)) ≡ len = (let t = length-take count (drop offset l) in let d = length-drop offset l in omega (arith, t, d, bytes_len at 0 size, start_is, len_is)) in
    sym (is_bytes at start len (take count (drop offset l)) long
    (λ i less.
    get_or-take count (drop offset l) i 0 (omega (arith, less, len_is))
    ∙ get_or-drop offset l i 0
    ∙ byte_there at 0 size (offset + i) (omega (arith, less, start_is, len_is))
    ∙ ap at (omega (arith, less, start_is, len_is))))

module _ (at : ℕ → ℕ) (size : ℕ) where
  byte_is : (place : ℕ) → place < size → get_or (bytes_from at 0 size) place 0 ≡ at place
  byte_is place less = byte_there at 0 size place less ∙ ap at (omega arith)

  zero_is : (place : ℕ) → at place ≡ 0 → get_or (bytes_from at 0 size) place 0 ≡ 0
  zero_is place none = by (side place size)
    where
      by : (place < size) ⊎ (size ≤ place) → get_or (bytes_from at 0 size) place 0 ≡ 0
      by (inl less) = byte_is place less ∙ none
      by (inr from) = get_or_past (bytes_from at 0 size) place 0 (omega (arith, from, bytes_len at 0 size))

  -- the next piece
  pub none_next : (from : ℕ) → HasNoneFrom at from → AreZerosFrom (bytes_from at 0 size) (4096 * from)
  none_next from none place above = zero_is place (none place above)

  module _ (from index : ℕ) (piece : List ℕ) (next : IsNextPiece at from index piece) where
    pub past_next : size ≤ 4096 * index → AreZerosFrom (bytes_from at 0 size) (4096 * from)
    past_next past place above = by (side place size)
      where
        by : (place < size) ⊎ (size ≤ place) → get_or (bytes_from at 0 size) place 0 ≡ 0
        by (inl less) = zero_is place (next.before place above (omega (arith, less, past)))
        by (inr behind) = get_or_past (bytes_from at 0 size) place 0 (omega (arith, behind, bytes_len at 0 size))

    pub is_next : (len : ℕ) → 4096 * index < size → len ≡ min 4096 (size - 4096 * index) → IsNext (bytes_from at 0 size) from index (take len piece)
    is_next len within len_is = record {
      above = next.above;
      within = omega (arith, within, bytes_len at 0 size);
      is =
          part_bytes at (4096 * index) len 0 piece (omega (arith, len_is, next.long)) (λ i less. next.there (0 + i) (omega (arith, less, len_is)) ∙ ap at (omega arith))
          ∙ part_is at size (4096 * index) 4096 (4096 * index) len (omega (arith, within)) (omega (arith, len_is));
      before = λ place above below. zero_is place (next.before place above below);
    }

-- a size is set
pub resized : (at now : ℕ → ℕ) (was size : ℕ) → ((place : ℕ) → was ≤ place → at place ≡ 0) → ((place : ℕ) → place < size → now place ≡ at place)
    → bytes_from now 0 size ≡ sized size (bytes_from at 0 was)
resized at now was size behind same = sym (is_bytes now 0 size (sized size l) long (λ i less. each i less (side i was)))
  where
    l : List ℕ
    l = bytes_from at 0 was

    first : length (take size l) ≡ min size was
    first = length-take size l ∙ ap (min size) (bytes_len at 0 was)

    long : length (sized size l) ≡ size
    long =
        let e = length-append (take size l) (replicate (size - length l) 0) in
        let r = length-replicate {A = ℕ} (size - length l) 0 in omega (arith, e, r, first, bytes_len at 0 was)

    each : (i : ℕ) → i < size → (i < was) ⊎ (was ≤ i) → get_or (sized size l) i 0 ≡ now (0 + i)
    each i less (inl held) =
        get_or-append (take size l) (replicate (size - length l) 0) 0 i (omega (arith, less, held, first))
        ∙ get_or-take size l i 0 less
        ∙ byte_there at 0 was i held
        ∙ sym (same (0 + i) (omega (arith, less)))
    each i less (inr past) =
        get_or-append_right (take size l) (replicate (size - length l) 0) was i 0 (omega (arith, less, past, first)) past
        ∙ get_or-replicate (size - length l) (i - was) 0 0 (omega (arith, less, past, bytes_len at 0 was))
        ∙ sym (same (0 + i) (omega (arith, less)) ∙ behind (0 + i) (omega (arith, past)))

-- bytes are written
pub is_written : (at now : ℕ → ℕ) (was size offset : ℕ) (written : List ℕ) → ((place : ℕ) → was ≤ place → at place ≡ 0) → IsPut at now offset written
    → size ≡ offset + length written + (was - (offset + length written)) → bytes_from now 0 size ≡ written_over offset written (bytes_from at 0 was)
is_written at now was size offset written behind put size_is =
    sym (is_bytes now 0 size over over_long (λ i less. each i less (side i offset) (side i (offset + length written)))) ∙ ap (λ (first : List ℕ). (first ++ written) ++ drop (offset + length written) l) (resized at at was offset behind (λ place less. refl))
  where
    l : List ℕ
    l = bytes_from at 0 was

    front : List ℕ
    front = bytes_from at 0 offset

    over : List ℕ
    over = (front ++ written) ++ drop (offset + length written) l

    both_long : length (front ++ written) ≡ offset + length written
    both_long = length-append front written ∙ ap (λ (n : ℕ). n + length written) (bytes_len at 0 offset)

    over_long : length over ≡ size
    over_long =
        let e = length-append (front ++ written) (drop (offset + length written) l) in
        let d = length-drop (offset + length written) l in omega (arith, e, d, both_long, bytes_len at 0 was, size_is)

    each : (i : ℕ) → i < size → (i < offset) ⊎ (offset ≤ i) → (i < offset + length written) ⊎ (offset + length written ≤ i) → get_or over i 0 ≡ now (0 + i)
    each i less (inl before) other =
        get_or-append (front ++ written) (drop (offset + length written) l) 0 i (omega (arith, before, both_long))
        ∙ get_or-append front written 0 i (omega (arith, before, bytes_len at 0 offset))
        ∙ byte_there at 0 offset i before
        ∙ sym (put.before (0 + i) (omega (arith, before)))
    each i less (inr from) (inl here) =
        get_or-append (front ++ written) (drop (offset + length written) l) 0 i (omega (arith, here, both_long))
        ∙ get_or-append_right front written offset i 0 (bytes_len at 0 offset) from
        ∙ sym (put.here (0 + i) (omega (arith, from)) (omega (arith, here)) ∙ ap (λ (n : ℕ). get_or written n 0) (omega arith))
    each i less (inr from) (inr past) =
        get_or-append_right (front ++ written) (drop (offset + length written) l) (offset + length written) i 0 both_long past
        ∙ get_or-drop (offset + length written) l (i - (offset + length written)) 0
        ∙ ap (λ (n : ℕ). get_or l n 0) (omega (arith, past))
        ∙ byte_there at 0 was i (omega (arith, less, past, size_is))
        ∙ sym (put.behind (0 + i) (omega (arith, past)))
