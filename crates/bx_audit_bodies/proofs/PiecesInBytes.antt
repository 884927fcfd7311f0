-- The bytes of a piece in those of a file.
use Rattle.std.proofs.Common.{◌≡◌, ℕ, ◌+◌, ◌-◌, ◌*◌, ◌/◌, ◌%◌, ◌^◌, ◌<◌, ◌≤◌, ◌⊎◌, inl, inr, min, arith, Bool, true, false, List, ◌++◌, length, take, drop, get_or, replicate, refl, sym, ap, ◌∙◌, subst, Option, Some, None}
use Rattle.std.specs.Prelude.{◌≢◌, nat_lt, if◌then◌else◌}
use Rattle.std.proofs.lemmas.Bool.Decides.{nat_tests}
use Rattle.std.proofs.lemmas.List.{append-nil, length-append, length-take, length-drop, length-replicate, get_or-replicate, get_or-take, get_or-drop, get_or-append_right, get_or_past}
use Rattle.std.proofs.Math.ListN.{get_or-append}
use Rattle.bx_layout.specs.declared.block.Block.{Block}
use Rattle.bx_tree_files.specs.Contents.{sized, written_over}
use Rattle.bx_truth.proofs.Cases.{same_or}
use Rattle.bx_truth.specs.Stored.{byte_in, AreBytesOf}
use Rattle.bx_audit_bodies.specs.Contents.{IsClear, with_piece}

-- ---- bytes written over others

module _ (start : ℕ) (part old : List ℕ) (within : start + length part ≤ length old) where
  front : sized start old ≡ take start old
  front =
      let none : start - length old ≡ 0 = omega (arith, within) in
      ap (λ (n : ℕ). take start old ++ replicate n 0) none ∙ append-nil (take start old)

  front_long : length (take start old) ≡ start
  front_long = let e = length-take start old in omega (arith, e, within)

  both : written_over start part old ≡ (take start old ++ part) ++ drop (start + length part) old
  both = ap (λ (l : List ℕ). (l ++ part) ++ drop (start + length part) old) front

  both_long : length (take start old ++ part) ≡ start + length part
  both_long = let e = length-append (take start old) part in omega (arith, e, front_long)

  pub over_long : length (written_over start part old) ≡ length old
  over_long =
      ap length both ∙ (let e = length-append (take start old ++ part) (drop (start + length part) old) in let d = length-drop (start + length part) old in omega (arith, e, d, both_long, within))

  pub over_before : (place : ℕ) → place < start → get_or (written_over start part old) place 0 ≡ get_or old place 0
  over_before place less =
      ap (λ (l : List ℕ). get_or l place 0) both
      ∙ get_or-append (take start old ++ part) (drop (start + length part) old) 0 place (omega (arith, both_long, less))
      ∙ get_or-append (take start old) part 0 place (omega (arith, front_long, less))
      ∙ get_or-take start old place 0 less

  pub over_there : (place : ℕ) → start ≤ place → place < start + length part → get_or (written_over start part old) place 0 ≡ get_or part (place - start) 0
  over_there place from less =
      ap (λ (l : List ℕ). get_or l place 0) both
      ∙ get_or-append (take start old ++ part) (drop (start + length part) old) 0 place (omega (arith, both_long, less))
      ∙ get_or-append_right (take start old) part start place 0 front_long from

  pub over_behind : (place : ℕ) → start + length part ≤ place → get_or (written_over start part old) place 0 ≡ get_or old place 0
  over_behind place from =
      ap (λ (l : List ℕ). get_or l place 0) both
      ∙ get_or-append_right (take start old ++ part) (drop (start + length part) old) (start + length part) place 0 both_long from
      ∙ get_or-drop (start + length part) old (place - (start + length part)) 0
      ∙ ap (λ (n : ℕ). get_or old n 0) (omega (arith, from))

-- ---- a piece put into the bytes of a file

tested : (a b : ℕ) → (nat_lt a b ≡ true) ⊎ (nat_lt a b ≡ false)
tested a b = by (nat_lt a b)
  where
    by : (t : Bool) → (t ≡ true) ⊎ (t ≡ false)
    by true = inl refl
    by false = inr refl

less_of : (a b : ℕ) → nat_lt a b ≡ true → a < b
less_of a b is = grind (arith, nat_tests, is)

from_of : (a b : ℕ) → nat_lt a b ≡ false → b ≤ a
from_of a b is = grind (arith, nat_tests, is)

module _ (size index : ℕ) (payload old : List ℕ) (long : length old ≡ size) where
  abbrev part : List ℕ
  part = take (size - 4096 * index) (take 4096 payload)

  put_is : nat_lt (4096 * index) size ≡ true → with_piece size index payload old ≡ written_over (4096 * index) part old
  put_is is = ap (λ (t : Bool). if t then written_over (4096 * index) part old else old) is

  not_put : nat_lt (4096 * index) size ≡ false → with_piece size index payload old ≡ old
  not_put is = ap (λ (t : Bool). if t then written_over (4096 * index) part old else old) is

  part_len : length part ≡ min (size - 4096 * index) (min 4096 (length payload))
  part_len = length-take (size - 4096 * index) (take 4096 payload) ∙ ap (min (size - 4096 * index)) (length-take 4096 payload)

  room : nat_lt (4096 * index) size ≡ true → 4096 * index + length part ≤ length old
  room is = let less = less_of (4096 * index) size is in omega (arith, part_len, less, long)

  pub put_long : length (with_piece size index payload old) ≡ size
  put_long = by (tested (4096 * index) size)
    where
      by : (nat_lt (4096 * index) size ≡ true) ⊎ (nat_lt (4096 * index) size ≡ false) → length (with_piece size index payload old) ≡ size
      by (inl is) = ap length (put_is is) ∙ over_long (4096 * index) part old (room is) ∙ long
      by (inr is) = ap length (not_put is) ∙ long

  -- bytes of other pieces stay
  pub put_other : (place : ℕ) → place / 4096 ≢ index → get_or (with_piece size index payload old) place 0 ≡ get_or old place 0
  put_other place apart = by (tested (4096 * index) size)
    where
      side : (a b : ℕ) → (a < b) ⊎ (b ≤ a)
      side a b = grind arith

      at : nat_lt (4096 * index) size ≡ true → (place < 4096 * index) ⊎ (4096 * index ≤ place) → get_or (written_over (4096 * index) part old) place 0 ≡ get_or old place 0
      at is (inl less) = over_before (4096 * index) part old (room is) place less
      at is (inr from) = over_behind (4096 * index) part old (room is) place (omega (arith, part_len, from, apart))

      by : (nat_lt (4096 * index) size ≡ true) ⊎ (nat_lt (4096 * index) size ≡ false) → get_or (with_piece size index payload old) place 0 ≡ get_or old place 0
      by (inl is) = ap (λ (l : List ℕ). get_or l place 0) (put_is is) ∙ at is (side place (4096 * index))
      by (inr is) = ap (λ (l : List ℕ). get_or l place 0) (not_put is)

  -- those of the piece are there, where zeros were
  pub put_here : (place : ℕ) → place < size → place / 4096 ≡ index → get_or old place 0 ≡ 0 → get_or (with_piece size index payload old) place 0 ≡ get_or payload (place % 4096) 0
  put_here place less here was = ap (λ (l : List ℕ). get_or l place 0) (put_is is) ∙ by (side place (4096 * index + length part))
    where
      side : (a b : ℕ) → (a < b) ⊎ (b ≤ a)
      side a b = grind arith

      below : 4096 * index < size
      below = omega (arith, less, here)

      yes : (a b : ℕ) → a < b → nat_lt a b ≡ true
      yes a b h = grind (arith, nat_tests, h)

      is : nat_lt (4096 * index) size ≡ true
      is = yes (4096 * index) size below

      from : 4096 * index ≤ place
      from = omega (arith, here)

      inner : place - 4096 * index ≡ place % 4096
      inner = omega (arith, here)

      by : (place < 4096 * index + length part) ⊎ (4096 * index + length part ≤ place) → get_or (written_over (4096 * index) part old) place 0 ≡ get_or payload (place % 4096) 0
      by (inl there) =
          over_there (4096 * index) part old (room is) place from there
          ∙ get_or-take (size - 4096 * index) (take 4096 payload) (place - 4096 * index) 0 (omega (arith, less, from))
          ∙ get_or-take 4096 payload (place - 4096 * index) 0 (omega (arith, inner))
          ∙ ap (λ (n : ℕ). get_or payload n 0) inner
      by (inr behind) =
          let short : length payload ≤ place % 4096 = omega (arith, part_len, behind, inner, less, from) in
          over_behind (4096 * index) part old (room is) place behind ∙ was ∙ sym (get_or_past payload (place % 4096) 0 short)

-- ---- the bytes of pieces, with one more

pub no_bytes : (size tail : ℕ) (pieces : ℕ → Option Block) → ((index : ℕ) → pieces index ≡ None) → AreBytesOf pieces size tail (replicate size 0)
no_bytes size tail pieces none = record {
  long = length-replicate {A = ℕ} size 0;
  each = λ place less.
      get_or-replicate size place 0 0 (omega (arith, less, length-replicate {A = ℕ} size 0))
      ∙ sym (ap (λ (o : Option Block). byte_in o (place % 4096)) (none (place / 4096)));
  cleared = λ index place fits less past. ap (λ (o : Option Block). byte_in o place) (none index);
}

pub bytes_more : (pieces now : ℕ → Option Block) (size tail index : ℕ) (block : Block) (old : List ℕ) → AreBytesOf pieces size tail old → pieces index ≡ None → now index ≡ Some block
    → ((at : ℕ) → at ≢ index → now at ≡ pieces at) → IsClear tail index block.payload → AreBytesOf now size tail (with_piece size index block.payload old)
bytes_more pieces now size tail index block old are none here other clear = record {
  long = put_long size index block.payload old are.long;
  each = λ place less. each place (omega (arith, less, put_long size index block.payload old are.long)) (same_or (place / 4096) index);
  cleared = λ at place fits less past. cleared at place fits less past (same_or at index);
}
  where
    each : (place : ℕ) → place < size → (place / 4096 ≡ index) ⊎ (place / 4096 ≢ index) → get_or (with_piece size index block.payload old) place 0 ≡ byte_in (now (place / 4096)) (place % 4096)
    each place less (inl same) =
        let zero_there : get_or old place 0 ≡ 0 = are.each place (omega (arith, less, are.long)) ∙ ap (λ (o : Option Block). byte_in o (place % 4096)) (ap pieces same ∙ none) in
        put_here size index block.payload old are.long place less same zero_there
        ∙ sym (ap (λ (o : Option Block). byte_in o (place % 4096)) (ap now same ∙ here))
    each place less (inr apart) =
        put_other size index block.payload old are.long place apart
        ∙ are.each place (omega (arith, less, are.long))
        ∙ sym (ap (λ (o : Option Block). byte_in o (place % 4096)) (other (place / 4096) apart))

    cleared : (at place : ℕ) → at < 2 ^ 32 → place < 4096 → tail ≤ 4096 * at + place → (at ≡ index) ⊎ (at ≢ index) → byte_in (now at) place ≡ 0
    cleared at place fits less past (inl same) =
        ap (λ (o : Option Block). byte_in o place) (ap now same ∙ here) ∙ clear place less (subst (λ (n : ℕ). tail ≤ 4096 * n + place) same past)
    cleared at place fits less past (inr apart) = ap (λ (o : Option Block). byte_in o place) (other at apart) ∙ are.cleared at place fits less past
