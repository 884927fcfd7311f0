-- The bytes of a file of another size, of one whose tail falls, and of one whose piece is cleared behind its end.
use Rattle.std.proofs.Common.{◌≡◌, ℕ, ◌+◌, ◌-◌, ◌*◌, ◌/◌, ◌%◌, ◌^◌, ◌<◌, ◌≤◌, arith, Bool, List, length, take, replicate, get_or, Option, Some, sym, ap, ◌∙◌, subst, refl, inl, inr}
use Rattle.std.specs.Prelude.{◌⊎◌, ◌≢◌, ◌==◌, if◌then◌else◌, max, min}
use Rattle.std.proofs.lemmas.Bool.{cases_lt}
use Rattle.std.proofs.lemmas.List.{get_or_append_left, get_or-append_right, get_or-replicate, get_or-take, length-append, length-replicate, length-take}
use Rattle.bx_layout.specs.declared.block.Block.{Block}
use Rattle.bx_tree_files.specs.Contents.{sized}
use Rattle.bx_truth.proofs.Cases.{eq_false, eq_true, same_or}
use Rattle.bx_truth.specs.Stored.{AreBytesOf, byte_in}
use Rattle.bx_sizes.specs.Steps.{IsCleared, kept_of}

-- a place is in its piece
place_is : (place : ℕ) → 4096 * (place / 4096) + place % 4096 ≡ place
place_is place = omega arith

module _ (pieces : ℕ → Option Block) (size tail : ℕ) (bytes : List ℕ) (are : AreBytesOf pieces size tail bytes) where
  -- ---- another size

  module _ (size_now : ℕ) (over : (size_now ≤ size) ⊎ (tail ≤ size)) (small : size_now ≤ 2 ^ 32) where
    pub long : length (sized size_now bytes) ≡ size_now
    long =
        let whole = length-append (take size_now bytes) (replicate (size_now - length bytes) 0) in
        let front = length-take size_now bytes in
        let rest = length-replicate {A = ℕ} (size_now - length bytes) 0 in
        omega (arith, whole, front, rest)

    below_tail : (place : ℕ) → place < size_now → size ≤ place → tail ≤ place
    below_tail place less past = by over
      where
        by : (size_now ≤ size) ⊎ (tail ≤ size) → tail ≤ place
        by (inl cut) = absurd (omega (arith, cut, less, past))
        by (inr low) = omega (arith, low, past)

    each : (place : ℕ) → place < length (sized size_now bytes) → get_or (sized size_now bytes) place 0 ≡ byte_in (pieces (place / 4096)) (place % 4096)
    each place within = by (cases_lt place (length bytes))
      where
        less : place < size_now
        less = omega (arith, within, long)

        front : length (take size_now bytes) ≡ min size_now (length bytes)
        front = length-take size_now bytes

        by : (place < length bytes) ⊎ (length bytes ≤ place) → get_or (sized size_now bytes) place 0 ≡ byte_in (pieces (place / 4096)) (place % 4096)
        by (inl low) =
            get_or_append_left (take size_now bytes) (replicate (size_now - length bytes) 0) 0 place (omega (arith, front, low, less))
            ∙ get_or-take size_now bytes place 0 less ∙ are.each place low
        by (inr high) =
            let whole = are.long in
            let past : tail ≤ 4096 * (place / 4096) + place % 4096 = subst (λ (n : ℕ). tail ≤ n) (sym (place_is place)) (below_tail place less (omega (arith, high, whole))) in
            let index : place / 4096 < 2 ^ 32 = omega (arith, less, small) in
            get_or-append_right (take size_now bytes) (replicate (size_now - length bytes) 0) (length (take size_now bytes)) place 0 refl (omega (arith, front, high))
            ∙ get_or-replicate (size_now - length bytes) (place - length (take size_now bytes)) 0 0 (omega (arith, front, high, less))
            ∙ sym (are.cleared (place / 4096) (place % 4096) index (omega arith) past)

    pub resized : AreBytesOf pieces size_now (max tail size_now) (sized size_now bytes)
    resized = record {
      long = long;
      each = each;
      cleared = λ index place fits less past. are.cleared index place fits less (omega (arith, past));
    }

  -- ---- a tail that falls

  pub fallen : (tail_now : ℕ) → ((index place : ℕ) → index < 2 ^ 32 → place < 4096 → tail_now ≤ 4096 * index + place → byte_in (pieces index) place ≡ 0) → AreBytesOf pieces size tail_now bytes
  fallen tail_now zeros = record { long = are.long; each = are.each; cleared = zeros }

  -- ---- a piece that is cleared behind the end

  module _ (index names : ℕ) (before block : Block) (was : pieces index ≡ Some before) (is : IsCleared before (kept_of size index) names block) where
    abbrev pieces_now : ℕ → Option Block
    pieces_now i = if i == index then Some block else pieces i

    here : (i place : ℕ) → i ≡ index → byte_in (if i == index then Some block else pieces i) place ≡ byte_in (Some block) place
    here i place same = ap (λ (t : Bool). byte_in (if t then Some block else pieces i) place) (eq_true i index same)

    there : (i place : ℕ) → i ≢ index → byte_in (if i == index then Some block else pieces i) place ≡ byte_in (pieces i) place
    there i place other = ap (λ (t : Bool). byte_in (if t then Some block else pieces i) place) (eq_false i index other)

    byte_same : (place : ℕ) → place < length bytes → get_or bytes place 0 ≡ byte_in (if (place / 4096) == index then Some block else pieces (place / 4096)) (place % 4096)
    byte_same place within = are.each place within ∙ by (same_or (place / 4096) index)
      where
        by : ((place / 4096) ≡ index) ⊎ ((place / 4096) ≢ index) → byte_in (pieces (place / 4096)) (place % 4096) ≡ byte_in (if (place / 4096) == index then Some block else pieces (place / 4096)) (place % 4096)
        by (inl same) =
            let whole = are.long in
            let kept : place % 4096 < kept_of size index = omega (arith, within, whole, same) in
            ap (λ (n : ℕ). byte_in (pieces n) (place % 4096)) same ∙ ap (λ (o : Option Block). byte_in o (place % 4096)) was
            ∙ sym (is.kept (place % 4096) kept) ∙ sym (here (place / 4096) (place % 4096) same)
        by (inr other) = sym (there (place / 4096) (place % 4096) other)

    cleared_still : (i place : ℕ) → i < 2 ^ 32 → place < 4096 → tail ≤ 4096 * i + place → byte_in (if i == index then Some block else pieces i) place ≡ 0
    cleared_still i place fits less past = by (same_or i index)
      where
        of_piece : i ≡ index → (place < kept_of size index) ⊎ (kept_of size index ≤ place) → byte_in (Some block) place ≡ 0
        of_piece same (inl low) = is.kept place low ∙ ap (λ (o : Option Block). byte_in o place) (sym was ∙ ap pieces (sym same)) ∙ are.cleared i place fits less past
        of_piece same (inr high) = is.cleared place high less

        by : (i ≡ index) ⊎ (i ≢ index) → byte_in (if i == index then Some block else pieces i) place ≡ 0
        by (inl same) = here i place same ∙ of_piece same (cases_lt place (kept_of size index))
        by (inr other) = there i place other ∙ are.cleared i place fits less past

    pub same_bytes : AreBytesOf (λ i. if i == index then Some block else pieces i) size tail bytes
    same_bytes = record { long = are.long; each = byte_same; cleared = cleared_still }
