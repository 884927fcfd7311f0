-- The bytes of a file once a piece is written over from a place on.
use Rattle.std.proofs.Common.{◌≡◌, ℕ, ◌+◌, ◌-◌, ◌*◌, ◌/◌, ◌%◌, ◌^◌, ◌<◌, ◌≤◌, arith, Bool, List, ◌++◌, length, take, drop, get_or, Option, Some, sym, ap, ◌∙◌, subst, refl, inl, inr}
use Rattle.std.specs.Prelude.{◌⊎◌, ◌≢◌, ◌==◌, if◌then◌else◌}
use Rattle.std.proofs.lemmas.Bool.{cases_lt}
use Rattle.std.proofs.lemmas.List.{get_or_append_left, get_or-append_right, get_or-drop, get_or-take, length-append, length-drop, length-take}
use Rattle.bx_layout.specs.declared.block.Block.{Block}
use Rattle.bx_truth.proofs.Cases.{eq_false, eq_true, same_or}
use Rattle.bx_truth.specs.Stored.{AreBytesOf, byte_in}
use Rattle.bx_writes.specs.Bytes.{IsOver, IsPayload}

-- bytes that are others with some over them
abbrev pub over : ℕ → List ℕ → List ℕ → List ℕ
over from written bytes = take from bytes ++ (written ++ drop (from + length written) bytes)

module _ (from : ℕ) (written bytes : List ℕ) (fits : from + length written ≤ length bytes) where
  front : length (take from bytes) ≡ from
  front = let all = length-take from bytes in omega (arith, all, fits)

  all_long : length (over from written bytes) ≡ length bytes
  all_long =
      let whole = length-append (take from bytes) (written ++ drop (from + length written) bytes) in
      let rest = length-append written (drop (from + length written) bytes) in
      let last = length-drop (from + length written) bytes in
      omega (arith, whole, rest, last, front, fits)

  pub is_over : IsOver bytes from written (over from written bytes)
  is_over = record {
    long = all_long;
    below = λ place less. get_or_append_left (take from bytes) (written ++ drop (from + length written) bytes) 0 place (omega (arith, front, less)) ∙ get_or-take from bytes place 0 less;
    within = λ place low less.
        get_or-append_right (take from bytes) (written ++ drop (from + length written) bytes) from place 0 front low
        ∙ get_or_append_left written (drop (from + length written) bytes) 0 (place - from) (omega (arith, low, less));
    behind = λ place past.
        let back : from + length written + (place - from - length written) ≡ place = omega (arith, past) in
        get_or-append_right (take from bytes) (written ++ drop (from + length written) bytes) from place 0 front (omega (arith, past))
        ∙ get_or-append_right written (drop (from + length written) bytes) (length written) (place - from) 0 refl (omega (arith, past))
        ∙ get_or-drop (from + length written) bytes (place - from - length written) 0
        ∙ ap (λ (n : ℕ). get_or bytes n 0) back;
  }

-- what is written behind, and then before it, is written at once
pub over_both : (base bytes now : List ℕ) (from : ℕ) (part rest : List ℕ) → IsOver base (from + length part) rest bytes → IsOver bytes from part now → IsOver base from (part ++ rest) now
over_both base bytes now from part rest a b = record {
  long = b.long ∙ a.long;
  below = λ place less. b.below place less ∙ a.below place (omega (arith, less));
  within = λ place low less. inside place low (subst (λ (n : ℕ). place < from + n) both less) (cases_lt place (from + length part));
  behind = λ place past.
      let end : from + length part + length rest ≤ place = omega (arith, past, both) in
      b.behind place (omega (arith, end)) ∙ a.behind place end;
}
  where
    both : length (part ++ rest) ≡ length part + length rest
    both = length-append part rest

    inside : (place : ℕ) → from ≤ place → place < from + (length part + length rest) → (place < from + length part) ⊎ (from + length part ≤ place) → get_or now place 0 ≡ get_or (part ++ rest) (place - from) 0
    inside place low less (inl first) = b.within place low first ∙ sym (get_or_append_left part rest 0 (place - from) (omega (arith, low, first)))
    inside place low less (inr second) =
        let same : place - from - length part ≡ place - (from + length part) = omega arith in
        b.behind place second ∙ a.within place second (omega (arith, less))
        ∙ sym (get_or-append_right part rest (length part) (place - from) 0 refl (omega (arith, second)) ∙ ap (λ (n : ℕ). get_or rest n 0) same)

-- nothing is written
pub over_nothing : (base written : List ℕ) (from : ℕ) → length written ≡ 0 → IsOver base from written base
over_nothing base written from none = record {
  long = refl;
  below = λ place less. refl;
  within = λ place low less. absurd (omega (arith, low, less, none));
  behind = λ place past. refl;
}

module _ (pieces : ℕ → Option Block) (size tail : ℕ) (bytes now : List ℕ) (are : AreBytesOf pieces size tail bytes) (index from : ℕ) (written : List ℕ) (block : Block)
    (o : IsOver bytes (4096 * index + from) written now) (p : IsPayload (pieces index) from written block.payload)
    (short : from + length written ≤ 4096) (fits : 4096 * index + from + length written ≤ size) (low : size ≤ tail) where
  here : (i place : ℕ) → i ≡ index → byte_in (if i == index then Some block else pieces i) place ≡ byte_in (Some block) place
  here i place same = ap (λ (t : Bool). byte_in (if t then Some block else pieces i) place) (eq_true i index same)

  there : (i place : ℕ) → i ≢ index → byte_in (if i == index then Some block else pieces i) place ≡ byte_in (pieces i) place
  there i place other = ap (λ (t : Bool). byte_in (if t then Some block else pieces i) place) (eq_false i index other)

  long : length now ≡ size
  long = o.long ∙ are.long

  -- a byte that isn't written
  untouched : (place : ℕ) → place < length now → get_or now place 0 ≡ get_or bytes place 0 → (place / 4096 ≡ index → byte_in (Some block) (place % 4096) ≡ byte_in (pieces index) (place % 4096))
      → get_or now place 0 ≡ byte_in (if (place / 4096) == index then Some block else pieces (place / 4096)) (place % 4096)
  untouched place within same stays = same ∙ are.each place (let all = o.long in omega (arith, within, all)) ∙ by (same_or (place / 4096) index)
    where
      by : ((place / 4096) ≡ index) ⊎ ((place / 4096) ≢ index) → byte_in (pieces (place / 4096)) (place % 4096) ≡ byte_in (if (place / 4096) == index then Some block else pieces (place / 4096)) (place % 4096)
      by (inl e) = ap (λ (n : ℕ). byte_in (pieces n) (place % 4096)) e ∙ sym (stays e) ∙ sym (here (place / 4096) (place % 4096) e)
      by (inr other) = sym (there (place / 4096) (place % 4096) other)

  each : (place : ℕ) → place < length now → get_or now place 0 ≡ byte_in (if (place / 4096) == index then Some block else pieces (place / 4096)) (place % 4096)
  each place within = by (cases_lt place (4096 * index + from)) (cases_lt place (4096 * index + from + length written))
    where
      by : (place < 4096 * index + from) ⊎ (4096 * index + from ≤ place) → (place < 4096 * index + from + length written) ⊎ (4096 * index + from + length written ≤ place)
          → get_or now place 0 ≡ byte_in (if (place / 4096) == index then Some block else pieces (place / 4096)) (place % 4096)
      by (inl less) second = untouched place within (o.below place less) (λ e. p.below (place % 4096) (omega (arith, less, e)))
      by (inr from_on) (inr past) = untouched place within (o.behind place past) (λ e. p.behind (place % 4096) (omega (arith, past, e)) (omega arith))
      by (inr from_on) (inl less) =
          let e : place / 4096 ≡ index = omega (arith, from_on, less, short) in
          let inside : from ≤ place % 4096 = omega (arith, from_on, e) in
          let before : place % 4096 < from + length written = omega (arith, less, e) in
          let same : place - (4096 * index + from) ≡ place % 4096 - from = omega (arith, from_on, e) in
          o.within place from_on less ∙ ap (λ (n : ℕ). get_or written n 0) same ∙ sym (p.within (place % 4096) inside before) ∙ sym (here (place / 4096) (place % 4096) e)

  cleared : (i place : ℕ) → i < 2 ^ 32 → place < 4096 → tail ≤ 4096 * i + place → byte_in (if i == index then Some block else pieces i) place ≡ 0
  cleared i place small less past = by (same_or i index)
    where
      by : (i ≡ index) ⊎ (i ≢ index) → byte_in (if i == index then Some block else pieces i) place ≡ 0
      by (inl e) =
          here i place e ∙ p.behind place (omega (arith, past, low, fits, e)) less ∙ ap (λ (n : ℕ). byte_in (pieces n) place) (sym e) ∙ are.cleared i place small less past
      by (inr other) = there i place other ∙ are.cleared i place small less past

  pub over_are : AreBytesOf (λ i. if i == index then Some block else pieces i) size tail now
  over_are = record { long = long; each = each; cleared = cleared }
