-- Numbers that rise, and the place behind those that are at most a bound.
use Rattle.std.proofs.Common.{◌≡◌, ℕ, zero, suc, ◌+◌, ◌<◌, ◌≤◌, List, [], ◌∷◌, length, get_or, true, false, leb, arith, ap}
use Rattle.std.proofs.lemmas.Bool.Decides.{nat_tests}
use Rattle.std.specs.Prelude.{if◌then◌else◌, Bool}
use Rattle.bx_post.specs.Rising.{AreAbove, IsRising, places_to}

pub le_true : (a b : ℕ) → a ≤ b → leb a b ≡ true
le_true a b low = grind (arith, nat_tests)

pub le_false : (a b : ℕ) → b < a → leb a b ≡ false
le_false a b high = grind (arith, nat_tests)

pub above_at : (low : ℕ) (ns : List ℕ) (i d : ℕ) → AreAbove low ns → i < length ns → low < get_or ns i d
above_at low [] i d above inside = absurd (omega arith)
above_at low (n ∷ rest) zero d above inside = above.0
above_at low (n ∷ rest) (suc i) d above inside = above_at low rest i d above.1 (omega arith)

pub above_less : (low high : ℕ) → low ≤ high → (ns : List ℕ) → AreAbove high ns → AreAbove low ns
above_less low high order [] above = tt
above_less low high order (n ∷ rest) above = (omega (arith, above.0), above_less low high order rest above.1)

pub taken : (bound n : ℕ) (rest : List ℕ) → n ≤ bound → places_to bound (n ∷ rest) ≡ 1 + places_to bound rest
taken bound n rest low = ap (λ b. if b then 1 + places_to bound rest else 0) (le_true n bound low)

pub left : (bound n : ℕ) (rest : List ℕ) → bound < n → places_to bound (n ∷ rest) ≡ 0
left bound n rest high = ap (λ b. if b then 1 + places_to bound rest else 0) (le_false n bound high)

pub places_within : (bound : ℕ) (ns : List ℕ) → places_to bound ns ≤ length ns
places_within bound [] = omega arith
places_within bound (n ∷ rest) =
    let by : (b : Bool) → (if b then 1 + places_to bound rest else 0) ≤ suc (length rest) = λ b. elim b as (λ b. (if b then 1 + places_to bound rest else 0) ≤ suc (length rest)) [ true ↦ omega (arith, places_within bound rest) | false ↦ omega arith ] in
    by (leb n bound)

pub goes_up : (bound : ℕ) (ns : List ℕ) (i d : ℕ) → IsRising ns → i < length ns → get_or ns i d ≤ bound → i < places_to bound ns
goes_up bound [] i d rising inside low = absurd (omega arith)
goes_up bound (n ∷ rest) zero d rising inside low = rw (taken bound n rest low) (omega arith)
goes_up bound (n ∷ rest) (suc i) d rising inside low =
    let within : i < length rest = omega arith in
    let order : n < get_or rest i d = above_at n rest i d rising.0 within in
    let more : i < places_to bound rest = goes_up bound rest i d rising.1 within low in
    let small : n ≤ bound = omega (arith, order, low) in
    rw (taken bound n rest small) (omega (arith, more))

pub stays_low : (bound : ℕ) (ns : List ℕ) (i d : ℕ) → i < length ns → bound < get_or ns i d → places_to bound ns ≤ i
stays_low bound [] i d inside high = absurd (omega arith)
stays_low bound (n ∷ rest) zero d inside high = rw (left bound n rest high) (omega arith)
stays_low bound (n ∷ rest) (suc i) d inside high =
    let more : places_to bound rest ≤ i = stays_low bound rest i d (omega arith) high in
    let by : (b : Bool) → (if b then 1 + places_to bound rest else 0) ≤ suc i = λ b. elim b as (λ b. (if b then 1 + places_to bound rest else 0) ≤ suc i) [ true ↦ omega (arith, more) | false ↦ omega arith ] in
    by (leb n bound)
