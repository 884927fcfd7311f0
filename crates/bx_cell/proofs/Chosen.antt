-- Which half has a cell's value.
use Rattle.std.proofs.Common.{◌≡◌, ℕ, ◌+◌, ◌-◌, ◌*◌, ◌<◌, ◌≤◌, ◌⊎◌, inl, inr, ⊎_elim, true, false, cond, List, Option, Some, None, refl, sym, ◌∙◌, arith}
use Rattle.std.specs.Prelude.{nat_lt, ◌&&◌, nat_le, take}
use Rattle.std.proofs.lemmas.Bool.{ltb-true, lt-ltb}
use Rattle.std.proofs.lemmas.Bool.Decides.{nat_tests}
use Rattle.bx_cell.specs.Halves.{Found, is_open, number_in, length_in, joined, half_of, half_at, better, cell_in}
use Rattle.bx_cell.specs.Laws.{IsFound}

-- ---- of what two halves have

pub record FirstWins (p q : Option Found) (found : Found) : Type 0 where
  pub has : p ≡ Some found
  pub wins : (other : Found) → q ≡ Some other → other.number ≤ found.number

pub record OtherWins (p q : Option Found) (found : Found) : Type 0 where
  pub has : q ≡ Some found
  pub wins : (first : Found) → p ≡ Some first → first.number < found.number

better_found : (p q : Option Found) (found : Found) → better p q ≡ Some found → FirstWins p q found ⊎ OtherWins p q found
unfolding better
better_found None q found is = inr (record { has = is; wins = λ first e. absurd cc })
better_found (Some a) None found is = inl (record { has = is; wins = λ other e. absurd cc })
better_found (Some a) (Some b) found is = (elim (nat_lt a.number b.number) as (λ t. nat_lt a.number b.number ≡ t → FirstWins (Some a) (Some b) found ⊎ OtherWins (Some a) (Some b) found) [
  | true ↦ λ less.
      let has : Some b ≡ Some found = rw less at is in
      let number : b.number ≡ found.number = cc in
      inr (record { has = has; wins = λ first e. let same : a.number ≡ first.number = cc in omega (arith, ltb-true a.number b.number less) })
  | false ↦ λ not.
      let has : Some a ≡ Some found = rw not at is in
      let number : a.number ≡ found.number = cc in
      let most : b.number ≤ a.number = grind (arith, nat_tests) in
      inl (record { has = has; wins = λ other e. let same : b.number ≡ other.number = cc in omega arith })
]) refl

first_better : (p q : Option Found) (found : Found) → FirstWins p q found → better p q ≡ Some found
unfolding better
first_better None q found w = let e = w.has in absurd cc
first_better (Some a) None found w = w.has
first_better (Some a) (Some b) found w =
    let has = w.has in
    let number : a.number ≡ found.number = cc in
    let most = w.wins b refl in
    let not : nat_lt a.number b.number ≡ false = grind (arith, nat_tests) in
    rw not w.has

other_better : (p q : Option Found) (found : Found) → OtherWins p q found → better p q ≡ Some found
unfolding better
other_better None q found w = w.has
other_better (Some a) None found w = let e = w.has in absurd cc
other_better (Some a) (Some b) found w =
    let has = w.has in
    let number : b.number ≡ found.number = cc in
    let less = w.wins a refl in
    let lower : a.number < b.number = omega arith in
    rw (lt-ltb a.number b.number lower) w.has

-- ---- of the sectors of a cell

of_half : (half : ℕ) (gate header area : List ℕ) (found : Found) → half_of half gate header area ≡ Some found → half ≡ found.half
unfolding half_of
of_half half gate header area found is = (elim (is_open gate && nat_le (length_in header) 4096) as (λ t. cond t (Some (record { half = half; number = number_in header; value = take (length_in header) area })) None ≡ Some found → half ≡ found.half) [
  | true ↦ λ e. cc
  | false ↦ λ e. absurd cc
]) is

half_is : (sectors : ℕ → List ℕ) (half start : ℕ) (found : Found) → half_at sectors half start ≡ Some found → half ≡ found.half
unfolding half_at
half_is sectors half start found is = of_half half (sectors start) (sectors (start + 1)) (joined sectors (start + 2) 8) found is

place : (sectors : ℕ → List ℕ) (half start other begin : ℕ) → half ≡ other → start ≡ begin → half_at sectors half start ≡ half_at sectors other begin
place sectors half start other begin same at = rw (same, at) refl

pub found_is : (sectors : ℕ → List ℕ) (base : ℕ) (found : Found) → cell_in sectors base ≡ Some found → IsFound sectors base found
unfolding cell_in
found_is sectors base found is = ⊎_elim first other (better_found (half_at sectors 0 base) (half_at sectors 1 (base + 10)) found is)
  where
    first : FirstWins (half_at sectors 0 base) (half_at sectors 1 (base + 10)) found → IsFound sectors base found
    first w =
        let zero : 0 ≡ found.half = half_is sectors 0 base found w.has in
        record {
          half = omega arith;
          has = place sectors found.half (base + 10 * found.half) 0 base (omega arith) (omega arith) ∙ w.has;
          wins = λ o e.
              let most = w.wins o (place sectors 1 (base + 10) (1 - found.half) (base + 10 * (1 - found.half)) (omega arith) (omega arith) ∙ e) in
              grind arith;
        }

    other : OtherWins (half_at sectors 0 base) (half_at sectors 1 (base + 10)) found → IsFound sectors base found
    other w =
        let one : 1 ≡ found.half = half_is sectors 1 (base + 10) found w.has in
        record {
          half = omega arith;
          has = place sectors found.half (base + 10 * found.half) 1 (base + 10) (omega arith) (omega arith) ∙ w.has;
          wins = λ o e. inl (w.wins o (place sectors 0 base (1 - found.half) (base + 10 * (1 - found.half)) (omega arith) (omega arith) ∙ e));
        }

pub is_found : (sectors : ℕ → List ℕ) (base : ℕ) (found : Found) → IsFound sectors base found → cell_in sectors base ≡ Some found
unfolding cell_in
is_found sectors base found is = ⊎_elim first other which
  where
    which : (found.half ≡ 0) ⊎ (found.half ≡ 1)
    which = let low = is.half in grind arith

    first : found.half ≡ 0 → better (half_at sectors 0 base) (half_at sectors 1 (base + 10)) ≡ Some found
    first zero = first_better (half_at sectors 0 base) (half_at sectors 1 (base + 10)) found record {
      has = place sectors 0 base found.half (base + 10 * found.half) (omega arith) (omega arith) ∙ is.has;
      wins = λ o e.
          let wins = is.wins o (place sectors (1 - found.half) (base + 10 * (1 - found.half)) 1 (base + 10) (omega arith) (omega arith) ∙ e) in
          grind arith;
    }

    other : found.half ≡ 1 → better (half_at sectors 0 base) (half_at sectors 1 (base + 10)) ≡ Some found
    other one = other_better (half_at sectors 0 base) (half_at sectors 1 (base + 10)) found record {
      has = place sectors 1 (base + 10) found.half (base + 10 * found.half) (omega arith) (omega arith) ∙ is.has;
      wins = λ o e.
          let wins = is.wins o (place sectors (1 - found.half) (base + 10 * (1 - found.half)) 0 base (omega arith) (omega arith) ∙ e) in
          grind arith;
    }

-- ---- a cell of other sectors

-- What the cell depends on is alike.
pub cell_same : (x y : ℕ → List ℕ) (a b : ℕ) → half_at x 0 a ≡ half_at y 0 b → half_at x 1 (a + 10) ≡ half_at y 1 (b + 10) → cell_in x a ≡ cell_in y b
unfolding cell_in
cell_same x y a b first other = rw (first, other) refl

-- The half with the value is the same, and the other one is the same or has nothing.
pub still_found : (x y : ℕ → List ℕ) (base half : ℕ) (found : Found) → cell_in y base ≡ Some found → found.half + half ≡ 1
    → half_at x found.half (base + 10 * found.half) ≡ half_at y found.half (base + 10 * found.half)
    → (half_at x half (base + 10 * half) ≡ half_at y half (base + 10 * half)) ⊎ (half_at x half (base + 10 * half) ≡ None)
    → cell_in x base ≡ Some found
still_found x y base half found is one own other =
    let was = found_is y base found is in
    is_found x base found record {
      half = was.half;
      has = own ∙ was.has;
      wins = λ o e.
          let here = place x half (base + 10 * half) (1 - found.half) (base + 10 * (1 - found.half)) (omega arith) (omega arith) ∙ e in
          ⊎_elim
          (λ same. was.wins o (place y (1 - found.half) (base + 10 * (1 - found.half)) half (base + 10 * half) (omega arith) (omega arith) ∙ sym same ∙ here))
          (λ none. let both : None ≡ Some o = sym none ∙ here in absurd cc)
          other;
    }

-- The half with the value is the same, and the other one has something under a higher number.
pub newly_found : (x y : ℕ → List ℕ) (base : ℕ) (found new : Found) → cell_in y base ≡ Some found → found.half + new.half ≡ 1
    → half_at x found.half (base + 10 * found.half) ≡ half_at y found.half (base + 10 * found.half)
    → half_at x new.half (base + 10 * new.half) ≡ Some new → found.number < new.number → cell_in x base ≡ Some new
newly_found x y base found new is one own has more =
    let was = found_is y base found is in
    is_found x base new record {
      half = omega (arith, was.half);
      has = has;
      wins = λ o e.
          let here = place x found.half (base + 10 * found.half) (1 - new.half) (base + 10 * (1 - new.half)) (omega arith) (omega arith) ∙ e in
          let both : Some found ≡ Some o = sym was.has ∙ sym own ∙ here in
          let number : found.number ≡ o.number = cc in
          inl (omega arith);
    }
