-- Sums over areas in turn.
use Rattle.std.proofs.Common.{◌≡◌, ℕ, zero, suc, ◌+◌, ◌%◌, ◌<◌, List, [], ◌∷◌, ◌++◌, refl, sym, ap, subst, ◌∙◌, arith}
use Rattle.std.specs.List.{range_with_len, sum_by}
use Rattle.std.proofs.lemmas.List.Sums.{sum_by_push}
use Rattle.std.proofs.Math.Nat.{add-mod_left, mod-eq_of_lt}
use Rattle.bx_chunks.specs.Areas.{area_in_turn}
use Rattle.bx_chunks.specs.Counting.{Sums}

pub sums_none : (Is : ℕ → ℕ → Type 0) → Sums Is 0 0
unfolding Sums
sums_none Is = refl

pub sums_more : (Is : ℕ → ℕ → Type 0) (n next total last : ℕ) → next ≡ n + 1 → Sums Is n total → Is n last → Sums Is next (total + last)
unfolding Sums
sums_more Is n next total last e sums is =
    let s : suc n ≡ next = omega (arith, e) in
    subst (λ (m : ℕ). Sums Is m (total + last)) s (total, last, sums, is, refl)

-- the numbers below a number
range_suc : (n a : ℕ) → range_with_len a (suc n) ≡ range_with_len a n ++ (a + n) ∷ []
range_suc zero a = let e : a ≡ a + 0 = omega arith in ap (λ (x : ℕ). x ∷ []) e
range_suc (suc n) a = let e : a + 1 + n ≡ a + suc n = omega arith in ap (λ (l : List ℕ). a ∷ l) (range_suc n (a + 1) ∙ ap (λ (x : ℕ). range_with_len (a + 1) n ++ x ∷ []) e)

abbrev pub sum_below : (ℕ → ℕ) → ℕ → ℕ
sum_below f n = sum_by f (range_with_len 0 n)

pub sum_suc : (f : ℕ → ℕ) (n : ℕ) → sum_below f (suc n) ≡ sum_below f n + f n
sum_suc f n = ap (sum_by f) (range_suc n 0) ∙ sum_by_push f (range_with_len 0 n) (0 + n) ∙ ap (λ (x : ℕ). sum_below f n + f x) (omega arith)

pub sums_are : (Is : ℕ → ℕ → Type 0) (f : ℕ → ℕ) (n total : ℕ) → ((i last : ℕ) → i < n → Is i last → last ≡ f i) → Sums Is n total → total ≡ sum_below f n
unfolding Sums
sums_are Is f zero total same sums = sums
sums_are Is f (suc n) total same sums =
    let rest : sums.0 ≡ sum_below f n = sums_are Is f n sums.0 (λ i last less is. same i last (omega (arith, less)) is) sums.2 in
    let last : sums.1 ≡ f n = same n sums.1 (omega arith) sums.3 in
    sums.4 ∙ ap (λ (x : ℕ). x + sums.1) rest ∙ ap (λ (x : ℕ). sum_below f n + x) last ∙ sym (sum_suc f n)

pub sum_same : (f g : ℕ → ℕ) (n : ℕ) → ((i : ℕ) → i < n → f i ≡ g i) → sum_below f n ≡ sum_below g n
sum_same f g zero same = refl
sum_same f g (suc n) same =
    sum_suc f n ∙ ap (λ (x : ℕ). x + f n) (sum_same f g n (λ i less. same i (omega (arith, less)))) ∙ ap (λ (x : ℕ). sum_below g n + x) (same n (omega arith)) ∙ sym (sum_suc g n)

-- the places moved on by one
sum_moved : (g : ℕ → ℕ) (n : ℕ) → sum_below (λ i. g (suc i)) n + g 0 ≡ sum_below g n + g n
sum_moved g zero = refl
sum_moved g (suc n) =
    let a = sum_suc (λ i. g (suc i)) n in
    let b = sum_suc g n in
    let h = sum_moved g n in
    by (sum_below (λ i. g (suc i)) (suc n)) (sum_below (λ i. g (suc i)) n) (g (suc n)) (sum_below g (suc n)) (sum_below g n) (g n) (g 0) a b h
  where
    by : (s r x t u y z : ℕ) → s ≡ r + x → t ≡ u + y → r + z ≡ u + y → s + z ≡ t + x
    by s r x t u y z a b h = omega (arith, a, b, h)

-- the same areas in turn from another one on
pub sum_turned : (f : ℕ → ℕ) (near n : ℕ) → sum_below (λ i. f (area_in_turn near n i)) n ≡ sum_below f n
sum_turned f zero n = sum_same (λ i. f (area_in_turn 0 n i)) f n (λ i less. ap (λ (m : ℕ). f (m % n)) (none i) ∙ ap f (mod-eq_of_lt less))
  where
    none : (i : ℕ) → 0 + i ≡ i
    none i = omega arith
sum_turned f (suc near) n =
    let moved : sum_below (λ i. f (area_in_turn near n (suc i))) n + f (area_in_turn near n 0) ≡ sum_below (λ i. f (area_in_turn near n i)) n + f (area_in_turn near n n) = sum_moved (λ i. f (area_in_turn near n i)) n in
    let again : area_in_turn near n n ≡ area_in_turn near n 0 = ap (λ (m : ℕ). m % n) (omega arith) ∙ add-mod_left n near ∙ ap (λ (m : ℕ). m % n) (omega arith) in
    let same : sum_below (λ i. f (area_in_turn (suc near) n i)) n ≡ sum_below (λ i. f (area_in_turn near n (suc i))) n = sum_same (λ i. f (area_in_turn (suc near) n i)) (λ i. f (area_in_turn near n (suc i))) n (λ i less. ap (λ (m : ℕ). f (m % n)) (turn i)) in
    by (sum_below (λ i. f (area_in_turn (suc near) n i)) n) (sum_below (λ i. f (area_in_turn near n (suc i))) n) (sum_below (λ i. f (area_in_turn near n i)) n) (f (area_in_turn near n 0)) (f (area_in_turn near n n)) same moved (ap f again)
    ∙ sum_turned f near n
  where
    turn : (i : ℕ) → suc near + i ≡ near + suc i
    turn i = omega arith

    by : (s r t x y : ℕ) → s ≡ r → r + x ≡ t + y → y ≡ x → s ≡ t
    by s r t x y a b c = omega (arith, a, b, c)
