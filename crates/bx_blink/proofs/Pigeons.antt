-- Distinct numbers below a bound are at most so many.
use Rattle.std.proofs.Common.{◌≡◌, ℕ, zero, suc, ◌<◌, ◌≤◌, Bool, true, false, eqb, cond, List, [], ◌∷◌, length, refl, arith, eqb-true}
use Rattle.std.specs.List.{AllByRecursion}
use Rattle.std.proofs.lemmas.Bool.{eqb-false}

abbrev pub Distinct : List ℕ → Type 0
Distinct [] = Unit {0}
Distinct (x ∷ xs) = AllByRecursion (λ y. x ≡ y → ⊥) xs × Distinct xs

abbrev drop_one : ℕ → List ℕ → List ℕ
drop_one n [] = []
drop_one n (x ∷ xs) = cond (eqb x n) xs (x ∷ drop_one n xs)

one_less : (n : ℕ) (xs : List ℕ) → length xs ≤ suc (length (drop_one n xs))
one_less n [] = omega arith
one_less n (x ∷ xs) = by_test (eqb x n) refl (one_less n xs)
  where
    by_test : (b : Bool) → eqb x n ≡ b → length xs ≤ suc (length (drop_one n xs)) → length (x ∷ xs) ≤ suc (length (drop_one n (x ∷ xs)))
    by_test true e rest = rw e (omega arith)
    by_test false e rest = rw e (omega arith)

all_still : (P : ℕ → Type 0) (n : ℕ) (xs : List ℕ) → AllByRecursion P xs → AllByRecursion P (drop_one n xs)
all_still P n [] a = a
all_still P n (x ∷ xs) a = by_test (eqb x n) refl (all_still P n xs a.1)
  where
    by_test : (b : Bool) → eqb x n ≡ b → AllByRecursion P (drop_one n xs) → AllByRecursion P (drop_one n (x ∷ xs))
    by_test true e rest = rw e a.1
    by_test false e rest = rw e (a.0, rest)

distinct_still : (n : ℕ) (xs : List ℕ) → Distinct xs → Distinct (drop_one n xs)
distinct_still n [] d = d
distinct_still n (x ∷ xs) d = by_test (eqb x n) refl (distinct_still n xs d.1)
  where
    by_test : (b : Bool) → eqb x n ≡ b → Distinct (drop_one n xs) → Distinct (drop_one n (x ∷ xs))
    by_test true e rest = rw e d.1
    by_test false e rest = rw e (all_still (λ y. x ≡ y → ⊥) n xs d.0, rest)

others_below : (n : ℕ) (xs : List ℕ) → AllByRecursion (λ y. n ≡ y → ⊥) xs → AllByRecursion (λ x. x < suc n) xs → AllByRecursion (λ x. x < n) xs
others_below n [] apart below = tt
others_below n (x ∷ xs) apart below = (lesser x n (apart.0) below.0, others_below n xs apart.1 below.1)
  where
    lesser : (x n : ℕ) → (n ≡ x → ⊥) → x < suc n → x < n
    lesser x n ne lt = omega (arith, ne)

all_below : (n : ℕ) (xs : List ℕ) → Distinct xs → AllByRecursion (λ x. x < suc n) xs → AllByRecursion (λ x. x < n) (drop_one n xs)
all_below n [] d a = tt
all_below n (x ∷ xs) d a = by_test (eqb x n) refl (all_below n xs d.1 a.1)
  where
    by_test : (b : Bool) → eqb x n ≡ b → AllByRecursion (λ x. x < n) (drop_one n xs) → AllByRecursion (λ x. x < n) (drop_one n (x ∷ xs))
    by_test true e rest = let is : x ≡ n = eqb-true x n e in rw e (others_below n xs (rw is at d.0) a.1)
    by_test false e rest = rw e ((let ne = eqb-false x n e in let lt = a.0 in omega (arith, ne, lt)), rest)

pub pigeons : (n : ℕ) (xs : List ℕ) → Distinct xs → AllByRecursion (λ x. x < n) xs → length xs ≤ n
pigeons zero [] d a = omega arith
pigeons zero (x ∷ xs) d a = absurd (let lt = a.0 in omega (arith, lt))
pigeons (suc n) xs d a = let le = pigeons n (drop_one n xs) (distinct_still n xs d) (all_below n xs d a) in omega (arith, le, one_less n xs)
