-- Pairs of numbers in a set.
use Rattle.std.proofs.Common.{◌≡◌, ℕ, ◌&&◌, eqb, true, false, List, [], ◌∷◌, IsTrue, subst, arith}
use Rattle.std.specs.Prelude.{IfSome, slice_get}
use Rattle.std.specs.BTreeMap.Range.{IsLeBy}
use Rattle.std.specs.BTreeSet.{BTreeSet, IsKeyInRange, IsKeyRangeOf, contains}
use Rattle.std.specs.Ordering.{is_eq, is_gt, nat_cmp, ordering_then}
use Rattle.std.specs.declared.cmp.Ordering.{Ordering}
use Rattle.std.specs.declared.ops.Bound.TheVariants.{Included, Unbounded}
use Rattle.std.proofs.lemmas.Bool.{eqb-true}
use Rattle.std.proofs.lemmas.Bool.Decides.{nat_tests}

-- the order of pairs
abbrev pub pair_cmp : ℕ × ℕ → ℕ × ℕ → Ordering
pair_cmp x y = ordering_then (nat_cmp x.0 y.0) (nat_cmp x.1 y.1)

pub same_pair : (a b c d : ℕ) → is_eq (ordering_then (nat_cmp a c) (nat_cmp b d)) ≡ (eqb a c && eqb b d)
same_pair a b c d = grind (arith, nat_tests)

from_least : (n x : ℕ) → is_gt (ordering_then (nat_cmp n n) (nat_cmp 0 x)) ≡ false
from_least n x = grind (arith, nat_tests)

between : (n x a b : ℕ) → is_gt (ordering_then (nat_cmp a n) (nat_cmp b x)) ≡ false → is_gt (ordering_then (nat_cmp n a) (nat_cmp 0 b)) ≡ false → eqb a n ≡ true
between n x a b up down = grind (arith, nat_tests)

-- the first pair from a number on tells whether a pair has the number
pub first_tells : (s : BTreeSet (ℕ × ℕ)) (n : ℕ) (found left : List (ℕ × ℕ)) (p : ℕ × ℕ) → found ≡ p ∷ left → IsKeyRangeOf pair_cmp (Included (n, 0)) Unbounded s found
    → (IsTrue (eqb p.0 n) → (x : ℕ) × IsTrue (contains pair_cmp s (n, x))) × (((x : ℕ) × IsTrue (contains pair_cmp s (n, x))) → IsTrue (eqb p.0 n))
first_tells s n found left p is range =
    let first = subst (λ (ps : List (ℕ × ℕ)). IfSome (slice_get ps 0) (IsKeyInRange pair_cmp (Included (n, 0)) Unbounded s)) is range.1 in (
      λ same. (p.1, subst (λ (k : ℕ). IsTrue (contains pair_cmp s (k, p.1))) (eqb-true p.0 n same) first.1),
      λ there. between n there.0 p.0 p.1 (subst (λ (ps : List (ℕ × ℕ)). IfSome (slice_get ps 0) (λ k. IsLeBy pair_cmp k (n, there.0))) is (range.2 (n, there.0) (from_least n there.0, tt) there.1)) first.0.0,
    )

-- where there is none, no pair has the number
pub none_tells : (s : BTreeSet (ℕ × ℕ)) (n : ℕ) (found : List (ℕ × ℕ)) → found ≡ [] → IsKeyRangeOf pair_cmp (Included (n, 0)) Unbounded s found
    → ((x : ℕ) × IsTrue (contains pair_cmp s (n, x))) → ⊥
none_tells s n found is range there =
    let gone : contains pair_cmp s (n, there.0) ≡ false = range.5 is (n, there.0) (from_least n there.0, tt) in
    let here : contains pair_cmp s (n, there.0) ≡ true = there.1 in
    absurd cc
