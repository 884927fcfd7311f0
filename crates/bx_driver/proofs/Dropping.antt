-- Packets that pass a test are dropped one by one.
use Rattle.std.proofs.Common.{◌≡◌, ℕ, ◌+◌, ◌<◌, List, [], ◌∷◌, true, false, ◌==◌, ◌&&◌, refl, arith, ap, sym, ◌∙◌, Some, None}
use Rattle.std.proofs.lemmas.Bool.Decides.{nat_tests}
use Rattle.std.specs.Prelude.{if◌then◌else◌, Bool}
use Rattle.bx_base.specs.declared.names.Actor.{Actor}
use Rattle.bx_post.specs.Posts.{Posted, passes, passing_from, settled_from}
use Rattle.bx_driver.specs.Drops.{dropped_by, dropped_one}
use Rattle.bx_driver.proofs.Least.{both_are, passing_above}

-- how many that pass are pending
abbrev pub left_of : (Actor → Actor → ℕ → Bool) → List Posted → ℕ
left_of test [] = 0
left_of test (one ∷ rest) = (if one.waits && passes test one.letter then 1 else 0) + left_of test rest

beyond : (first number : ℕ) (all : List Posted) → number < first → settled_from first number all ≡ all
beyond first number [] under = refl
beyond first number (one ∷ rest) under =
    let apart : (first == number) ≡ false = grind (arith, nat_tests) in
    ap (λ b. (if b then record one { waits = false } else one) ∷ settled_from (first + 1) number rest) apart ∙ ap (λ xs. one ∷ xs) (beyond (first + 1) number rest (omega arith))

-- where one of them is settled, one less is left, and the same comes of dropping the rest
pub dropped_more : (test : Actor → Actor → ℕ → Bool) (first n : ℕ) (all : List Posted) → passing_from test first all ≡ Some n → (dropped_by test (settled_from first n all) ≡ dropped_by test all) × (left_of test (settled_from first n all) + 1 ≡ left_of test all)
dropped_more test first n [] is = cc
dropped_more test first n (one ∷ rest) is = by_test (one.waits && passes test one.letter) refl (dropped_more test (first + 1) n rest)
  where
    by_test : (b : Bool) → one.waits && passes test one.letter ≡ b
        → (passing_from test (first + 1) rest ≡ Some n → (dropped_by test (settled_from (first + 1) n rest) ≡ dropped_by test rest) × (left_of test (settled_from (first + 1) n rest) + 1 ≡ left_of test rest))
        → (dropped_by test (settled_from first n (one ∷ rest)) ≡ dropped_by test (one ∷ rest)) × (left_of test (settled_from first n (one ∷ rest)) + 1 ≡ left_of test (one ∷ rest))
    by_test true on more =
        let here : Some first ≡ Some n = sym (ap (λ b. if b then Some first else passing_from test (first + 1) rest) on) ∙ is in
        let it : first ≡ n = cc in
        let same : (first == n) ≡ true = grind (arith, nat_tests) in
        let pass : passes test one.letter ≡ true = (both_are one.waits (passes test one.letter) on).1 in
        let gone : settled_from first n (one ∷ rest) ≡ record one { waits = false } ∷ rest =
        ap (λ b. (if b then record one { waits = false } else one) ∷ settled_from (first + 1) n rest) same ∙ ap (λ xs. record one { waits = false } ∷ xs) (beyond (first + 1) n rest (omega (arith, it))) in
        let after : left_of test (settled_from first n (one ∷ rest)) ≡ 0 + left_of test rest = ap (left_of test) gone in
        let before : left_of test (one ∷ rest) ≡ 1 + left_of test rest = ap (λ b. (if b then 1 else 0) + left_of test rest) on in (
          ap (dropped_by test) gone
              ∙ ap (λ b. (if b then record one { waits = false } else record one { waits = false }) ∷ dropped_by test rest) pass
              ∙ sym (ap (λ b. (if b then record one { waits = false } else one) ∷ dropped_by test rest) pass),
          omega (arith, after, before),
        )
    by_test false off more =
        let later : passing_from test (first + 1) rest ≡ Some n = sym (ap (λ b. if b then Some first else passing_from test (first + 1) rest) off) ∙ is in
        let above = passing_above test (first + 1) n rest later in
        let apart : (first == n) ≡ false = grind (arith, nat_tests) in
        let kept : settled_from first n (one ∷ rest) ≡ one ∷ settled_from (first + 1) n rest = ap (λ b. (if b then record one { waits = false } else one) ∷ settled_from (first + 1) n rest) apart in
        let it = more later in
        let after : left_of test (settled_from first n (one ∷ rest)) ≡ (if one.waits && passes test one.letter then 1 else 0) + left_of test (settled_from (first + 1) n rest) = ap (left_of test) kept in
        (ap (dropped_by test) kept ∙ ap (λ xs. dropped_one test one ∷ xs) it.0, omega (arith, after, it.1))

-- one that isn't pending, or doesn't pass, stays
same_one : (test : Actor → Actor → ℕ → Bool) (one : Posted) → one.waits && passes test one.letter ≡ false → dropped_one test one ≡ one
same_one test one off = by_test (passes test one.letter) refl
  where
    by_test : (b : Bool) → passes test one.letter ≡ b → dropped_one test one ≡ one
    by_test true pass =
        let idle : one.waits ≡ false = waits_off one.waits (passes test one.letter) off pass in
        ap (λ b. if b then record one { waits = false } else one) pass ∙ ap (λ w. record one { waits = w }) (sym idle)
      where
        waits_off : (w p : Bool) → w && p ≡ false → p ≡ true → w ≡ false
        waits_off true p both is = cc
        waits_off false p both is = refl
    by_test false pass = ap (λ b. if b then record one { waits = false } else one) pass

-- where none is left, all are dropped
pub all_dropped : (test : Actor → Actor → ℕ → Bool) (first : ℕ) (all : List Posted) → passing_from test first all ≡ None → dropped_by test all ≡ all
all_dropped test first [] is = refl
all_dropped test first (one ∷ rest) is = by_test (one.waits && passes test one.letter) refl (all_dropped test (first + 1) rest)
  where
    by_test : (b : Bool) → one.waits && passes test one.letter ≡ b → (passing_from test (first + 1) rest ≡ None → dropped_by test rest ≡ rest) → dropped_by test (one ∷ rest) ≡ one ∷ rest
    by_test true on more = let here : Some first ≡ None = sym (ap (λ b. if b then Some first else passing_from test (first + 1) rest) on) ∙ is in cc
    by_test false off more =
        ap (λ o. o ∷ dropped_by test rest) (same_one test one off) ∙ ap (λ xs. one ∷ xs) (more (sym (ap (λ b. if b then Some first else passing_from test (first + 1) rest) off) ∙ is))
