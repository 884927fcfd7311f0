-- The least pending packet that passes a test, found one by one.
use Rattle.std.proofs.Common.{◌≡◌, ℕ, suc, ◌+◌, ◌-◌, ◌≤◌, List, [], ◌∷◌, true, false, ◌&&◌, inl, inr, refl, arith, ap, sym, ◌∙◌, Some, None}
use Rattle.std.proofs.lemmas.Bool.{cases_lt}
use Rattle.std.specs.Prelude.{if◌then◌else◌, Bool, slice_get}
use Rattle.bx_base.specs.declared.names.Actor.{Actor}
use Rattle.bx_post.specs.declared.packets.Letter.{Letter}
use Rattle.bx_post.specs.Posts.{Posted, fresh, passes, passing_from}
use Rattle.bx_driver.specs.Pending.{IsLeast, IsPendingAt}

-- the packet with a number is pending and passes a test
abbrev pub MayPass : (Actor → Actor → ℕ → Bool) → List Posted → ℕ → Type 0
MayPass test post number = (letter : Letter) × IsPendingAt post number letter × (passes test letter ≡ true)

-- the same of packets that are counted from a number on
abbrev PassesAt : (Actor → Actor → ℕ → Bool) → ℕ → List Posted → ℕ → Letter → Type 0
PassesAt test first all number letter = (first ≤ number) × (slice_get all (number - first) ≡ Some (fresh letter)) × (passes test letter ≡ true)

record IsFound (test : Actor → Actor → ℕ → Bool) (first : ℕ) (all : List Posted) (number : ℕ) : Type 0 where
  pub letter : Letter
  pub there : PassesAt test first all number letter
  pub least : (other : ℕ) (its : Letter) → PassesAt test first all other its → number ≤ other

pub both_are : (a b : Bool) → a && b ≡ true → (a ≡ true) × (b ≡ true)
both_are true b is = (refl, is)
both_are false b is = cc

waits_as : (one : Posted) → one.waits ≡ true → one ≡ fresh one.letter
waits_as one waits = ap (λ w. record one { waits = w }) waits

-- a packet that doesn't pass isn't one that does
not_first : (test : Actor → Actor → ℕ → Bool) (one : Posted) (letter : Letter) → one.waits && passes test one.letter ≡ false → one ≡ fresh letter → passes test letter ≡ true → ⊥
not_first test one letter off is pass =
    let e : one.waits && passes test one.letter ≡ passes test letter = ap (λ o. o.waits && passes test o.letter) is in
    cc

behind : (test : Actor → Actor → ℕ → Bool) (first : ℕ) (one : Posted) (rest : List Posted) (other : ℕ) (letter : Letter) → one.waits && passes test one.letter ≡ false → PassesAt test first (one ∷ rest) other letter
    → PassesAt test (first + 1) rest other letter
behind test first one rest other letter off there = elim (cases_lt first other) [
  | inl more ↦
      let step : other - first ≡ suc (other - (first + 1)) = omega arith in
      (omega arith, sym (ap (slice_get (one ∷ rest)) step) ∙ there.1, there.2)
  | inr less ↦
      let at : other - first ≡ 0 = omega (arith, there.0) in
      let here : Some one ≡ Some (fresh letter) = sym (ap (slice_get (one ∷ rest)) at) ∙ there.1 in
      let it : one ≡ fresh letter = cc in
      absurd (not_first test one letter off it there.2)
]

found : (test : Actor → Actor → ℕ → Bool) (first number : ℕ) (all : List Posted) → passing_from test first all ≡ Some number → IsFound test first all number
found test first number [] is = cc
found test first number (one ∷ rest) is = by_test (one.waits && passes test one.letter) refl (found test (first + 1) number rest)
  where
    by_test : (b : Bool) → one.waits && passes test one.letter ≡ b → (passing_from test (first + 1) rest ≡ Some number → IsFound test (first + 1) rest number) → IsFound test first (one ∷ rest) number
    by_test true on more =
        let here : Some first ≡ Some number = sym (ap (λ b. if b then Some first else passing_from test (first + 1) rest) on) ∙ is in
        let same : first ≡ number = cc in
        let both = both_are one.waits (passes test one.letter) on in
        let at : number - first ≡ 0 = omega (arith, same) in
        record {
          letter = one.letter;
          there = (omega (arith, same), ap (slice_get (one ∷ rest)) at ∙ ap Some (waits_as one both.0), both.1);
          least = λ other its there. omega (arith, same, there.0);
        }
    by_test false off more =
        let later : passing_from test (first + 1) rest ≡ Some number = sym (ap (λ b. if b then Some first else passing_from test (first + 1) rest) off) ∙ is in
        let it = more later in
        let above = it.there.0 in
        let step : number - first ≡ suc (number - (first + 1)) = omega (arith, above) in
        record {
          letter = it.letter;
          there = (omega (arith, above), ap (slice_get (one ∷ rest)) step ∙ it.there.1, it.there.2);
          least = λ other its there. it.least other its (behind test first one rest other its off there);
        }

-- it isn't below the first
pub passing_above : (test : Actor → Actor → ℕ → Bool) (first number : ℕ) (all : List Posted) → passing_from test first all ≡ Some number → first ≤ number
passing_above test first number all is = (found test first number all is).there.0

missed : (test : Actor → Actor → ℕ → Bool) (first : ℕ) (all : List Posted) → passing_from test first all ≡ None → (number : ℕ) (letter : Letter) → PassesAt test first all number letter → ⊥
missed test first [] is number letter there = let none = there.1 in cc
missed test first (one ∷ rest) is number letter there = by_test (one.waits && passes test one.letter) refl (missed test (first + 1) rest)
  where
    by_test : (b : Bool) → one.waits && passes test one.letter ≡ b → (passing_from test (first + 1) rest ≡ None → (number : ℕ) (letter : Letter) → PassesAt test (first + 1) rest number letter → ⊥) → ⊥
    by_test true on more = let here : Some first ≡ None = sym (ap (λ b. if b then Some first else passing_from test (first + 1) rest) on) ∙ is in cc
    by_test false off more =
        more (sym (ap (λ b. if b then Some first else passing_from test (first + 1) rest) off) ∙ is) number letter (behind test first one rest number letter off there)

-- ---- by their numbers

pub least_passes : (test : Actor → Actor → ℕ → Bool) (post : List Posted) (number : ℕ) → passing_from test 1 post ≡ Some number → IsLeast (MayPass test post) number
least_passes test post number is =
    let it = found test 1 number post is in
    record { stands = (it.letter, (it.there.0, it.there.1), it.there.2); least = λ other its. it.least other its.0 (its.1.0, its.1.1, its.2) }

pub none_passes : (test : Actor → Actor → ℕ → Bool) (post : List Posted) → passing_from test 1 post ≡ None → (number : ℕ) → MayPass test post number → ⊥
none_passes test post is number its = missed test 1 post is number its.0 (its.1.0, its.1.1, its.2)

-- the least of which one fact stands is the least of which another does that says the same
pub least_as : (P Q : ℕ → Type 0) (number : ℕ) → ((n : ℕ) → P n → Q n) → ((n : ℕ) → Q n → P n) → IsLeast P number → IsLeast Q number
least_as P Q number to from it = record { stands = to number it.stands; least = λ other its. it.least other (from other its) }

pub one_least : (P : ℕ → Type 0) (number other : ℕ) → IsLeast P number → IsLeast P other → number ≡ other
one_least P number other its others =
    let one = its.least other others.stands in
    let two = others.least number its.stands in
    omega (arith, one, two)
