-- Which packets wait, when one is settled, and when those that don't wait are dropped.
use Rattle.std.proofs.Common.{◌≡◌, ◌≢◌, ℕ, zero, suc, ◌+◌, ◌-◌, ◌<◌, ◌≤◌, List, [], ◌∷◌, ◌++◌, length, map, filter, true, false, leb, ltb, ◌==◌, ◌&&◌, refl, arith, ap, sym, ◌∙◌, subst, Some}
use Rattle.std.proofs.lemmas.Bool.Decides.{nat_tests}
use Rattle.std.specs.Prelude.{if◌then◌else◌, Bool, slice_get, Option, remove}
use Rattle.bx_post.specs.declared.packets.Letter.{Letter}
use Rattle.bx_post.specs.Posts.{Posted, fresh, is_waiting, next_from, settled_from}
use Rattle.bx_post.specs.Rising.{AreAbove, IsRising, places_to}
use Rattle.bx_post.specs.Slots.{put_if, waiting_from, count_from}
use Rattle.bx_post.proofs.Rising.{taken, left}

put_above : (low n : ℕ) (b : Bool) (rest : List ℕ) → low < n → AreAbove low rest → AreAbove low (put_if b n rest)
put_above low n true rest order above = (order, above)
put_above low n false rest order above = above

pub waiting_above : (low first : ℕ) (all : List Posted) → low < first → AreAbove low (waiting_from first all)
waiting_above low first [] order = tt
waiting_above low first (one ∷ rest) order = put_above low first one.waits (waiting_from (first + 1) rest) order (waiting_above low (first + 1) rest (omega arith))

put_rises : (n : ℕ) (b : Bool) (rest : List ℕ) → AreAbove n rest → IsRising rest → IsRising (put_if b n rest)
put_rises n true rest above rising = (above, rising)
put_rises n false rest above rising = rising

pub waiting_rises : (first : ℕ) (all : List Posted) → IsRising (waiting_from first all)
waiting_rises first [] = tt
waiting_rises first (one ∷ rest) = put_rises first one.waits (waiting_from (first + 1) rest) (waiting_above first (first + 1) rest (omega arith)) (waiting_rises (first + 1) rest)

get_next : {A : Type 0} (x : A) (xs : List A) (p : ℕ) → slice_get (x ∷ xs) (1 + p) ≡ slice_get xs p
get_next x xs p = let e : 1 + p ≡ suc p = omega arith in ap (slice_get (x ∷ xs)) e

remove_next : {A : Type 0} (x : A) (xs : List A) (p : ℕ) → remove (x ∷ xs) (1 + p) ≡ x ∷ remove xs p
remove_next x xs p = let e : 1 + p ≡ suc p = omega arith in ap (remove (x ∷ xs)) e

-- the first number that is above the bound
next_put : (after first : ℕ) (b : Bool) (ws : List ℕ) (later : Option ℕ) → slice_get ws (places_to after ws) ≡ later
    → slice_get (put_if b first ws) (places_to after (put_if b first ws)) ≡ (if b && ltb after first then Some first else later)
next_put after first false ws later same = same
next_put after first true ws later same = by_test (leb first after) refl
  where
    by_test : (t : Bool) → leb first after ≡ t → slice_get (first ∷ ws) (places_to after (first ∷ ws)) ≡ (if ltb after first then Some first else later)
    by_test true is =
        let under : ltb after first ≡ false = grind (arith, nat_tests) in
        let low : first ≤ after = grind (arith, nat_tests) in
        ap (slice_get (first ∷ ws)) (taken after first ws low) ∙ get_next first ws (places_to after ws) ∙ same ∙ sym (ap (λ t. if t then Some first else later) under)
    by_test false is =
        let over : ltb after first ≡ true = grind (arith, nat_tests) in
        let high : after < first = grind (arith, nat_tests) in
        ap (slice_get (first ∷ ws)) (left after first ws high) ∙ sym (ap (λ t. if t then Some first else later) over)

pub next_at : (after first : ℕ) (all : List Posted) → slice_get (waiting_from first all) (places_to after (waiting_from first all)) ≡ next_from first after all
next_at after first [] = refl
next_at after first (one ∷ rest) = next_put after first one.waits (waiting_from (first + 1) rest) (next_from (first + 1) after rest) (next_at after (first + 1) rest)

pub beyond : (first number : ℕ) (all : List Posted) → number < first → settled_from first number all ≡ all
beyond first number [] under = refl
beyond first number (one ∷ rest) under =
    let other : (first == number) ≡ false = grind (arith, nat_tests) in
    let head : (if first == number then record one { waits = false } else one) ≡ one = ap (λ t. if t then record one { waits = false } else one) other in
    let tail : settled_from (first + 1) number rest ≡ rest = beyond (first + 1) number rest (omega arith) in
    ap (λ x. x ∷ settled_from (first + 1) number rest) head ∙ ap (λ xs. one ∷ xs) tail

not_above : (low : ℕ) (ws : List ℕ) (i : ℕ) → AreAbove low ws → slice_get ws i ≡ Some low → ⊥
not_above low [] i above is = cc
not_above low (n ∷ rest) zero above is = let same : n ≡ low = cc in omega (arith, above.0, same)
not_above low (n ∷ rest) (suc i) above is = not_above low rest i above.1 is

under_put : (first top number : ℕ) (b : Bool) (ws : List ℕ) (i : ℕ) → first < top → ((k : ℕ) → slice_get ws k ≡ Some number → number < top) → slice_get (put_if b first ws) i ≡ Some number → number < top
under_put first top number false ws i order under is = under i is
under_put first top number true ws zero order under is = let same : first ≡ number = cc in omega (arith, order, same)
under_put first top number true ws (suc i) order under is = under i is

-- each number that waits is one of them
pub under : (first number : ℕ) (all : List Posted) (i : ℕ) → slice_get (waiting_from first all) i ≡ Some number → number < first + length all
under first number [] i is = cc
under first number (one ∷ rest) i is =
    let later : (k : ℕ) → slice_get (waiting_from (first + 1) rest) k ≡ Some number → number < first + suc (length rest) = λ k there. omega (arith, under (first + 1) number rest k there) in
    under_put first (first + suc (length rest)) number one.waits (waiting_from (first + 1) rest) i (omega arith) later is

cross_here : (number : ℕ) (b : Bool) (ws : List ℕ) → 1 ≤ number → AreAbove number ws → slice_get (put_if b number ws) (places_to (number - 1) (put_if b number ws)) ≡ Some number
    → remove (put_if b number ws) (places_to (number - 1) (put_if b number ws)) ≡ ws
cross_here number true ws some above is = ap (remove (number ∷ ws)) (left (number - 1) number ws (omega arith))
cross_here number false ws some above is = absurd (not_above number ws (places_to (number - 1) ws) above is)

cross_later : (number first : ℕ) (b : Bool) (ws left_over : List ℕ) → first < number → (slice_get ws (places_to (number - 1) ws) ≡ Some number → remove ws (places_to (number - 1) ws) ≡ left_over)
    → slice_get (put_if b first ws) (places_to (number - 1) (put_if b first ws)) ≡ Some number
    → remove (put_if b first ws) (places_to (number - 1) (put_if b first ws)) ≡ put_if b first left_over
cross_later number first false ws left_over order more is = more is
cross_later number first true ws left_over order more is =
    let step = taken (number - 1) first ws (omega arith) in
    let there : slice_get ws (places_to (number - 1) ws) ≡ Some number = sym (get_next first ws (places_to (number - 1) ws)) ∙ ap (slice_get (first ∷ ws)) (sym step) ∙ is in
    ap (remove (first ∷ ws)) step ∙ remove_next first ws (places_to (number - 1) ws) ∙ ap (λ xs. first ∷ xs) (more there)

-- with a number taken out of those that wait, its packet is settled
pub crossed : (first number : ℕ) (all : List Posted) → 1 ≤ number → first ≤ number → slice_get (waiting_from first all) (places_to (number - 1) (waiting_from first all)) ≡ Some number
    → remove (waiting_from first all) (places_to (number - 1) (waiting_from first all)) ≡ waiting_from first (settled_from first number all)
crossed first number [] some order is = cc
crossed first number (one ∷ rest) some order is = by_test (first == number) refl (crossed (first + 1) number rest some)
  where
    by_test : (t : Bool) → (first == number) ≡ t → (first + 1 ≤ number → slice_get (waiting_from (first + 1) rest) (places_to (number - 1) (waiting_from (first + 1) rest)) ≡ Some number
        → remove (waiting_from (first + 1) rest) (places_to (number - 1) (waiting_from (first + 1) rest)) ≡ waiting_from (first + 1) (settled_from (first + 1) number rest))
        → remove (waiting_from first (one ∷ rest)) (places_to (number - 1) (waiting_from first (one ∷ rest))) ≡ waiting_from first (settled_from first number (one ∷ rest))
    by_test true same more =
        let equal : number ≡ first = grind (arith, nat_tests) in
        let above : AreAbove number (waiting_from (first + 1) rest) = waiting_above number (first + 1) rest (omega arith) in
        let P : ℕ → Type 0 = λ n. slice_get (put_if one.waits n (waiting_from (first + 1) rest)) (places_to (number - 1) (put_if one.waits n (waiting_from (first + 1) rest))) ≡ Some number in
        let Q : ℕ → Type 0 = λ n. remove (put_if one.waits n (waiting_from (first + 1) rest)) (places_to (number - 1) (put_if one.waits n (waiting_from (first + 1) rest))) ≡ waiting_from (first + 1) rest in
        let here = subst Q equal (cross_here number one.waits (waiting_from (first + 1) rest) some above (subst P (sym equal) is)) in
        let gone = ap (λ t. put_if (if t then record one { waits = false } else one).waits first (waiting_from (first + 1) (settled_from (first + 1) number rest))) same in
        here ∙ sym (ap (waiting_from (first + 1)) (beyond (first + 1) number rest (omega arith))) ∙ sym gone
    by_test false other more =
        let apart : first < number = grind (arith, nat_tests) in
        let kept = ap (λ t. put_if (if t then record one { waits = false } else one).waits first (waiting_from (first + 1) (settled_from (first + 1) number rest))) other in
        cross_later number first one.waits (waiting_from (first + 1) rest) (waiting_from (first + 1) (settled_from (first + 1) number rest)) apart (more (omega arith)) is ∙ sym kept

uncross_here : (number : ℕ) (b : Bool) (ws : List ℕ) → 1 ≤ number → (slice_get (put_if b number ws) (places_to (number - 1) (put_if b number ws)) ≢ Some number) → b ≡ false
uncross_here number true ws some absent = absurd (absent (ap (slice_get (number ∷ ws)) (left (number - 1) number ws (omega arith))))
uncross_here number false ws some absent = refl

uncross_later : (number first : ℕ) (b : Bool) (ws : List ℕ) → first < number → (slice_get (put_if b first ws) (places_to (number - 1) (put_if b first ws)) ≢ Some number) → slice_get ws (places_to (number - 1) ws) ≢ Some number
uncross_later number first false ws order absent = absent
uncross_later number first true ws order absent =
    let step = taken (number - 1) first ws (omega arith) in
    λ there. absent (ap (slice_get (first ∷ ws)) step ∙ get_next first ws (places_to (number - 1) ws) ∙ there)

settled_one : (one : Posted) → one.waits ≡ false → record one { waits = false } ≡ one
settled_one one is = ap (λ w. record one { waits = w }) (sym is)

-- a number that doesn't wait is of a packet that is settled already, or of none
pub uncrossed : (first number : ℕ) (all : List Posted) → 1 ≤ number → first ≤ number → (slice_get (waiting_from first all) (places_to (number - 1) (waiting_from first all)) ≢ Some number)
    → settled_from first number all ≡ all
uncrossed first number [] some order absent = refl
uncrossed first number (one ∷ rest) some order absent = by_test (first == number) refl (uncrossed (first + 1) number rest some)
  where
    by_test : (t : Bool) → (first == number) ≡ t → (first + 1 ≤ number → (slice_get (waiting_from (first + 1) rest) (places_to (number - 1) (waiting_from (first + 1) rest)) ≢ Some number) → settled_from (first + 1) number rest ≡ rest)
        → settled_from first number (one ∷ rest) ≡ one ∷ rest
    by_test true same more =
        let equal : first ≡ number = grind (arith, nat_tests) in
        let P : ℕ → Type 0 = λ n. slice_get (put_if one.waits n (waiting_from (first + 1) rest)) (places_to (number - 1) (put_if one.waits n (waiting_from (first + 1) rest))) ≢ Some number in
        let still = uncross_here number one.waits (waiting_from (first + 1) rest) some (subst P equal absent) in
        ap (λ t. (if t then record one { waits = false } else one) ∷ settled_from (first + 1) number rest) same
        ∙ ap (λ x. x ∷ settled_from (first + 1) number rest) (settled_one one still)
        ∙ ap (λ xs. one ∷ xs) (beyond (first + 1) number rest (omega arith))
    by_test false other more =
        let apart : first < number = grind (arith, nat_tests) in
        ap (λ t. (if t then record one { waits = false } else one) ∷ settled_from (first + 1) number rest) other
        ∙ ap (λ xs. one ∷ xs) (more (omega arith) (uncross_later number first one.waits (waiting_from (first + 1) rest) apart absent))

-- of the packets that are left each waits
count_put : (first : ℕ) (b : Bool) (ws : List ℕ) (rest : List Posted) (one : Posted) → length ws ≡ length (filter is_waiting rest) → one.waits ≡ b → length (put_if b first ws) ≡ length (filter is_waiting (one ∷ rest))
count_put first true ws rest one same is = grind (arith, same, is)
count_put first false ws rest one same is = grind (arith, same, is)

pub as_many : (first : ℕ) (all : List Posted) → length (waiting_from first all) ≡ length (filter is_waiting all)
as_many first [] = refl
as_many first (one ∷ rest) = count_put first one.waits (waiting_from (first + 1) rest) rest one (as_many (first + 1) rest) refl

pub all_wait : (first : ℕ) (all : List Posted) → waiting_from first (filter is_waiting all) ≡ count_from first (length (filter is_waiting all))
all_wait first [] = refl
all_wait first (one ∷ rest) = by_test one.waits refl (λ n. all_wait n rest)
  where
    by_test : (t : Bool) → one.waits ≡ t → ((n : ℕ) → waiting_from n (filter is_waiting rest) ≡ count_from n (length (filter is_waiting rest))) → waiting_from first (filter is_waiting (one ∷ rest)) ≡ count_from first (length (filter is_waiting (one ∷ rest)))
    by_test true is more = rw is (ap (λ xs. first ∷ xs) (more (first + 1)))
    by_test false is more = rw is (more first)

-- letters that are sent wait
pub waiting_behind : (first : ℕ) (all : List Posted) (letters : List Letter) → waiting_from first (all ++ map fresh letters) ≡ waiting_from first all ++ count_from (first + length all) (length letters)
waiting_behind first [] [] = refl
waiting_behind first [] (letter ∷ letters) =
    let next : first + 0 ≡ first = omega arith in
    let after : first + 1 ≡ first + 1 + 0 = omega arith in
    let more = waiting_behind (first + 1) [] letters ∙ ap (λ n. count_from n (length letters)) (omega arith) in
    rw next (ap (λ xs. first ∷ xs) more)
waiting_behind first (one ∷ rest) letters =
    let more = waiting_behind (first + 1) rest letters in
    let along : first + 1 + length rest ≡ first + suc (length rest) = omega arith in
    put_behind one.waits _ _ _ (more ∙ ap (λ n. waiting_from (first + 1) rest ++ count_from n (length letters)) along)
  where
    put_behind : (b : Bool) (xs ys zs : List ℕ) → xs ≡ ys ++ zs → put_if b first xs ≡ put_if b first ys ++ zs
    put_behind true xs ys zs same = ap (λ xs. first ∷ xs) same
    put_behind false xs ys zs same = same
