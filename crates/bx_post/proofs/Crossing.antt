-- Lanes as a packet is settled, as numbers above a bound are dropped, and as those that are pending are numbered anew.
use Rattle.std.proofs.Common.{◌≡◌, ◌≢◌, ℕ, suc, ◌+◌, ◌-◌, ◌<◌, ◌≤◌, List, [], ◌∷◌, ◌++◌, length, map, filter, true, false, not, leb, ◌==◌, ◌&&◌, inl, inr, refl, arith, ap, sym, ◌∙◌, subst, Some}
use Rattle.std.proofs.lemmas.Bool.Decides.{nat_tests}
use Rattle.std.specs.Prelude.{if◌then◌else◌, Bool, slice_get, remove}
use Rattle.std.specs.List.{AllByRecursion}
use Rattle.bx_post.specs.declared.packets.Letter.{Letter}
use Rattle.bx_post.specs.Lanes.{AreLanes, AreSingle, FindsLane, HasLane, IsApart, IsLane, Laned, Rises, is_on, lane_anew, lane_to, lane_without, numbers_of, place_in}
use Rattle.bx_post.specs.Posts.{Posted, is_waiting, settled_from}
use Rattle.bx_post.specs.Rising.{AreAbove, IsRising, places_to}
use Rattle.bx_post.specs.Slots.{put_if, waiting_from}
use Rattle.bx_post.proofs.Posts.{beyond}
use Rattle.bx_post.proofs.Rising.{above_less, left, taken}

-- ---- the numbers of a lane rise

put_above : (low n : ℕ) (b : Bool) (rest : List ℕ) → low < n → AreAbove low rest → AreAbove low (put_if b n rest)
put_above low n true rest order above = (order, above)
put_above low n false rest order above = above

pub numbers_above : (test : Letter → Bool) (low first : ℕ) (all : List Posted) → low < first → AreAbove low (numbers_of test first all)
numbers_above test low first [] order = tt
numbers_above test low first (one ∷ rest) order = put_above low first (one.waits && test one.letter) (numbers_of test (first + 1) rest) order (numbers_above test low (first + 1) rest (omega arith))

put_rises : (n : ℕ) (b : Bool) (rest : List ℕ) → AreAbove n rest → IsRising rest → IsRising (put_if b n rest)
put_rises n true rest above rising = (above, rising)
put_rises n false rest above rising = rising

pub numbers_rise : (test : Letter → Bool) (first : ℕ) (all : List Posted) → IsRising (numbers_of test first all)
numbers_rise test first [] = tt
numbers_rise test first (one ∷ rest) = put_rises first (one.waits && test one.letter) (numbers_of test (first + 1) rest) (numbers_above test first (first + 1) rest (omega arith)) (numbers_rise test (first + 1) rest)

pub lanes_rise : (all : List Posted) (lanes : List Laned) → AllByRecursion (IsLane all) lanes → AllByRecursion Rises lanes
lanes_rise all [] each = tt
lanes_rise all (lane ∷ rest) each = (subst IsRising (sym each.0) (numbers_rise (is_on lane) 1 all), lanes_rise all rest each.1)

-- ---- one number is dropped

abbrev pub is_other : ℕ → ℕ → Bool
is_other number n = not (n == number)

other_above : (number low : ℕ) (ns : List ℕ) → number ≤ low → AreAbove low ns → filter (is_other number) ns ≡ ns
other_above number low [] order above = refl
other_above number low (n ∷ rest) order above =
    let other : is_other number n ≡ true = grind (arith, nat_tests, above.0) in
    ap (λ b. if b then n ∷ filter (is_other number) rest else filter (is_other number) rest) other ∙ ap (λ ns. n ∷ ns) (other_above number low rest order above.1)

remove_next : {A : Type 0} (x : A) (xs : List A) (p : ℕ) → remove (x ∷ xs) (1 + p) ≡ x ∷ remove xs p
remove_next x xs p = let e : 1 + p ≡ suc p = omega arith in ap (remove (x ∷ xs)) e

get_next : {A : Type 0} (x : A) (xs : List A) (p : ℕ) → slice_get (x ∷ xs) (1 + p) ≡ slice_get xs p
get_next x xs p = let e : 1 + p ≡ suc p = omega arith in ap (slice_get (x ∷ xs)) e

-- where it stands it is taken out
pub taken_out : (number : ℕ) (ns : List ℕ) → 1 ≤ number → IsRising ns → slice_get ns (places_to (number - 1) ns) ≡ Some number → remove ns (places_to (number - 1) ns) ≡ filter (is_other number) ns
taken_out number [] some rising there = cc
taken_out number (n ∷ rest) some rising there = by_test (leb n (number - 1)) refl (taken_out number rest some rising.1)
  where
    by_test : (t : Bool) → leb n (number - 1) ≡ t → (slice_get rest (places_to (number - 1) rest) ≡ Some number → remove rest (places_to (number - 1) rest) ≡ filter (is_other number) rest)
        → remove (n ∷ rest) (places_to (number - 1) (n ∷ rest)) ≡ filter (is_other number) (n ∷ rest)
    by_test true low more =
        let step = taken (number - 1) n rest (grind (arith, nat_tests, low)) in
        let other : is_other number n ≡ true = grind (arith, nat_tests, low) in
        let later = sym (get_next n rest (places_to (number - 1) rest)) ∙ ap (slice_get (n ∷ rest)) (sym step) ∙ there in
        ap (remove (n ∷ rest)) step ∙ remove_next n rest (places_to (number - 1) rest) ∙ ap (λ ns. n ∷ ns) (more later)
        ∙ sym (ap (λ b. if b then n ∷ filter (is_other number) rest else filter (is_other number) rest) other)
    by_test false high more =
        let over : number - 1 < n = grind (arith, nat_tests, high) in
        let step = left (number - 1) n rest over in
        let here : slice_get (n ∷ rest) 0 ≡ Some number = ap (slice_get (n ∷ rest)) (sym step) ∙ there in
        let it : n ≡ number = cc in
        let same : is_other number n ≡ false = grind (arith, nat_tests, it) in
        ap (remove (n ∷ rest)) step ∙ sym (other_above number n rest (omega (arith, it)) rising.0)
        ∙ sym (ap (λ b. if b then n ∷ filter (is_other number) rest else filter (is_other number) rest) same)

pub not_there : (number : ℕ) (ns : List ℕ) → 1 ≤ number → IsRising ns → (slice_get ns (places_to (number - 1) ns) ≢ Some number) → ns ≡ filter (is_other number) ns
not_there number [] some rising absent = refl
not_there number (n ∷ rest) some rising absent = by_test (leb n (number - 1)) refl (not_there number rest some rising.1)
  where
    by_test : (t : Bool) → leb n (number - 1) ≡ t → ((slice_get rest (places_to (number - 1) rest) ≢ Some number) → rest ≡ filter (is_other number) rest) → n ∷ rest ≡ filter (is_other number) (n ∷ rest)
    by_test true low more =
        let step = taken (number - 1) n rest (grind (arith, nat_tests, low)) in
        let other : is_other number n ≡ true = grind (arith, nat_tests, low) in
        ap (λ ns. n ∷ ns) (more (λ later. absent (ap (slice_get (n ∷ rest)) step ∙ get_next n rest (places_to (number - 1) rest) ∙ later)))
        ∙ sym (ap (λ b. if b then n ∷ filter (is_other number) rest else filter (is_other number) rest) other)
    by_test false high more =
        let over : number - 1 < n = grind (arith, nat_tests, high) in
        let step = left (number - 1) n rest over in
        let differs : n ≢ number = λ it. absent (ap (slice_get (n ∷ rest)) step ∙ ap Some it) in
        sym (other_above number (number) (n ∷ rest) (omega arith) (omega (arith, differs, over), above_less number n (omega (arith, over)) rest rising.0))

-- the numbers that are left once a packet is settled
pub numbers_settled : (test : Letter → Bool) (first number : ℕ) (all : List Posted) → numbers_of test first (settled_from first number all) ≡ filter (is_other number) (numbers_of test first all)
numbers_settled test first number [] = refl
numbers_settled test first number (one ∷ rest) = by_test (first == number) refl (numbers_settled test (first + 1) number rest)
  where
    drops : (b : Bool) → first ≡ number → numbers_of test (first + 1) rest ≡ filter (is_other number) (put_if b first (numbers_of test (first + 1) rest))
    drops true it =
        let same : is_other number first ≡ false = grind (arith, nat_tests, it) in
        sym (ap (λ b. if b then first ∷ filter (is_other number) (numbers_of test (first + 1) rest) else filter (is_other number) (numbers_of test (first + 1) rest)) same
        ∙ other_above number first (numbers_of test (first + 1) rest) (omega (arith, it)) (numbers_above test first (first + 1) rest (omega arith)))
    drops false it = sym (other_above number first (numbers_of test (first + 1) rest) (omega (arith, it)) (numbers_above test first (first + 1) rest (omega arith)))

    keeps : (b : Bool) (ns ms : List ℕ) → is_other number first ≡ true → ns ≡ filter (is_other number) ms → put_if b first ns ≡ filter (is_other number) (put_if b first ms)
    keeps true ns ms other more = ap (λ xs. first ∷ xs) more ∙ sym (ap (λ b. if b then first ∷ filter (is_other number) ms else filter (is_other number) ms) other)
    keeps false ns ms other more = more

    by_test : (t : Bool) → (first == number) ≡ t → numbers_of test (first + 1) (settled_from (first + 1) number rest) ≡ filter (is_other number) (numbers_of test (first + 1) rest)
        → numbers_of test first (settled_from first number (one ∷ rest)) ≡ filter (is_other number) (numbers_of test first (one ∷ rest))
    by_test true is more =
        let it : first ≡ number = grind (arith, nat_tests, is) in
        ap (λ t. numbers_of test first ((if t then record one { waits = false } else one) ∷ settled_from (first + 1) number rest)) is
        ∙ ap (numbers_of test (first + 1)) (beyond (first + 1) number rest (omega (arith, it)))
        ∙ drops (one.waits && test one.letter) it
    by_test false is more =
        let other : is_other number first ≡ true = ap not is in
        ap (λ t. numbers_of test first ((if t then record one { waits = false } else one) ∷ settled_from (first + 1) number rest)) is
        ∙ keeps (one.waits && test one.letter) _ _ other more

-- ---- lanes of which each has other numbers

abbrev pub SameRoute : (Laned → Laned) → Type 0
SameRoute f = (lane : Laned) (letter : Letter) → is_on (f lane) letter ≡ is_on lane letter

has_still : (f : Laned → Laned) → SameRoute f → (lanes : List Laned) (letter : Letter) → HasLane lanes letter → HasLane (map f lanes) letter
has_still f same [] letter has = has
has_still f same (lane ∷ rest) letter (inl here) = inl (same lane letter ∙ here)
has_still f same (lane ∷ rest) letter (inr later) = inr (has_still f same rest letter later)

apart_still : (f : Laned → Laned) → SameRoute f → (lane : Laned) (lanes : List Laned) → IsApart lane lanes → IsApart (f lane) (map f lanes)
apart_still f same lane [] apart = tt
apart_still f same lane (other ∷ rest) apart = (λ letter on. same other letter ∙ apart.0 letter (sym (same lane letter) ∙ on), apart_still f same lane rest apart.1)

pub single_still : (f : Laned → Laned) → SameRoute f → (lanes : List Laned) → AreSingle lanes → AreSingle (map f lanes)
single_still f same [] single = tt
single_still f same (lane ∷ rest) single = (apart_still f same lane rest single.0, single_still f same rest single.1)

each_still : (f : Laned → Laned) (all new : List Posted) → ((lane : Laned) → IsLane all lane → IsLane new (f lane)) → (lanes : List Laned) → AllByRecursion (IsLane all) lanes → AllByRecursion (IsLane new) (map f lanes)
each_still f all new becomes [] each = tt
each_still f all new becomes (lane ∷ rest) each = (becomes lane each.0, each_still f all new becomes rest each.1)

-- ---- a packet is settled

every_settled : (number first : ℕ) (all : List Posted) (lanes : List Laned) → AllByRecursion (FindsLane lanes) all → AllByRecursion (FindsLane (map (lane_without number) lanes)) (settled_from first number all)
every_settled number first [] lanes every = tt
every_settled number first (one ∷ rest) lanes every = (by_test (first == number), every_settled number (first + 1) rest lanes every.1)
  where
    by_test : (t : Bool) → FindsLane (map (lane_without number) lanes) (if t then record one { waits = false } else one)
    by_test true = λ waits. cc
    by_test false = λ waits. has_still (lane_without number) (λ lane letter. refl) lanes one.letter (every.0 waits)

pub goes : (all : List Posted) (number : ℕ) (lanes : List Laned) → AreLanes all lanes → AreLanes (settled_from 1 number all) (map (lane_without number) lanes)
goes all number lanes are = record {
  each = each_still (lane_without number) all (settled_from 1 number all) (λ lane is. ap (filter (is_other number)) is ∙ sym (numbers_settled (is_on lane) 1 number all)) lanes are.each;
  every = every_settled number 1 all lanes are.every;
  single = single_still (lane_without number) (λ lane letter. refl) lanes are.single;
}

-- ---- numbers above a bound are dropped

abbrev pub is_low : ℕ → ℕ → Bool
is_low bound n = leb n bound

none_low : (bound low : ℕ) (ns : List ℕ) → bound ≤ low → AreAbove low ns → filter (is_low bound) ns ≡ []
none_low bound low [] order above = refl
none_low bound low (n ∷ rest) order above =
    let high : is_low bound n ≡ false = grind (arith, nat_tests, above.0) in
    ap (λ b. if b then n ∷ filter (is_low bound) rest else filter (is_low bound) rest) high ∙ none_low bound low rest order above.1

numbers_cut : (test : Letter → Bool) (first bound : ℕ) (all more : List Posted) → bound + 1 ≡ first + length all → filter (is_low bound) (numbers_of test first (all ++ more)) ≡ numbers_of test first all
numbers_cut test first bound [] more is = none_low bound bound (numbers_of test first more) (omega arith) (numbers_above test bound first more (omega (arith, is)))
numbers_cut test first bound (one ∷ rest) more is = put (one.waits && test one.letter) (numbers_cut test (first + 1) bound rest more (omega (arith, is)))
  where
    put : (b : Bool) → filter (is_low bound) (numbers_of test (first + 1) (rest ++ more)) ≡ numbers_of test (first + 1) rest
        → filter (is_low bound) (put_if b first (numbers_of test (first + 1) (rest ++ more))) ≡ put_if b first (numbers_of test (first + 1) rest)
    put true same =
        let low : is_low bound first ≡ true = grind (arith, nat_tests, is) in
        ap (λ b. if b then first ∷ filter (is_low bound) (numbers_of test (first + 1) (rest ++ more)) else filter (is_low bound) (numbers_of test (first + 1) (rest ++ more))) low ∙ ap (λ ns. first ∷ ns) same
    put false same = same

every_cut : (bound : ℕ) (all more : List Posted) (lanes : List Laned) → AllByRecursion (FindsLane lanes) (all ++ more) → AllByRecursion (FindsLane (map (lane_to bound) lanes)) all
every_cut bound [] more lanes every = tt
every_cut bound (one ∷ rest) more lanes every = (λ waits. has_still (lane_to bound) (λ lane letter. refl) lanes one.letter (every.0 waits), every_cut bound rest more lanes every.1)

pub goes_back : (all more : List Posted) (bound : ℕ) (lanes : List Laned) → length all ≡ bound → AreLanes (all ++ more) lanes → AreLanes all (map (lane_to bound) lanes)
goes_back all more bound lanes count are = record {
  each = each_still (lane_to bound) (all ++ more) all (λ lane is. ap (filter (is_low bound)) is ∙ numbers_cut (is_on lane) 1 bound all more (omega (arith, count))) lanes are.each;
  every = every_cut bound all more lanes are.every;
  single = single_still (lane_to bound) (λ lane letter. refl) lanes are.single;
}

-- ---- those that are pending are numbered anew

-- one place further
further : (k first : ℕ) (waiting ns : List ℕ) → AreAbove first ns → map (λ n. k + 1 + places_to (n - 1) waiting) ns ≡ map (λ n. k + places_to (n - 1) (first ∷ waiting)) ns
further k first waiting [] above = refl
further k first waiting (n ∷ rest) above =
    let step = taken (n - 1) first waiting (omega (arith, above.0)) in
    let head : k + 1 + places_to (n - 1) waiting ≡ k + places_to (n - 1) (first ∷ waiting) = omega (arith, step) in
    ap (λ m. m ∷ map (λ n. k + 1 + places_to (n - 1) waiting) rest) head ∙ ap (λ ms. (k + places_to (n - 1) (first ∷ waiting)) ∷ ms) (further k first waiting rest above.1)

numbers_anew : (test : Letter → Bool) (k first : ℕ) (all : List Posted) → 1 ≤ first → numbers_of test k (filter is_waiting all) ≡ map (λ n. k + places_to (n - 1) (waiting_from first all)) (numbers_of test first all)
numbers_anew test k first [] some = refl
numbers_anew test k first (one ∷ rest) some = by_test one.waits refl (λ j. numbers_anew test j (first + 1) rest (omega arith))
  where
    Is : Bool → Type 0
    Is w = numbers_of test k (if w then one ∷ filter is_waiting rest else filter is_waiting rest) ≡ map (λ n. k + places_to (n - 1) (put_if w first (waiting_from (first + 1) rest))) (put_if (w && test one.letter) first (numbers_of test (first + 1) rest))

    put : (b : Bool) → numbers_of test (k + 1) (filter is_waiting rest) ≡ map (λ n. k + 1 + places_to (n - 1) (waiting_from (first + 1) rest)) (numbers_of test (first + 1) rest)
        → put_if b k (numbers_of test (k + 1) (filter is_waiting rest)) ≡ map (λ n. k + places_to (n - 1) (first ∷ waiting_from (first + 1) rest)) (put_if b first (numbers_of test (first + 1) rest))
    put false more = more ∙ further k first (waiting_from (first + 1) rest) (numbers_of test (first + 1) rest) (numbers_above test first (first + 1) rest (omega arith))
    put true more =
        let none = left (first - 1) first (waiting_from (first + 1) rest) (omega arith) in
        let head : k ≡ k + places_to (first - 1) (first ∷ waiting_from (first + 1) rest) = omega (arith, none) in
        ap (λ m. m ∷ numbers_of test (k + 1) (filter is_waiting rest)) head
        ∙ ap (λ ms. (k + places_to (first - 1) (first ∷ waiting_from (first + 1) rest)) ∷ ms)
        (more ∙ further k first (waiting_from (first + 1) rest) (numbers_of test (first + 1) rest) (numbers_above test first (first + 1) rest (omega arith)))

    by_test : (w : Bool) → one.waits ≡ w → ((j : ℕ) → numbers_of test j (filter is_waiting rest) ≡ map (λ n. j + places_to (n - 1) (waiting_from (first + 1) rest)) (numbers_of test (first + 1) rest))
        → numbers_of test k (filter is_waiting (one ∷ rest)) ≡ map (λ n. k + places_to (n - 1) (waiting_from first (one ∷ rest))) (numbers_of test first (one ∷ rest))
    by_test false is more = subst Is (sym is) (more k)
    by_test true is more =
        let here : put_if (one.waits && test one.letter) k (numbers_of test (k + 1) (filter is_waiting rest)) ≡ put_if (test one.letter) k (numbers_of test (k + 1) (filter is_waiting rest)) = ap (λ w. put_if (w && test one.letter) k (numbers_of test (k + 1) (filter is_waiting rest))) is in
        subst Is (sym is) (here ∙ put (test one.letter) (more (k + 1)))

every_anew : (waiting : List ℕ) (all : List Posted) (lanes : List Laned) → AllByRecursion (FindsLane lanes) all → AllByRecursion (FindsLane (map (lane_anew waiting) lanes)) (filter is_waiting all)
every_anew waiting [] lanes every = tt
every_anew waiting (one ∷ rest) lanes every = by_test one.waits (every_anew waiting rest lanes every.1)
  where
    by_test : (w : Bool) → AllByRecursion (FindsLane (map (lane_anew waiting) lanes)) (filter is_waiting rest) → AllByRecursion (FindsLane (map (lane_anew waiting) lanes)) (if w then one ∷ filter is_waiting rest else filter is_waiting rest)
    by_test true more = (λ waits. has_still (lane_anew waiting) (λ lane letter. refl) lanes one.letter (every.0 waits), more)
    by_test false more = more

pub goes_anew : (all : List Posted) (waiting : List ℕ) (lanes : List Laned) → waiting ≡ waiting_from 1 all → AreLanes all lanes → AreLanes (filter is_waiting all) (map (lane_anew waiting) lanes)
goes_anew all waiting lanes is are = record {
  each = each_still (lane_anew waiting) all (filter is_waiting all)
      (λ lane its. ap (map (place_in waiting)) its ∙ ap (λ ws. map (place_in ws) (numbers_of (is_on lane) 1 all)) is ∙ sym (numbers_anew (is_on lane) 1 1 all (omega arith))) lanes are.each;
  every = every_anew waiting all lanes are.every;
  single = single_still (lane_anew waiting) (λ lane letter. refl) lanes are.single;
}
