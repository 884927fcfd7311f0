-- Lanes as letters come.
use Rattle.std.proofs.Common.{◌≡◌, ℕ, zero, suc, ◌+◌, List, [], ◌∷◌, ◌++◌, length, map, set, take, true, false, ◌==◌, ◌&&◌, inl, inr, refl, arith, ap, sym, ◌∙◌, subst, Some}
use Rattle.std.proofs.lemmas.Bool.Decides.{nat_tests}
use Rattle.std.specs.Prelude.{if◌then◌else◌, Bool, slice_get}
use Rattle.std.specs.List.{AllByRecursion}
use Rattle.bx_base.specs.declared.names.Actor.{Actor}
use Rattle.bx_base.specs.declared.names.Actor.TheVariants.{Node, Replica, Server, Member}
use Rattle.bx_post.specs.declared.packets.Letter.{Letter}
use Rattle.bx_post.specs.Lanes.{AreLanes, AreSingle, FindsLane, HasLane, IsApart, IsLane, Laned, filed, is_on, lane_for, lane_with, numbers_of}
use Rattle.bx_post.specs.Machines.{is_same}
use Rattle.bx_post.specs.Posts.{Posted, fresh}
use Rattle.bx_post.specs.Slots.{put_if}

-- ---- machines, and which letters go on a lane

pub same_is : (a b : Actor) → is_same a b ≡ true → a ≡ b
same_is (Node n) (Node m) is = let e : n ≡ m = grind (arith, nat_tests) in ap Node e
same_is (Replica n) (Replica m) is = let e : n ≡ m = grind (arith, nat_tests) in ap Replica e
same_is (Server n) (Server m) is = let e : n ≡ m = grind (arith, nat_tests) in ap Server e
same_is (Member n) (Member m) is = let e : n ≡ m = grind (arith, nat_tests) in ap Member e
same_is (Node n) (Replica m) is = cc
same_is (Node n) (Server m) is = cc
same_is (Node n) (Member m) is = cc
same_is (Replica n) (Node m) is = cc
same_is (Replica n) (Server m) is = cc
same_is (Replica n) (Member m) is = cc
same_is (Server n) (Node m) is = cc
same_is (Server n) (Replica m) is = cc
same_is (Server n) (Member m) is = cc
same_is (Member n) (Node m) is = cc
same_is (Member n) (Replica m) is = cc
same_is (Member n) (Server m) is = cc

pub same_self : (a : Actor) → is_same a a ≡ true
same_self (Node n) = grind (arith, nat_tests)
same_self (Replica n) = grind (arith, nat_tests)
same_self (Server n) = grind (arith, nat_tests)
same_self (Member n) = grind (arith, nat_tests)

both_true : (a b : Bool) → a && b ≡ true → (a ≡ true) × (b ≡ true)
both_true true b is = (refl, is)
both_true false b is = cc

-- what a letter that goes on a lane has
pub record IsOn (lane : Laned) (letter : Letter) : Type 0 where
  pub from : lane.from ≡ letter.from
  pub to : lane.to ≡ letter.to
  pub kind : lane.kind ≡ letter.kind

pub on_is : (lane : Laned) (letter : Letter) → is_on lane letter ≡ true → IsOn lane letter
on_is lane letter is =
    let first = both_true (is_same lane.from letter.from) (is_same lane.to letter.to && lane.kind == letter.kind) is in
    let second = both_true (is_same lane.to letter.to) (lane.kind == letter.kind) first.1 in
    record { from = same_is lane.from letter.from first.0; to = same_is lane.to letter.to second.0; kind = grind (arith, nat_tests, second.1) }

pub is_its : (lane : Laned) (letter : Letter) → IsOn lane letter → is_on lane letter ≡ true
is_its lane letter on =
    let from : is_same lane.from letter.from ≡ true = subst (λ a. is_same lane.from a ≡ true) on.from (same_self lane.from) in
    let to : is_same lane.to letter.to ≡ true = subst (λ a. is_same lane.to a ≡ true) on.to (same_self lane.to) in
    let kind : (lane.kind == letter.kind) ≡ true = grind (arith, nat_tests, on.kind) in
    ap (λ b. b && (is_same lane.to letter.to && lane.kind == letter.kind)) from ∙ ap (λ b. b && lane.kind == letter.kind) to ∙ kind

-- two lanes on which one letter goes are alike
alike : (lane other : Laned) (letter next : Letter) → is_on lane letter ≡ true → is_on other letter ≡ true → is_on lane next ≡ true → is_on other next ≡ true
alike lane other letter next a b c =
    let on_a = on_is lane letter a in
    let on_b = on_is other letter b in
    let on_c = on_is lane next c in
    is_its other next (record { from = on_b.from ∙ sym on_a.from ∙ on_c.from; to = on_b.to ∙ sym on_a.to ∙ on_c.to; kind = on_b.kind ∙ sym on_a.kind ∙ on_c.kind })

-- a letter doesn't go on a lane
abbrev pub IsElse : Letter → Laned → Type 0
IsElse letter lane = is_on lane letter ≡ false

-- ---- one letter comes

pub filed_at : (letter : Letter) (number at : ℕ) (lanes : List Laned) (lane : Laned) → AllByRecursion (IsElse letter) (take at lanes) → slice_get lanes at ≡ Some lane → is_on lane letter ≡ true
    → set lanes at (lane_with number lane) ≡ filed letter number lanes
filed_at letter number at [] lane elsewhere there on = cc
filed_at letter number zero (one ∷ rest) lane elsewhere there on =
    let it : lane ≡ one = cc in
    let here : is_on one letter ≡ true = subst (λ l. is_on l letter ≡ true) it on in
    ap (λ l. lane_with number l ∷ rest) it ∙ sym (ap (λ b. if b then lane_with number one ∷ rest else one ∷ filed letter number rest) here)
filed_at letter number (suc at) (one ∷ rest) lane elsewhere there on =
    ap (λ ls. one ∷ ls) (filed_at letter number at rest lane elsewhere.1 there on)
    ∙ sym (ap (λ b. if b then lane_with number one ∷ rest else one ∷ filed letter number rest) elsewhere.0)

pub filed_none : (letter : Letter) (number : ℕ) (lanes : List Laned) → AllByRecursion (IsElse letter) lanes → filed letter number lanes ≡ lanes ++ lane_for letter number ∷ []
filed_none letter number [] elsewhere = refl
filed_none letter number (one ∷ rest) elsewhere =
    ap (λ b. if b then lane_with number one ∷ rest else one ∷ filed letter number rest) elsewhere.0 ∙ ap (λ ls. one ∷ ls) (filed_none letter number rest elsewhere.1)

pub else_more : (letter : Letter) (at : ℕ) (lanes : List Laned) (lane : Laned) → AllByRecursion (IsElse letter) (take at lanes) → slice_get lanes at ≡ Some lane → is_on lane letter ≡ false
    → AllByRecursion (IsElse letter) (take (suc at) lanes)
else_more letter at [] lane elsewhere there off = cc
else_more letter zero (one ∷ rest) lane elsewhere there off = let it : lane ≡ one = cc in (subst (IsElse letter) it off, tt)
else_more letter (suc at) (one ∷ rest) lane elsewhere there off = (elsewhere.0, else_more letter at rest lane elsewhere.1 there off)

-- its number stands behind those of its lane
pub numbers_behind : (test : Letter → Bool) (first : ℕ) (all : List Posted) (letter : Letter) → numbers_of test first (all ++ fresh letter ∷ []) ≡ numbers_of test first all ++ put_if (test letter) (first + length all) []
numbers_behind test first [] letter = let e : first + 0 ≡ first = omega arith in ap (λ n. put_if (test letter) n []) (sym e)
numbers_behind test first (one ∷ rest) letter =
    let along : first + 1 + length rest ≡ first + suc (length rest) = omega arith in
    put_behind (one.waits && test one.letter) _ _ _ (numbers_behind test (first + 1) rest letter ∙ ap (λ n. numbers_of test (first + 1) rest ++ put_if (test letter) n []) along)
  where
    put_behind : (b : Bool) (xs ys zs : List ℕ) → xs ≡ ys ++ zs → put_if b first xs ≡ put_if b first ys ++ zs
    put_behind true xs ys zs same = ap (λ xs. first ∷ xs) same
    put_behind false xs ys zs same = same

none_behind : {A : Type 0} (xs : List A) → xs ++ [] ≡ xs
none_behind [] = refl
none_behind (x ∷ xs) = ap (λ ys. x ∷ ys) (none_behind xs)

-- a lane on which it doesn't go is as it was
lane_stays : (all : List Posted) (letter : Letter) (lane : Laned) → is_on lane letter ≡ false → IsLane all lane → IsLane (all ++ fresh letter ∷ []) lane
lane_stays all letter lane off is =
    is ∙ sym (numbers_behind (is_on lane) 1 all letter ∙ ap (λ b. numbers_of (is_on lane) 1 all ++ put_if b (1 + length all) []) off ∙ none_behind (numbers_of (is_on lane) 1 all))

lanes_stay : (all : List Posted) (letter : Letter) (lanes : List Laned) → AllByRecursion (IsElse letter) lanes → AllByRecursion (IsLane all) lanes → AllByRecursion (IsLane (all ++ fresh letter ∷ [])) lanes
lanes_stay all letter [] elsewhere each = tt
lanes_stay all letter (lane ∷ rest) elsewhere each = (lane_stays all letter lane elsewhere.0 each.0, lanes_stay all letter rest elsewhere.1 each.1)

lane_grows : (all : List Posted) (letter : Letter) (number : ℕ) (lane : Laned) → number ≡ 1 + length all → is_on lane letter ≡ true → IsLane all lane → IsLane (all ++ fresh letter ∷ []) (lane_with number lane)
lane_grows all letter number lane count on is =
    ap (λ ns. ns ++ number ∷ []) is ∙ ap (λ n. numbers_of (is_on lane) 1 all ++ n ∷ []) count
    ∙ sym (numbers_behind (is_on lane) 1 all letter ∙ ap (λ b. numbers_of (is_on lane) 1 all ++ put_if b (1 + length all) []) on)

apart_else : (lane : Laned) (letter : Letter) (lanes : List Laned) → is_on lane letter ≡ true → IsApart lane lanes → AllByRecursion (IsElse letter) lanes
apart_else lane letter [] on apart = tt
apart_else lane letter (other ∷ rest) on apart = (apart.0 letter on, apart_else lane letter rest on apart.1)

-- no packet that is pending goes on a lane that isn't there
found_else : (lanes : List Laned) (letter next : Letter) (new : Laned) → is_on new letter ≡ true → AllByRecursion (IsElse letter) lanes → HasLane lanes next → is_on new next ≡ true → ⊥
found_else [] letter next new on elsewhere has its = has
found_else (lane ∷ rest) letter next new on elsewhere (inl here) its =
    let back = alike new lane next letter its here on in
    let off = elsewhere.0 in cc
found_else (lane ∷ rest) letter next new on elsewhere (inr later) its = found_else rest letter next new on elsewhere.1 later its

none_on : (lanes : List Laned) (letter : Letter) (new : Laned) (first : ℕ) (all : List Posted) → is_on new letter ≡ true → AllByRecursion (IsElse letter) lanes → AllByRecursion (FindsLane lanes) all → numbers_of (is_on new) first all ≡ []
none_on lanes letter new first [] on elsewhere every = refl
none_on lanes letter new first (one ∷ rest) on elsewhere every = by_tests one.waits (is_on new one.letter) refl refl (none_on lanes letter new (first + 1) rest on elsewhere every.1)
  where
    by_tests : (w t : Bool) → one.waits ≡ w → is_on new one.letter ≡ t → numbers_of (is_on new) (first + 1) rest ≡ [] → numbers_of (is_on new) first (one ∷ rest) ≡ []
    by_tests false t waits its more = ap (λ b. put_if (b && is_on new one.letter) first (numbers_of (is_on new) (first + 1) rest)) waits ∙ more
    by_tests true false waits its more = ap (λ b. put_if (b && is_on new one.letter) first (numbers_of (is_on new) (first + 1) rest)) waits ∙ ap (λ b. put_if b first (numbers_of (is_on new) (first + 1) rest)) its ∙ more
    by_tests true true waits its more = absurd (found_else lanes letter one.letter new on elsewhere (every.0 waits) its)

new_on : (letter : Letter) (number : ℕ) → is_on (lane_for letter number) letter ≡ true
new_on letter number = is_its (lane_for letter number) letter (record { from = refl; to = refl; kind = refl })

-- the lanes with it: where no lane has it, no packet that is pending goes on its own
each_filed : (all : List Posted) (letter : Letter) (number : ℕ) (lanes : List Laned) → number ≡ 1 + length all → AreSingle lanes → AllByRecursion (IsLane all) lanes
    → (AllByRecursion (IsElse letter) lanes → numbers_of (is_on (lane_for letter number)) 1 all ≡ []) → AllByRecursion (IsLane (all ++ fresh letter ∷ [])) (filed letter number lanes)
each_filed all letter number [] count single each none =
    let new = lane_for letter number in
    let is : IsLane (all ++ fresh letter ∷ []) new =
    ap (λ n. n ∷ []) count ∙ sym (numbers_behind (is_on new) 1 all letter ∙ ap (λ b. numbers_of (is_on new) 1 all ++ put_if b (1 + length all) []) (new_on letter number) ∙ ap (λ ns. ns ++ (1 + length all) ∷ []) (none tt)) in
    (is, tt)
each_filed all letter number (lane ∷ rest) count single each none = by_test (is_on lane letter) refl (each_filed all letter number rest count single.1 each.1)
  where
    by_test : (t : Bool) → is_on lane letter ≡ t
        → ((AllByRecursion (IsElse letter) rest → numbers_of (is_on (lane_for letter number)) 1 all ≡ []) → AllByRecursion (IsLane (all ++ fresh letter ∷ [])) (filed letter number rest))
        → AllByRecursion (IsLane (all ++ fresh letter ∷ [])) (filed letter number (lane ∷ rest))
    by_test true on more =
        let lanes = sym (ap (λ b. if b then lane_with number lane ∷ rest else lane ∷ filed letter number rest) on) in
        subst (AllByRecursion (IsLane (all ++ fresh letter ∷ []))) lanes (lane_grows all letter number lane count on each.0, lanes_stay all letter rest (apart_else lane letter rest on single.0) each.1)
    by_test false off more =
        let lanes = sym (ap (λ b. if b then lane_with number lane ∷ rest else lane ∷ filed letter number rest) off) in
        subst (AllByRecursion (IsLane (all ++ fresh letter ∷ []))) lanes (lane_stays all letter lane off each.0, more (λ elsewhere. none (off, elsewhere)))

-- each that had a lane has one, and so has the letter
kept_lane : (letter next : Letter) (number : ℕ) (lanes : List Laned) → HasLane lanes next → HasLane (filed letter number lanes) next
kept_lane letter next number [] has = absurd has
kept_lane letter next number (lane ∷ rest) has = by_test (is_on lane letter) refl has (kept_lane letter next number rest)
  where
    by_test : (t : Bool) → is_on lane letter ≡ t → HasLane (lane ∷ rest) next → (HasLane rest next → HasLane (filed letter number rest) next) → HasLane (filed letter number (lane ∷ rest)) next
    by_test true on has more = subst (λ ls. HasLane ls next) (sym (ap (λ b. if b then lane_with number lane ∷ rest else lane ∷ filed letter number rest) on)) has
    by_test false off (inl here) more = subst (λ ls. HasLane ls next) (sym (ap (λ b. if b then lane_with number lane ∷ rest else lane ∷ filed letter number rest) off)) (inl here)
    by_test false off (inr later) more = subst (λ ls. HasLane ls next) (sym (ap (λ b. if b then lane_with number lane ∷ rest else lane ∷ filed letter number rest) off)) (inr (more later))

own_lane : (letter : Letter) (number : ℕ) (lanes : List Laned) → HasLane (filed letter number lanes) letter
own_lane letter number [] = inl (new_on letter number)
own_lane letter number (lane ∷ rest) = by_test (is_on lane letter) refl (own_lane letter number rest)
  where
    by_test : (t : Bool) → is_on lane letter ≡ t → HasLane (filed letter number rest) letter → HasLane (filed letter number (lane ∷ rest)) letter
    by_test true on more = subst (λ ls. HasLane ls letter) (sym (ap (λ b. if b then lane_with number lane ∷ rest else lane ∷ filed letter number rest) on)) (inl on)
    by_test false off more = subst (λ ls. HasLane ls letter) (sym (ap (λ b. if b then lane_with number lane ∷ rest else lane ∷ filed letter number rest) off)) (inr more)

every_filed : (all : List Posted) (letter : Letter) (number : ℕ) (lanes : List Laned) → AllByRecursion (FindsLane lanes) all → AllByRecursion (FindsLane (filed letter number lanes)) (all ++ fresh letter ∷ [])
every_filed [] letter number lanes every = (λ waits. own_lane letter number lanes, tt)
every_filed (one ∷ rest) letter number lanes every = (λ waits. kept_lane letter one.letter number lanes (every.0 waits), every_filed rest letter number lanes every.1)

-- lanes stay apart
apart_filed : (lane : Laned) (letter : Letter) (number : ℕ) (lanes : List Laned) → is_on lane letter ≡ false → IsApart lane lanes → IsApart lane (filed letter number lanes)
apart_filed lane letter number [] off apart = (λ next on. by_test next on (is_on (lane_for letter number) next) refl, tt)
  where
    by_test : (next : Letter) → is_on lane next ≡ true → (t : Bool) → is_on (lane_for letter number) next ≡ t → t ≡ false
    by_test next on false is = refl
    by_test next on true is = let back = alike (lane_for letter number) lane next letter is on (new_on letter number) in cc
apart_filed lane letter number (other ∷ rest) off apart = by_test (is_on other letter) refl (apart_filed lane letter number rest off apart.1)
  where
    by_test : (t : Bool) → is_on other letter ≡ t → IsApart lane (filed letter number rest) → IsApart lane (filed letter number (other ∷ rest))
    by_test true on more = subst (IsApart lane) (sym (ap (λ b. if b then lane_with number other ∷ rest else other ∷ filed letter number rest) on)) apart
    by_test false off more = subst (IsApart lane) (sym (ap (λ b. if b then lane_with number other ∷ rest else other ∷ filed letter number rest) off)) (apart.0, more)

single_filed : (letter : Letter) (number : ℕ) (lanes : List Laned) → AreSingle lanes → AreSingle (filed letter number lanes)
single_filed letter number [] single = (tt, tt)
single_filed letter number (lane ∷ rest) single = by_test (is_on lane letter) refl (single_filed letter number rest single.1)
  where
    by_test : (t : Bool) → is_on lane letter ≡ t → AreSingle (filed letter number rest) → AreSingle (filed letter number (lane ∷ rest))
    by_test true on more = subst AreSingle (sym (ap (λ b. if b then lane_with number lane ∷ rest else lane ∷ filed letter number rest) on)) single
    by_test false off more = subst AreSingle (sym (ap (λ b. if b then lane_with number lane ∷ rest else lane ∷ filed letter number rest) off)) (apart_filed lane letter number rest off single.0, more)

pub comes : (all : List Posted) (letter : Letter) (number : ℕ) (lanes : List Laned) → number ≡ 1 + length all → AreLanes all lanes → AreLanes (all ++ fresh letter ∷ []) (filed letter number lanes)
comes all letter number lanes count are = record {
  each = each_filed all letter number lanes count are.single are.each (λ elsewhere. none_on lanes letter (lane_for letter number) 1 all (new_on letter number) elsewhere are.every);
  every = every_filed all letter number lanes are.every;
  single = single_filed letter number lanes are.single;
}

-- ---- one letter after the other

taken_more : (letters : List Letter) (i : ℕ) (letter : Letter) → slice_get letters i ≡ Some letter → map fresh (take (suc i) letters) ≡ map fresh (take i letters) ++ fresh letter ∷ []
taken_more [] i letter there = cc
taken_more (one ∷ rest) zero letter there = let it : one ≡ letter = cc in ap (λ l. fresh l ∷ []) it
taken_more (one ∷ rest) (suc i) letter there = ap (λ xs. fresh one ∷ xs) (taken_more rest i letter there)

sent_more : (all more : List Posted) (xs ys : List Posted) → ys ≡ xs ++ more → all ++ ys ≡ (all ++ xs) ++ more
sent_more [] more xs ys same = same
sent_more (one ∷ rest) more xs ys same = ap (λ zs. one ∷ zs) (sent_more rest more xs ys same)

taken_long : (letters : List Letter) (i : ℕ) (letter : Letter) → slice_get letters i ≡ Some letter → length (map fresh (take i letters)) ≡ i
taken_long [] i letter there = cc
taken_long (one ∷ rest) zero letter there = refl
taken_long (one ∷ rest) (suc i) letter there = ap suc (taken_long rest i letter there)

sent_long : (all more : List Posted) → length (all ++ more) ≡ length all + length more
sent_long [] more = omega arith
sent_long (one ∷ rest) more = omega (arith, sent_long rest more)

pub comes_next : (all : List Posted) (letters : List Letter) (i n number : ℕ) (letter : Letter) (lanes : List Laned) → slice_get letters i ≡ Some letter → number ≡ length all + i + 1 → n ≡ suc i
    → AreLanes (all ++ map fresh (take i letters)) lanes → AreLanes (all ++ map fresh (take n letters)) (filed letter number lanes)
comes_next all letters i n number letter lanes there count next are =
    let sent = all ++ map fresh (take i letters) in
    let long = sent_long all (map fresh (take i letters)) in
    let short = taken_long letters i letter there in
    let same = sent_more all (fresh letter ∷ []) (map fresh (take i letters)) (map fresh (take (suc i) letters)) (taken_more letters i letter there) in
    let P : List Posted → Type 0 = λ xs. AreLanes xs (filed letter number lanes) in
    let Q : ℕ → Type 0 = λ m. AreLanes (all ++ map fresh (take m letters)) (filed letter number lanes) in
    subst Q (sym next) (subst P (sym same) (comes sent letter number lanes (omega (arith, long, short, count)) are))
