-- The least number on lanes that pass is the least whose packet is pending and passes.
use Rattle.std.proofs.Common.{◌≡◌, ℕ, zero, suc, ◌+◌, ◌-◌, ◌<◌, ◌≤◌, min, List, [], ◌∷◌, take, true, false, ◌&&◌, inl, inr, refl, arith, ap, sym, ◌∙◌, Some, None}
use Rattle.std.specs.Prelude.{if◌then◌else◌, Bool, slice_get, Option, IfSome}
use Rattle.std.specs.List.{AllByRecursion}
use Rattle.bx_base.specs.declared.names.Actor.{Actor}
use Rattle.bx_post.specs.Lanes.{AreLanes, FindsLane, HasLane, IsLane, Laned, first_on, is_on, numbers_of, sooner, soonest}
use Rattle.bx_post.specs.declared.post.Slot.{Slot}
use Rattle.bx_post.specs.Posts.{Posted, letter_of, passes, passing_from}
use Rattle.bx_post.specs.Rising.{AreAbove}
use Rattle.bx_post.specs.Slots.{IsKept, posted, posted_of, put_if, waiting_from}
use Rattle.bx_post.proofs.Crossing.{numbers_above}
use Rattle.bx_post.proofs.Filing.{on_is}
use Rattle.bx_post.proofs.Posts.{waiting_above}

-- ---- one lane after the other

sooner_none : (a : Option ℕ) → sooner a None ≡ a
sooner_none None = refl
sooner_none (Some n) = refl

sooner_turn : (a b c : Option ℕ) → sooner a (sooner b c) ≡ sooner (sooner a b) c
sooner_turn None b c = refl
sooner_turn (Some n) None c = refl
sooner_turn (Some n) (Some m) None = refl
sooner_turn (Some n) (Some m) (Some k) = let e : min n (min m k) ≡ min (min n m) k = omega arith in ap Some e

pub soonest_more : (test : Actor → Actor → ℕ → Bool) (at : ℕ) (lanes : List Laned) (lane : Laned) → slice_get lanes at ≡ Some lane → soonest test (take (suc at) lanes) ≡ sooner (soonest test (take at lanes)) (first_on test lane)
soonest_more test at [] lane there = cc
soonest_more test zero (one ∷ rest) lane there = let it : one ≡ lane = cc in sooner_none (first_on test one) ∙ ap (first_on test) it
soonest_more test (suc at) (one ∷ rest) lane there =
    ap (sooner (first_on test one)) (soonest_more test at rest lane there) ∙ sooner_turn (first_on test one) (soonest test (take at rest)) (first_on test lane)

-- ---- what lanes tell of packets from one number on

-- the least number of a lane, of packets that are counted from `first` on
abbrev first_of : (Actor → Actor → ℕ → Bool) → ℕ → List Posted → Laned → Option ℕ
first_of test first all lane = if test lane.from lane.to lane.kind then slice_get (numbers_of (is_on lane) first all) 0 else None

abbrev least_of : (Actor → Actor → ℕ → Bool) → ℕ → List Posted → List Laned → Option ℕ
least_of test first all [] = None
least_of test first all (lane ∷ rest) = sooner (first_of test first all lane) (least_of test first all rest)

as_told : (test : Actor → Actor → ℕ → Bool) (all : List Posted) (lanes : List Laned) → AllByRecursion (IsLane all) lanes → soonest test lanes ≡ least_of test 1 all lanes
as_told test all [] each = refl
as_told test all (lane ∷ rest) each =
    ap (λ ns. sooner (if test lane.from lane.to lane.kind then slice_get ns 0 else None) (soonest test rest)) each.0
    ∙ ap (sooner (first_of test 1 all lane)) (as_told test all rest each.1)

-- a letter that goes on a lane passes as the lane does
as_lane : (test : Actor → Actor → ℕ → Bool) (lane : Laned) (one : Posted) → is_on lane one.letter ≡ true → test lane.from lane.to lane.kind ≡ passes test one.letter
as_lane test lane one on =
    let its = on_is lane one.letter on in
    ap (λ a. test a lane.to lane.kind) its.from ∙ ap (λ b. test one.letter.from b lane.kind) its.to ∙ ap (test one.letter.from one.letter.to) its.kind

-- a packet that isn't pending, or doesn't pass, is no lane's first that passes
skipped_one : (test : Actor → Actor → ℕ → Bool) (first : ℕ) (one : Posted) (rest : List Posted) (lane : Laned) → one.waits && passes test one.letter ≡ false → first_of test first (one ∷ rest) lane ≡ first_of test (first + 1) rest lane
skipped_one test first one rest lane off = by_tests one.waits (is_on lane one.letter) refl refl
  where
    by_tests : (w t : Bool) → one.waits ≡ w → is_on lane one.letter ≡ t → first_of test first (one ∷ rest) lane ≡ first_of test (first + 1) rest lane
    by_tests false t waits on = ap (λ w. if test lane.from lane.to lane.kind then slice_get (put_if (w && is_on lane one.letter) first (numbers_of (is_on lane) (first + 1) rest)) 0 else None) waits
    by_tests true false waits on =
        ap (λ w. if test lane.from lane.to lane.kind then slice_get (put_if (w && is_on lane one.letter) first (numbers_of (is_on lane) (first + 1) rest)) 0 else None) waits
        ∙ ap (λ t. if test lane.from lane.to lane.kind then slice_get (put_if t first (numbers_of (is_on lane) (first + 1) rest)) 0 else None) on
    by_tests true true waits on =
        let fails : passes test one.letter ≡ false = sym (ap (λ w. w && passes test one.letter) waits) ∙ off in
        let closed = as_lane test lane one on ∙ fails in
        ap (λ b. if b then slice_get (numbers_of (is_on lane) first (one ∷ rest)) 0 else None) closed ∙ sym (ap (λ b. if b then slice_get (numbers_of (is_on lane) (first + 1) rest) 0 else None) closed)

skipped : (test : Actor → Actor → ℕ → Bool) (first : ℕ) (one : Posted) (rest : List Posted) (lanes : List Laned) → one.waits && passes test one.letter ≡ false → least_of test first (one ∷ rest) lanes ≡ least_of test (first + 1) rest lanes
skipped test first one rest [] off = refl
skipped test first one rest (lane ∷ lanes) off =
    ap (λ o. sooner o (least_of test first (one ∷ rest) lanes)) (skipped_one test first one rest lane off)
    ∙ ap (sooner (first_of test (first + 1) rest lane)) (skipped test first one rest lanes off)

-- no lane has a number below the first
head_least : (low : ℕ) (ns : List ℕ) → AreAbove low ns → IfSome (slice_get ns 0) (λ n. low < n)
head_least low [] above = tt
head_least low (n ∷ rest) above = above.0

if_least : (b : Bool) (first : ℕ) (o : Option ℕ) → IfSome o (λ n. first ≤ n) → IfSome (if b then o else None) (λ n. first ≤ n)
if_least true first o least = least
if_least false first o least = tt

put_least : (first : ℕ) (b : Bool) (ns : List ℕ) → AreAbove first ns → IfSome (slice_get (put_if b first ns) 0) (λ n. first ≤ n)
put_least first true ns above = omega arith
put_least first false [] above = tt
put_least first false (n ∷ rest) above = omega (arith, above.0)

lane_least : (test : Actor → Actor → ℕ → Bool) (first : ℕ) (one : Posted) (rest : List Posted) (lane : Laned) → IfSome (first_of test first (one ∷ rest) lane) (λ n. first ≤ n)
lane_least test first one rest lane =
    if_least (test lane.from lane.to lane.kind) first _ (put_least first (one.waits && is_on lane one.letter) (numbers_of (is_on lane) (first + 1) rest) (numbers_above (is_on lane) first (first + 1) rest (omega arith)))

sooner_least : (first : ℕ) (a b : Option ℕ) → IfSome a (λ n. first ≤ n) → IfSome b (λ n. first ≤ n) → IfSome (sooner a b) (λ n. first ≤ n)
sooner_least first None b low more = more
sooner_least first (Some n) None low more = low
sooner_least first (Some n) (Some m) low more = omega (arith, low, more)

all_least : (test : Actor → Actor → ℕ → Bool) (first : ℕ) (one : Posted) (rest : List Posted) (lanes : List Laned) → IfSome (least_of test first (one ∷ rest) lanes) (λ n. first ≤ n)
all_least test first one rest [] = tt
all_least test first one rest (lane ∷ lanes) = sooner_least first _ _ (lane_least test first one rest lane) (all_least test first one rest lanes)

first_left : (first : ℕ) (o : Option ℕ) → IfSome o (λ n. first ≤ n) → sooner (Some first) o ≡ Some first
first_left first None least = refl
first_left first (Some n) least = let e : min first n ≡ first = omega (arith, least) in ap Some e

first_right : (first : ℕ) (o : Option ℕ) → IfSome o (λ n. first ≤ n) → sooner o (Some first) ≡ Some first
first_right first None least = refl
first_right first (Some n) least = let e : min n first ≡ first = omega (arith, least) in ap Some e

-- the first packet is pending and passes: its lane has it
found : (test : Actor → Actor → ℕ → Bool) (first : ℕ) (one : Posted) (rest : List Posted) (lanes : List Laned) → one.waits ≡ true → passes test one.letter ≡ true → HasLane lanes one.letter → least_of test first (one ∷ rest) lanes ≡ Some first
found test first one rest [] waits pass has = absurd has
found test first one rest (lane ∷ lanes) waits pass (inl on) =
    let open_is = as_lane test lane one on ∙ pass in
    let numbers = numbers_of (is_on lane) (first + 1) rest in
    let here : first_of test first (one ∷ rest) lane ≡ Some first =
    ap (λ b. if b then slice_get (numbers_of (is_on lane) first (one ∷ rest)) 0 else None) open_is
    ∙ ap (λ w. slice_get (put_if (w && is_on lane one.letter) first numbers) 0) waits ∙ ap (λ t. slice_get (put_if t first numbers) 0) on in
    ap (λ o. sooner o (least_of test first (one ∷ rest) lanes)) here ∙ first_left first _ (all_least test first one rest lanes)
found test first one rest (lane ∷ lanes) waits pass (inr later) =
    ap (sooner (first_of test first (one ∷ rest) lane)) (found test first one rest lanes waits pass later) ∙ first_right first _ (lane_least test first one rest lane)

none_least : (test : Actor → Actor → ℕ → Bool) (first : ℕ) (lanes : List Laned) → least_of test first [] lanes ≡ None
none_least test first [] = refl
none_least test first (lane ∷ rest) = by_test (test lane.from lane.to lane.kind) (none_least test first rest)
  where
    by_test : (b : Bool) → least_of test first [] rest ≡ None → sooner (if b then None else None) (least_of test first [] rest) ≡ None
    by_test true more = more
    by_test false more = more

both_are : (a b : Bool) → a && b ≡ true → (a ≡ true) × (b ≡ true)
both_are true b is = (refl, is)
both_are false b is = cc

least_is : (test : Actor → Actor → ℕ → Bool) (first : ℕ) (all : List Posted) (lanes : List Laned) → AllByRecursion (FindsLane lanes) all → least_of test first all lanes ≡ passing_from test first all
least_is test first [] lanes every = none_least test first lanes
least_is test first (one ∷ rest) lanes every = by_test (one.waits && passes test one.letter) refl (least_is test (first + 1) rest lanes every.1)
  where
    by_test : (b : Bool) → one.waits && passes test one.letter ≡ b → least_of test (first + 1) rest lanes ≡ passing_from test (first + 1) rest → least_of test first (one ∷ rest) lanes ≡ passing_from test first (one ∷ rest)
    by_test true is more =
        let both = both_are one.waits (passes test one.letter) is in
        found test first one rest lanes both.0 both.1 (every.0 both.0) ∙ sym (ap (λ b. if b then Some first else passing_from test (first + 1) rest) is)
    by_test false is more =
        skipped test first one rest lanes is ∙ more ∙ sym (ap (λ b. if b then Some first else passing_from test (first + 1) rest) is)

pub soonest_is : (test : Actor → Actor → ℕ → Bool) (all : List Posted) (lanes : List Laned) → AreLanes all lanes → soonest test lanes ≡ passing_from test 1 all
soonest_is test all lanes are = as_told test all lanes are.each ∙ least_is test 1 all lanes are.every

-- ---- the first that is pending

least_above : (low : ℕ) (ns : List ℕ) (m : ℕ) → AreAbove low ns → slice_get ns 0 ≡ Some m → low < m
least_above low [] m above is = cc
least_above low (k ∷ ns) m above is = let it : k ≡ m = cc in omega (arith, above.0, it)

-- where it passes, it is the least that does
first_waits : (test : Actor → Actor → ℕ → Bool) (first n : ℕ) (all : List Posted) (one : Posted) → slice_get (waiting_from first all) 0 ≡ Some n → slice_get all (n - first) ≡ Some one → passes test one.letter ≡ true
    → passing_from test first all ≡ Some n
first_waits test first n [] one least there pass = cc
first_waits test first n (here ∷ rest) one least there pass = by_test here.waits refl (first_waits test (first + 1) n rest one)
  where
    by_test : (w : Bool) → here.waits ≡ w → (slice_get (waiting_from (first + 1) rest) 0 ≡ Some n → slice_get rest (n - (first + 1)) ≡ Some one → passes test one.letter ≡ true → passing_from test (first + 1) rest ≡ Some n)
        → passing_from test first (here ∷ rest) ≡ Some n
    by_test true waits more =
        let head : Some first ≡ Some n = sym (ap (λ w. slice_get (put_if w first (waiting_from (first + 1) rest)) 0) waits) ∙ least in
        let it : first ≡ n = cc in
        let zero_is : n - first ≡ 0 = omega (arith, it) in
        let self : here ≡ one = let e = sym (ap (slice_get (here ∷ rest)) zero_is) ∙ there in cc in
        let passed : passes test here.letter ≡ true = ap (λ o. passes test o.letter) self ∙ pass in
        ap (λ w. if w && passes test here.letter then Some first else passing_from test (first + 1) rest) waits
        ∙ ap (λ p. if p then Some first else passing_from test (first + 1) rest) passed ∙ head
    by_test false waits more =
        let later : slice_get (waiting_from (first + 1) rest) 0 ≡ Some n = sym (ap (λ w. slice_get (put_if w first (waiting_from (first + 1) rest)) 0) waits) ∙ least in
        let above = least_above first (waiting_from (first + 1) rest) n (waiting_above first (first + 1) rest (omega arith)) later in
        let step : n - first ≡ suc (n - (first + 1)) = omega (arith, above) in
        let behind = sym (ap (slice_get (here ∷ rest)) step) ∙ there in
        ap (λ w. if w && passes test here.letter then Some first else passing_from test (first + 1) rest) waits ∙ more later behind pass

pub first_is : (test : Actor → Actor → ℕ → Bool) (n : ℕ) (slots : List Slot) (waiting : List ℕ) (slot : Slot) → IsKept slots waiting → slice_get waiting 0 ≡ Some n → slice_get slots (n - 1) ≡ Some slot → passes test (letter_of slot.packet) ≡ true
    → slice_get waiting 0 ≡ passing_from test 1 (posted slots)
first_is test n slots waiting slot kept least there pass =
    let least_now = ap (λ ws. slice_get ws 0) (sym kept.pending) ∙ least in
    least ∙ sym (first_waits test 1 n (posted slots) (posted_of slot) least_now (posted_at (n - 1) slots slot there) pass)
  where
    posted_at : (at : ℕ) (some : List Slot) (one : Slot) → slice_get some at ≡ Some one → slice_get (posted some) at ≡ Some (posted_of one)
    posted_at at [] one is = cc
    posted_at zero (s ∷ rest) one is = let it : s ≡ one = cc in ap (λ x. Some (posted_of x)) it
    posted_at (suc at) (s ∷ rest) one is = posted_at at rest one is

pub least_some : (n : ℕ) (slots : List Slot) (waiting : List ℕ) → IsKept slots waiting → slice_get waiting 0 ≡ Some n → 1 ≤ n
least_some n slots waiting kept least =
    let least_now = ap (λ ws. slice_get ws 0) (sym kept.pending) ∙ least in
    omega (arith, least_above 0 (waiting_from 1 (posted slots)) n (waiting_above 0 1 (posted slots) (omega arith)) least_now)
