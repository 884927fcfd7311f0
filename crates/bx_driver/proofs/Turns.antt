-- What is due, and what is refused of it.
use Rattle.std.proofs.Common.{◌≡◌, ℕ, ◌+◌, ◌*◌, ◌<◌, ◌≤◌, true, false, ◌&&◌, not, inl, inr, refl, arith, ap, sym, ◌∙◌, Some, None}
use Rattle.std.proofs.lemmas.Bool.{cases_lt}
use Rattle.std.proofs.lemmas.Bool.Decides.{nat_tests}
use Rattle.std.specs.Prelude.{Bool, is_none, Option}
use Rattle.std.specs.Bool.{then_some}
use Rattle.std.specs.Option.{option_map, option_or}
use Rattle.std.specs.FinSet as set
use Rattle.bx_base.specs.declared.names.Actor.{Actor}
use Rattle.bx_base.specs.declared.names.Actor.TheVariants.{Node, Replica, Server, Member}
use Rattle.bx_facts.specs.Machines.{disk_of}
use Rattle.bx_post.specs.Posts.{packet_from, passing_from}
use Rattle.bx_world_events.specs.Causes.{IsThere}
use Rattle.bx_world_events.specs.Refusals.{Seen, clock_back, goes_to, is_there, refusal, told_of}
use Rattle.bx_world_events.specs.declared.event.Event.{Event}
use Rattle.bx_world_events.specs.declared.event.Event.TheVariants.{Crash, Deliver, Restart, Sync}
use Rattle.bx_world_events.specs.declared.event.EventError.TheVariants.{NoSuchMachine, NoSuchPacket, Up, Down, NothingToSync}
use Rattle.bx_driver.specs.Lanes.{lane_cmp, lane_of}
use Rattle.bx_driver.specs.Machines.{IsDown, IsUp}
use Rattle.bx_driver.specs.Pending.{IsLeast}
use Rattle.bx_driver.specs.Runs.{IsDue, IsLowest, MayArrive, MaySync, NoneMayArrive, passes_now}
use Rattle.bx_driver.specs.Runs.IsDue.{Arrives, Syncs, Rests}
use Rattle.bx_driver.proofs.Least.{MayPass, both_are, least_as, least_passes, none_passes, one_least}
use Rattle.bx_driver.proofs.Numbers.{packet_at}

-- ---- what may arrive is what passes

pub is_off : (b : Bool) → not b ≡ true → b ≡ false
is_off true is = cc
is_off false is = refl

both_off : (a b : Bool) → a ≡ false → b ≡ false → not a && not b ≡ true
both_off true b one other = cc
both_off false true one other = cc
both_off false false one other = refl

arrives_as : (seen : Seen) (held : set.FinSet lane_cmp) (n : ℕ) → MayPass (passes_now seen held) seen.post n → MayArrive seen held n
arrives_as seen held n (letter, pending, pass) =
    let both = both_are (not (seen.down letter.to)) (not (set.contains held (lane_of letter))) pass in
    (letter, pending, is_off (seen.down letter.to) both.0, is_off (set.contains held (lane_of letter)) both.1)

passes_as : (seen : Seen) (held : set.FinSet lane_cmp) (n : ℕ) → MayArrive seen held n → MayPass (passes_now seen held) seen.post n
passes_as seen held n (letter, pending, up, free) = (letter, pending, both_off (seen.down letter.to) (set.contains held (lane_of letter)) up free)

pub least_arrives : (seen : Seen) (held : set.FinSet lane_cmp) (n : ℕ) → passing_from (passes_now seen held) 1 seen.post ≡ Some n → IsLeast (MayArrive seen held) n
least_arrives seen held n is = least_as (MayPass (passes_now seen held) seen.post) (MayArrive seen held) n (arrives_as seen held) (passes_as seen held) (least_passes (passes_now seen held) seen.post n is)

pub none_arrives : (seen : Seen) (held : set.FinSet lane_cmp) → passing_from (passes_now seen held) 1 seen.post ≡ None → NoneMayArrive seen held
none_arrives seen held is n may = none_passes (passes_now seen held) seen.post is n (passes_as seen held n may)

-- ---- one is due

same_disk : (seen : Seen) (a b : Actor) (disk : ℕ) → disk_of a ≡ Some disk → disk_of b ≡ Some disk → IsThere seen a → IsThere seen b → a ≡ b
same_disk seen (Node i) b disk a_has b_has a_there b_there = cc
same_disk seen (Server i) b disk a_has b_has a_there b_there = cc
same_disk seen (Replica i) (Node j) disk a_has b_has a_there b_there = cc
same_disk seen (Replica i) (Server j) disk a_has b_has a_there b_there = cc
same_disk seen (Replica i) (Replica j) disk a_has b_has a_there b_there = let e : i ≡ j = cc in ap Replica e
same_disk seen (Replica i) (Member j) disk a_has b_has a_there b_there = let e : i ≡ 3 + j = cc in absurd (omega (arith, e, a_there))
same_disk seen (Member i) (Node j) disk a_has b_has a_there b_there = cc
same_disk seen (Member i) (Server j) disk a_has b_has a_there b_there = cc
same_disk seen (Member i) (Replica j) disk a_has b_has a_there b_there = let e : j ≡ 3 + i = cc in absurd (omega (arith, e, b_there))
same_disk seen (Member i) (Member j) disk a_has b_has a_there b_there = let e : 3 + i ≡ 3 + j = cc in let same : i ≡ j = omega (arith, e) in ap Member same

one_lowest : (seen : Seen) (a b : Actor) → IsLowest seen a → IsLowest seen b → a ≡ b
one_lowest seen a b its others =
    let one = its.least b others.disk others.syncs in
    let two = others.least a its.disk its.syncs in
    let same : others.disk ≡ its.disk = omega (arith, one, two) in
    same_disk seen a b its.disk its.syncs.0 (others.syncs.0 ∙ ap Some same) its.syncs.1.0 others.syncs.1.0

pub one_due : (seen : Seen) (held : set.FinSet lane_cmp) (reading : ℕ) (a b : Option Event) → IsDue seen held reading a → IsDue seen held reading b → a ≡ b
one_due seen held reading a b (Arrives n its least) (Arrives m others most) = its ∙ ap (λ k. Some (Deliver reading k)) (one_least (MayArrive seen held) n m least most) ∙ sym others
one_due seen held reading a b (Arrives n its least) (Syncs at others none low) = absurd (none n least.stands)
one_due seen held reading a b (Arrives n its least) (Rests others none idle) = absurd (none n least.stands)
one_due seen held reading a b (Syncs at its none low) (Arrives n others least) = absurd (none n least.stands)
one_due seen held reading a b (Syncs at its none low) (Syncs to others empty lower) = its ∙ ap (λ who. Some (Sync who)) (one_lowest seen at to low lower) ∙ sym others
one_due seen held reading a b (Syncs at its none low) (Rests others empty idle) = absurd (idle at low.disk low.syncs)
one_due seen held reading a b (Rests its none idle) (Arrives n others least) = absurd (none n least.stands)
one_due seen held reading a b (Rests its none idle) (Syncs at others empty low) = absurd (idle at low.disk low.syncs)
one_due seen held reading a b (Rests its none idle) (Rests others empty rest) = its ∙ sym others

-- ---- it is refused for nothing but its reading

or_none : {A : Type 0} (a : Option A) → option_or a None ≡ a
or_none (Some x) = refl
or_none None = refl

pub arrives_allowed : (seen : Seen) (held : set.FinSet lane_cmp) (reading number : ℕ) → MayArrive seen held number → refusal seen (Deliver reading number) ≡ clock_back seen (Deliver reading number)
arrives_allowed seen held reading number (letter, pending, up, free) =
    let there = packet_at 1 number seen.post _ pending.0 pending.1 in
    ap (λ p. option_or (clock_back seen (Deliver reading number)) (option_or (then_some (is_none p) (NoSuchPacket number)) (option_or (told_of (λ who. seen.down who) (λ who. Down) (option_map goes_to p)) None))) there
    ∙ ap (λ d. option_or (clock_back seen (Deliver reading number)) (option_or (then_some d Down) None)) up
    ∙ or_none (clock_back seen (Deliver reading number))

-- where there is no such packet, that is the cause
pub lacks_refused : (seen : Seen) (reading number : ℕ) → packet_from 1 number seen.post ≡ None → refusal seen (Deliver reading number) ≡ option_or (clock_back seen (Deliver reading number)) (Some (NoSuchPacket number))
lacks_refused seen reading number lacks =
    ap (λ p. option_or (clock_back seen (Deliver reading number)) (option_or (then_some (is_none p) (NoSuchPacket number)) (option_or (told_of (λ who. seen.down who) (λ who. Down) (option_map goes_to p)) None))) lacks

there_is : (seen : Seen) (who : Actor) → IsThere seen who → is_there seen who ≡ true
there_is seen (Node n) is = grind (arith, nat_tests)
there_is seen (Replica n) is = grind (arith, nat_tests)
there_is seen (Server n) is = grind (arith, nat_tests)
there_is seen (Member n) is = grind (arith, nat_tests)

pub syncs_allowed : (seen : Seen) (at : Actor) (disk : ℕ) → MaySync seen at disk → refusal seen (Sync at) ≡ None
syncs_allowed seen at disk (has, (there, up), waits) =
    let is = there_is seen at there in
    ap (λ b. option_or (then_some (not b) NoSuchMachine) (option_or (then_some (seen.down at) Down) (option_or (then_some (not (seen.waits at)) NothingToSync) None))) is
    ∙ ap (λ b. option_or (then_some b Down) (option_or (then_some (not (seen.waits at)) NothingToSync) None)) up
    ∙ ap (λ b. option_or (then_some (not b) NothingToSync) None) waits

pub crash_allowed : (seen : Seen) (who : Actor) → IsUp seen who → refusal seen (Crash who) ≡ None
crash_allowed seen who (there, up) =
    ap (λ b. option_or (then_some (not b) NoSuchMachine) (option_or (then_some (seen.down who) Down) None)) (there_is seen who there)
    ∙ ap (λ b. option_or (then_some b Down) None) up

pub restart_allowed : (seen : Seen) (reading : ℕ) (who : Actor) → IsDown seen who → refusal seen (Restart reading who) ≡ clock_back seen (Restart reading who)
restart_allowed seen reading who (there, down) =
    ap (λ b. option_or (then_some (not b) NoSuchMachine) (option_or (clock_back seen (Restart reading who)) (option_or (then_some (not (seen.down who)) Up) None))) (there_is seen who there)
    ∙ ap (λ b. option_or (clock_back seen (Restart reading who)) (option_or (then_some (not b) Up) None)) down
    ∙ or_none (clock_back seen (Restart reading who))

-- ---- the lowest disk, one by one

pub is_there_with : (seen : Seen) (at : Actor) (disk : ℕ) → disk_of at ≡ Some disk → ((n : ℕ) → at ≡ Replica n → n < 3) → disk < 3 + 2 * seen.devices → IsThere seen at
is_there_with seen (Node n) disk has few under = cc
is_there_with seen (Server n) disk has few under = cc
is_there_with seen (Replica n) disk has few under = few n refl
is_there_with seen (Member n) disk has few under = let e : 3 + n ≡ disk = cc in omega (arith, e)

pub disk_under : (seen : Seen) (at : Actor) (disk : ℕ) → disk_of at ≡ Some disk → IsThere seen at → disk < 3 + 2 * seen.devices
disk_under seen (Node n) disk has there = cc
disk_under seen (Server n) disk has there = cc
disk_under seen (Replica n) disk has there = let e : n ≡ disk = cc in omega (arith, e, there)
disk_under seen (Member n) disk has there = let e : 3 + n ≡ disk = cc in omega (arith, e, there)

-- a machine with this disk may not sync, so each that may has a higher one
pub next_lowest : (seen : Seen) (at : Actor) (disk : ℕ) → disk_of at ≡ Some disk → IsThere seen at → not (seen.down at) && seen.waits at ≡ false → ((other : Actor) (its : ℕ) → MaySync seen other its → disk ≤ its)
    → (other : Actor) (its : ℕ) → MaySync seen other its → disk + 1 ≤ its
next_lowest seen at disk has there idle below other its may = elim (cases_lt disk its) [
  | inl more ↦ omega arith
  | inr less ↦
      let above = below other its may in
      let same : its ≡ disk = omega (arith, above) in
      let one : other ≡ at = same_disk seen other at disk (may.0 ∙ ap Some same) has may.1.0 there in
      absurd (never one may.1.1 may.2)
]
  where
    never : other ≡ at → seen.down other ≡ false → seen.waits other ≡ true → ⊥
    never one up waits =
        let does : not (seen.down other) && seen.waits other ≡ true = ap (λ d. not d && seen.waits other) up ∙ waits in
        let doesnt : not (seen.down other) && seen.waits other ≡ false = ap (λ who. not (seen.down who) && seen.waits who) one ∙ idle in
        cc

pub lowest : (seen : Seen) (at : Actor) (disk : ℕ) → disk_of at ≡ Some disk → IsThere seen at → not (seen.down at) && seen.waits at ≡ true → ((other : Actor) (its : ℕ) → MaySync seen other its → disk ≤ its) → IsLowest seen at
lowest seen at disk has there does below =
    let both = both_are (not (seen.down at)) (seen.waits at) does in
    record { disk = disk; syncs = (has, (there, is_off (seen.down at) both.0), both.1); least = below }
