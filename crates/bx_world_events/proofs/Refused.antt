-- What a refusal says: the first of the causes that stand.
use Rattle.std.proofs.Common.{◌≡◌, ℕ, zero, suc, ◌+◌, ◌/◌, ◌%◌, ◌<◌, ◌≤◌, ◌==◌, nat_lt, not, Bool, true, false, List, [], ◌∷◌, refl, arith, ap, sym, ◌∙◌, subst, Some, None}
use Rattle.std.proofs.lemmas.Bool.Decides.{nat_tests}
use Rattle.std.specs.Prelude.{Option, IsSomeAnd, is_none, slice_get, if◌then◌else◌}
use Rattle.std.specs.Bool.{then_some}
use Rattle.std.specs.Option.{option_or}
use Rattle.bx_base.specs.declared.names.Actor.{Actor}
use Rattle.bx_base.specs.declared.names.Actor.TheVariants.{Node, Replica, Server, Member}
use Rattle.bx_global.specs.declared.state.GlobalState.{GlobalState}
use Rattle.bx_lease.specs.Readings.{IsTooFarBack, back_by}
use Rattle.bx_post.specs.Posts.{packet_from}
use Rattle.bx_rows.specs.declared.device.DeviceRow.{DeviceRow}
use Rattle.bx_rows.specs.Modes.{only_a, only_b}
use Rattle.bx_world_events.specs.Causes.{IsCause, IsFirst, IsSpare, IsThere, place_of}
use Rattle.bx_world_events.specs.Events.{machine_of, needs_down, needs_up, number_of, reading_of}
use Rattle.bx_world_events.specs.Refusals.{Seen, causes, first_of, is_spare, is_there, nothing_to_sync, receiver, refusal, still_needed, told_of, uses_other}
use Rattle.bx_world_events.specs.declared.event.Event.{Event}
use Rattle.bx_world_events.specs.declared.event.Event.TheVariants.{Call, Tick, Deliver, Sync, Crash, Restart, Blank}
use Rattle.bx_world_events.specs.declared.event.EventError.{EventError}
use Rattle.bx_world_events.specs.declared.event.EventError.TheVariants.{NoSuchMachine, ClockBack, NoSuchPacket, Up, Down, NothingToSync, StillNeeded, OutOfMemory}

-- ---- one after the other

pub both : {A : Type 0} {a b c d : Option A} → a ≡ b → c ≡ d → option_or a c ≡ option_or b d
both {A} {a} {b} {c} {d} first second = ap (λ o. option_or o c) first ∙ ap (λ o. option_or b o) second

pub in_turn : (a b c d e f g : Option EventError)
    → option_or (option_or (option_or (option_or (option_or (option_or a b) c) d) e) f) g ≡ first_of (a ∷ b ∷ c ∷ d ∷ e ∷ f ∷ g ∷ [])
in_turn (Some x) b c d e f g = refl
in_turn None (Some x) c d e f g = refl
in_turn None None (Some x) d e f g = refl
in_turn None None None (Some x) e f g = refl
in_turn None None None None (Some x) f g = refl
in_turn None None None None None (Some x) g = refl
in_turn None None None None None None (Some x) = refl
in_turn None None None None None None None = refl

-- where an error comes first: it is there, and none stands before it
record StandsFirst (causes : List (Option EventError)) (error : EventError) : Type 0 where
  pub at : ℕ
  pub there : slice_get causes at ≡ Some (Some error)
  pub before : (i : ℕ) (other : EventError) → slice_get causes i ≡ Some (Some other) → at ≤ i

found : (causes : List (Option EventError)) (error : EventError) → first_of causes ≡ Some error → StandsFirst causes error
found [] error is = cc
found (Some other ∷ causes) error is = record { at = 0; there = ap Some is; before = λ i o s. omega arith }
found (None ∷ causes) error is = let more = found causes error is in record { at = suc more.at; there = more.there; before = later more.at more.before }
  where
    later : (at : ℕ) → ((i : ℕ) (other : EventError) → slice_get causes i ≡ Some (Some other) → at ≤ i) → (i : ℕ) (other : EventError) → slice_get (None ∷ causes) i ≡ Some (Some other) → suc at ≤ i
    later at all zero other there = cc
    later at all (suc i) other there = omega (arith, all i other there)

missed : (causes : List (Option EventError)) (i : ℕ) (error : EventError) → first_of causes ≡ None → slice_get causes i ≡ Some (Some error) → ⊥
missed [] i error is there = cc
missed (Some other ∷ causes) i error is there = cc
missed (None ∷ causes) zero error is there = cc
missed (None ∷ causes) (suc i) error is there = missed causes i error is there

-- ---- a test is a fact

turned : (b : Bool) → not b ≡ true → b ≡ false
turned true is = cc
turned false is = refl

is_not : (b : Bool) → (b ≡ true → ⊥) → not b ≡ true
is_not true never = absurd (never refl)
is_not false never = refl

there_is : (seen : Seen) (who : Actor) → is_there seen who ≡ true → IsThere seen who
there_is seen (Node n) is = grind (arith, nat_tests)
there_is seen (Replica n) is = grind (arith, nat_tests)
there_is seen (Server n) is = grind (arith, nat_tests)
there_is seen (Member n) is = grind (arith, nat_tests)

is_test : (seen : Seen) (who : Actor) → IsThere seen who → is_there seen who ≡ true
is_test seen (Node n) is = grind (arith, nat_tests)
is_test seen (Replica n) is = grind (arith, nat_tests)
is_test seen (Server n) is = grind (arith, nat_tests)
is_test seen (Member n) is = grind (arith, nat_tests)

row_spare : (second : Bool) (row : Option DeviceRow) → uses_other second row ≡ true → IsSomeAnd row (λ r. r.mode ≡ (if second then only_a else only_b))
row_spare second None is = cc
row_spare second (Some row) is = grind (arith, nat_tests)

row_test : (second : Bool) (row : Option DeviceRow) → IsSomeAnd row (λ r. r.mode ≡ (if second then only_a else only_b)) → uses_other second row ≡ true
row_test second None is = absurd is
row_test second (Some row) is = grind (arith, nat_tests)

spare_is : (state : GlobalState) (who : Actor) → is_spare state who ≡ true → IsSpare state who
spare_is state (Node n) is = cc
spare_is state (Replica n) is = cc
spare_is state (Server n) is = cc
spare_is state (Member n) is = row_spare (n % 2 == 1) (slice_get state.devices (n / 2)) is

spare_test : (state : GlobalState) (who : Actor) → IsSpare state who → is_spare state who ≡ true
spare_test state (Node n) is = absurd is
spare_test state (Replica n) is = absurd is
spare_test state (Server n) is = absurd is
spare_test state (Member n) is = row_test (n % 2 == 1) (slice_get state.devices (n / 2)) is

none_test : {A : Type 0} (o : Option A) → is_none o ≡ true → o ≡ None
none_test None is = refl
none_test (Some x) is = cc

-- ---- what is told is a cause

-- where an error is told of what is named
record IsTold {A : Type 0} (test : A → Bool) (error : A → EventError) (named : Option A) (told : EventError) : Type 0 where
  pub of : A
  pub is : named ≡ Some of
  pub passes : test of ≡ true
  pub same : error of ≡ told

told_by : {A : Type 0} (test : A → Bool) (error : A → EventError) (named : Option A) (told : EventError) → told_of test error named ≡ Some told → IsTold test error named told
told_by test error None told is = cc
told_by test error (Some x) told is = by_test (test x) refl is
  where
    by_test : (b : Bool) → test x ≡ b → then_some b (error x) ≡ Some told → IsTold test error (Some x) told
    by_test true passes same = record { of = x; is = refl; passes = passes; same = cc }
    by_test false passes same = cc

and_of : {A : Type 0} (named : Option A) (x : A) (P : A → Type 0) → named ≡ Some x → P x → IsSomeAnd named P
and_of named x P is holds = subst (λ o. IsSomeAnd o P) (sym is) holds

-- a cause that stands, with its place
abbrev Stands : Seen → Event → ℕ → EventError → Type 0
Stands seen event place error = IsCause seen event error × (place_of error ≡ place)

sync_told : (seen : Seen) (event : Event) (error : EventError) → nothing_to_sync seen event ≡ Some error → Stands seen event 6 error
sync_told seen (Sync at) error is = by_test (seen.waits at) refl is
  where
    by_test : (b : Bool) → seen.waits at ≡ b → then_some (not b) NothingToSync ≡ Some error → Stands seen (Sync at) 6 error
    by_test true waits same = cc
    by_test false waits same = let it : NothingToSync ≡ error = cc in subst (Stands seen (Sync at) 6) it ((at, refl, waits), refl)
sync_told seen (Call reading node client bytes) error is = cc
sync_told seen (Tick reading at) error is = cc
sync_told seen (Deliver reading number) error is = cc
sync_told seen (Crash at) error is = cc
sync_told seen (Restart reading at) error is = cc
sync_told seen (Blank at) error is = cc

blank_told : (seen : Seen) (event : Event) (error : EventError) → still_needed seen event ≡ Some error → Stands seen event 7 error
blank_told seen (Blank at) error is = by_test (is_spare seen.most at) refl is
  where
    by_test : (b : Bool) → is_spare seen.most at ≡ b → then_some (not b) StillNeeded ≡ Some error → Stands seen (Blank at) 7 error
    by_test true spare same = cc
    by_test false spare same =
        let it : StillNeeded ≡ error = cc in
        let needed : IsSpare seen.most at → ⊥ = λ is. let t = spare_test seen.most at is in cc in
        subst (Stands seen (Blank at) 7) it ((at, refl, needed), refl)
blank_told seen (Call reading node client bytes) error is = cc
blank_told seen (Tick reading at) error is = cc
blank_told seen (Deliver reading number) error is = cc
blank_told seen (Sync at) error is = cc
blank_told seen (Crash at) error is = cc
blank_told seen (Restart reading at) error is = cc

inner : (cause : Option EventError) (error : EventError) → Some cause ≡ Some (Some error) → cause ≡ Some error
inner cause error is = cc

sound : (seen : Seen) (event : Event) (i : ℕ) (error : EventError) → slice_get (causes seen event) i ≡ Some (Some error) → Stands seen event (suc i) error
sound seen event zero error there =
    let t = told_by (λ who. not (is_there seen who)) (λ who. NoSuchMachine) (machine_of event) error (inner _ error there) in
    let absent : IsThere seen t.of → ⊥ = λ is. let test = is_test seen t.of is in let none = turned _ t.passes in cc in
    subst (Stands seen event 1) t.same (and_of (machine_of event) t.of (λ who. IsThere seen who → ⊥) t.is absent, refl)
sound seen event (suc zero) error there =
    let t = told_by (λ reading. nat_lt (reading + 500) seen.greatest) (λ reading. ClockBack (back_by seen.greatest reading)) (reading_of event) error (inner _ error there) in
    let far : t.of + 500 < seen.greatest = grind (arith, nat_tests, t.passes) in
    subst (Stands seen event 2) t.same (and_of (reading_of event) t.of (λ reading. IsTooFarBack seen.greatest reading × (back_by seen.greatest t.of ≡ back_by seen.greatest reading)) t.is (far, refl), refl)
sound seen event (suc (suc zero)) error there =
    let t = told_by (λ number. is_none (packet_from 1 number seen.post)) (λ number. NoSuchPacket number) (number_of event) error (inner _ error there) in
    subst (Stands seen event 3) t.same ((t.is, none_test _ t.passes), refl)
sound seen event (suc (suc (suc zero))) error there =
    let t = told_by (λ who. not (seen.down who)) (λ who. Up) (needs_down event) error (inner _ error there) in
    subst (Stands seen event 4) t.same (and_of (needs_down event) t.of (λ who. seen.down who ≡ false) t.is (turned _ t.passes), refl)
sound seen event (suc (suc (suc (suc zero)))) error there =
    let t = told_by (λ who. seen.down who) (λ who. Down) (needs_up (receiver seen) event) error (inner _ error there) in
    subst (Stands seen event 5) t.same (and_of (needs_up (receiver seen) event) t.of (λ who. seen.down who ≡ true) t.is t.passes, refl)
sound seen event (suc (suc (suc (suc (suc zero))))) error there = sync_told seen event error (inner _ error there)
sound seen event (suc (suc (suc (suc (suc (suc zero)))))) error there = blank_told seen event error (inner _ error there)
sound seen event (suc (suc (suc (suc (suc (suc (suc i))))))) error there = cc

-- ---- a cause is told

tells : {A : Type 0} (test : A → Bool) (error : A → EventError) (named : Option A) (told : EventError) (P : A → Type 0)
    → ((x : A) → P x → (test x ≡ true) × (error x ≡ told)) → IsSomeAnd named P → told_of test error named ≡ Some told
tells test error None told P each is = absurd is
tells test error (Some x) told P each is = let pair = each x is in ap (λ b. then_some b (error x)) pair.0 ∙ ap Some pair.1

-- it is told, at its place
record IsAt (seen : Seen) (event : Event) (error : EventError) : Type 0 where
  pub at : ℕ
  pub there : slice_get (causes seen event) at ≡ Some (Some error)
  pub place : suc at ≡ place_of error

complete : (seen : Seen) (event : Event) (error : EventError) → IsCause seen event error → IsAt seen event error
complete seen event NoSuchMachine is = record {
  at = 0;
  there = ap Some (tells (λ who. not (is_there seen who)) (λ who. NoSuchMachine) (machine_of event) NoSuchMachine (λ who. IsThere seen who → ⊥) (λ who absent. (is_not _ (λ t. absent (there_is seen who t)), refl)) is);
  place = refl;
}
complete seen event (ClockBack by) is = record {
  at = 1;
  there = ap Some (tells (λ reading. nat_lt (reading + 500) seen.greatest) (λ reading. ClockBack (back_by seen.greatest reading)) (reading_of event) (ClockBack by) (λ reading. IsTooFarBack seen.greatest reading × (by ≡ back_by seen.greatest reading))
      (λ reading far. (grind (arith, nat_tests, far.0), ap ClockBack (sym far.1))) is);
  place = refl;
}
complete seen event (NoSuchPacket number) is = record {
  at = 2;
  there = ap Some (ap (told_of (λ n. is_none (packet_from 1 n seen.post)) (λ n. NoSuchPacket n)) is.0 ∙ ap (λ p. then_some (is_none p) (NoSuchPacket number)) is.1);
  place = refl;
}
complete seen event Up is = record {
  at = 3;
  there = ap Some (tells (λ who. not (seen.down who)) (λ who. Up) (needs_down event) Up (λ who. seen.down who ≡ false) (λ who up. (ap not up, refl)) is);
  place = refl;
}
complete seen event Down is = record {
  at = 4;
  there = ap Some (tells (λ who. seen.down who) (λ who. Down) (needs_up (receiver seen) event) Down (λ who. seen.down who ≡ true) (λ who down. (down, refl)) is);
  place = refl;
}
complete seen event NothingToSync is = record {
  at = 5;
  there = ap Some (ap (nothing_to_sync seen) is.1 ∙ ap (λ b. then_some (not b) NothingToSync) is.2);
  place = refl;
}
complete seen event StillNeeded is = record {
  at = 6;
  there = ap Some (ap (still_needed seen) is.1 ∙ ap (λ b. then_some b StillNeeded) (is_not _ (λ t. is.2 (spare_is seen.most is.0 t))));
  place = refl;
}
complete seen event OutOfMemory is = absurd is

pub first_told : (seen : Seen) (event : Event) (error : EventError) → refusal seen event ≡ Some error → IsFirst seen event error
first_told seen event error is =
    let f = found (causes seen event) error is in
    let s = sound seen event f.at error f.there in
    record {
      stands = s.0;
      first = λ other cause. let c = complete seen event other cause in omega (arith, s.1, c.place, f.before c.at other c.there);
    }

pub none_stands : (seen : Seen) (event : Event) (error : EventError) → refusal seen event ≡ None → IsCause seen event error → ⊥
none_stands seen event error none cause = let c = complete seen event error cause in missed (causes seen event) c.at error none c.there
