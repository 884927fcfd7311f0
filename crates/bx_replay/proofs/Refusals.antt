-- Why a line that a cluster refuses is refused, as lines tell it; and what lines tell of one that isn't.
use Rattle.std.proofs.Common.{◌≡◌, ◌⊎◌, ◌+◌, ◌/◌, ◌<◌, ℕ, Bool, true, false, Option, Some, None, inl, inr, refl, sym, ap, subst, arith, nat_lt}
use Rattle.std.proofs.lemmas.Bool.Decides.{nat_tests}
use Rattle.std.specs.Bool.{then_some}
use Rattle.std.specs.List.{AllByRecursion}
use Rattle.std.specs.Prelude.{IfSome, IsSomeAnd}
use Rattle.bx_base.specs.declared.names.Actor.{Actor}
use Rattle.bx_base.specs.declared.names.Actor.TheVariants.{Node, Replica, Server, Member}
use Rattle.bx_driver.specs.declared.lane.Lane.{Lane}
use Rattle.bx_lease.specs.Readings.{IsTooFarBack, back_by}
use Rattle.bx_opens.specs.bx_world_events.specs.Causes.{IsCause, IsFirst, place_of, IsThere as IsInCluster}
use Rattle.bx_opens.specs.bx_world_events.specs.Events as events
use Rattle.bx_opens.specs.bx_world_events.specs.Refusals.{Seen, receiver, refusal}
use Rattle.bx_opens.specs.bx_world_events.specs.declared.event.Event.{Event}
use Rattle.bx_opens.specs.bx_world_events.specs.declared.event.EventError.{EventError}
use Rattle.bx_opens.specs.bx_world_events.specs.declared.event.EventError.TheVariants as errors
use Rattle.bx_schedule.specs.Refusing.{IsRefusal, NamesLane, at_clock, back_at}
use Rattle.bx_schedule.specs.Refusing.IsRefusal.{OfCrashes, OfEvent, OfLane, OfNoLane, OfRestarts, OfRun}
use Rattle.bx_schedule.specs.Refusing.NamesLane.{Holds, Frees, Drops}
use Rattle.bx_script.specs.Schedule.{reading_of}
use Rattle.bx_script.specs.declared.line.Line.{Line}
use Rattle.bx_replay.specs.Lines.{HasMachine, IsArrival, IsBackBy, IsFit, IsSteady, AllAreThere, Machines, needs_down, needs_up}
use Rattle.bx_replay.specs.Replay.{IsRefusedFor, ShowsLines}
use Rattle.bx_replay.specs.Stops.{stop_of}
use Rattle.bx_replay.proofs.Naming.{Names, listed, names}

-- what the causes of an event come to
abbrev pub TellsFirst : Type 0
TellsFirst = (seen : Seen) (event : Event) (error : EventError) → refusal seen event ≡ Some error → IsFirst seen event error

abbrev pub TellsNone : Type 0
TellsNone = (seen : Seen) (event : Event) (error : EventError) → refusal seen event ≡ None → IsCause seen event error → ⊥

decided : (b : Bool) → (b ≡ true) ⊎ (b ≡ false)
decided true = inl refl
decided false = inr refl

less_or : (a b : ℕ) → (a < b) ⊎ ((a < b) → ⊥)
less_or a b = grind arith

less_so : (a b : ℕ) → (((a < b) → ⊥) → ⊥) → a < b
less_so a b twice = elim (less_or a b) [ inl is ↦ is | inr none ↦ absurd (twice none) ]

true_false : (b : Bool) → b ≡ true → b ≡ false → ⊥
true_false b up down = cc

not_false : (b : Bool) → (b ≡ false → ⊥) → b ≡ true
not_false true none = refl
not_false false none = absurd (none refl)

not_true : (b : Bool) → (b ≡ true → ⊥) → b ≡ false
not_true true none = absurd (none refl)
not_true false none = refl

and_of : {A : Type 0} (named : Option A) (x : A) (P : A → Type 0) → named ≡ Some x → P x → IsSomeAnd named P
and_of named x P is holds = subst (λ o. IsSomeAnd o P) (sym is) holds

-- a machine that isn't missing is there
pub found : (seen : Seen) (who : Actor) → ((IsInCluster seen who → ⊥) → ⊥) → IsInCluster seen who
found seen (Node n) twice = less_so n seen.nodes twice
found seen (Replica n) twice = less_so n 3 twice
found seen (Server n) twice = less_so n 2 twice
found seen (Member n) twice = less_so (n / 2) seen.devices twice

pub there_back : (clock : ℕ) (seen : Seen) (who : Actor) → IsInCluster (at_clock clock seen) who → IsInCluster seen who
there_back clock seen (Node n) is = is
there_back clock seen (Replica n) is = is
there_back clock seen (Server n) is = is
there_back clock seen (Member n) is = is

module _ (MayStop : Type 0) (machines : Machines) (seen : Seen) (clock : ℕ) (shows : ShowsLines MayStop machines seen clock) where
  abbrev here : Seen
  here = at_clock clock seen

  has : (who : Actor) → IsInCluster here who → HasMachine machines who
  has (Node n) is = subst (λ (count : ℕ). n < count) shows.nodes is
  has (Replica n) is = is
  has (Server n) is = is
  has (Member n) is = subst (λ (count : ℕ). n / 2 < count) shows.devices is

  has_back : (who : Actor) → HasMachine machines who → IsInCluster here who
  has_back (Node n) is = subst (λ (count : ℕ). n < count) (sym shows.nodes) is
  has_back (Replica n) is = is
  has_back (Server n) is = is
  has_back (Member n) is = subst (λ (count : ℕ). n / 2 < count) (sym shows.devices) is

  -- a machine that is up, or down, as the cluster shows
  up_by_lines : (who : Actor) → IsInCluster here who → (seen.down who ≡ true → ⊥) → machines.down who ≡ false
  up_by_lines who there up = not_true (machines.down who) (λ is. up (shows.down who (there_back clock seen who there) is))

  down_by_lines : (who : Actor) → IsInCluster here who → seen.down who ≡ true → (machines.down who ≡ true) ⊎ MayStop
  down_by_lines who there is = shows.stopped who (there_back clock seen who there) is

  far_here : (reading : ℕ) → IsTooFarBack machines.greatest reading → IsTooFarBack clock reading
  far_here reading far = subst (λ (g : ℕ). IsTooFarBack g reading) (sym shows.clock) far

  module _ (line : Line) (event : Event) (named : Names (at_clock clock seen) line event) where
    abbrev NoCause : EventError → Type 0
    NoCause error = IsCause here event error → ⊥

    in_cluster : NoCause errors.NoSuchMachine → (who : Actor) → events.machine_of event ≡ Some who → IsInCluster here who
    in_cluster none who is = found here who (λ lacks. none (and_of (events.machine_of event) who (λ it. IsInCluster here it → ⊥) is lacks))

    there : NoCause errors.NoSuchMachine → AllAreThere machines line
    there none = subst (AllByRecursion (HasMachine machines)) (sym named.machines) (by (events.machine_of event) (in_cluster none))
      where
        by : (one : Option Actor) → ((who : Actor) → one ≡ Some who → IsInCluster here who) → AllByRecursion (HasMachine machines) (listed one)
        by None each = tt
        by (Some who) each = (has who (each who refl), tt)

    steady : ((by : ℕ) → NoCause (errors.ClockBack by)) → IsSteady machines line
    steady none = subst (λ (o : Option ℕ). IfSome o (λ reading. IsTooFarBack machines.greatest reading → ⊥)) (sym named.reading) (by (events.reading_of event) none)
      where
        by : (one : Option ℕ) → ((by : ℕ) → IsSomeAnd one (λ reading. IsTooFarBack clock reading × (by ≡ back_by clock reading)) → ⊥) → IfSome one (λ reading. IsTooFarBack machines.greatest reading → ⊥)
        by None each = tt
        by (Some reading) each = λ far. each (back_by clock reading) (far_here reading far, refl)

    fit : NoCause errors.NoSuchMachine → NoCause errors.Up → NoCause errors.Down → IsFit MayStop machines line
    fit none no_up no_down = (ups (needs_up line) (λ who e. e), downs (needs_down line) (λ who e. e))
      where
        ups : (one : Option Actor) → ((who : Actor) → one ≡ Some who → needs_up line ≡ Some who) → IfSome one (λ who. machines.down who ≡ false)
        ups None is = tt
        ups (Some who) is =
            let its = named.up_named who (is who refl) in
            up_by_lines who (in_cluster none who its.0) (λ down. no_down (and_of (events.needs_up (receiver here) event) who (λ it. seen.down it ≡ true) its.1 down))

        downs : (one : Option Actor) → ((who : Actor) → one ≡ Some who → needs_down line ≡ Some who) → IfSome one (λ who. (machines.down who ≡ true) ⊎ MayStop)
        downs None is = tt
        downs (Some who) is =
            let its = named.down_named who (is who refl) in
            down_by_lines who (in_cluster none who its.0) (not_false (seen.down who) (λ up. no_up (and_of (events.needs_down event) who (λ it. seen.down it ≡ false) its.1 up)))

    -- none of the causes that come before one stands
    before : (error other : EventError) → IsFirst here event error → place_of other < place_of error → NoCause other
    before error other first less cause = let most = first.first other cause in omega (arith, less, most)

    lacks : IsSomeAnd (events.machine_of event) (λ who. IsInCluster here who → ⊥) → AllAreThere machines line → ⊥
    lacks missing all = by (events.machine_of event) missing (subst (AllByRecursion (HasMachine machines)) named.machines all)
      where
        by : (one : Option Actor) → IsSomeAnd one (λ who. IsInCluster here who → ⊥) → AllByRecursion (HasMachine machines) (listed one) → ⊥
        by None it each = it
        by (Some who) it each = it (has_back who each.0)

    back : (its : ℕ) → IsCause here event (errors.ClockBack its) → IsBackBy machines.greatest (reading_of line) its
    back its cause = subst (λ (o : Option ℕ). IsBackBy machines.greatest o its) (sym named.reading)
        (subst (λ (g : ℕ). IsBackBy g (events.reading_of event) its) shows.clock cause)

    ups_down : NoCause errors.NoSuchMachine → IsCause here event errors.Up → IsSomeAnd (needs_down line) (λ who. machines.down who ≡ false)
    ups_down none cause = by (events.needs_down event) (λ who e. e) cause
      where
        by : (one : Option Actor) → ((who : Actor) → one ≡ Some who → events.needs_down event ≡ Some who) → IsSomeAnd one (λ who. seen.down who ≡ false) → IsSomeAnd (needs_down line) (λ who. machines.down who ≡ false)
        by None is it = absurd it
        by (Some who) is it =
            let its = named.down_of who (is who refl) in
            and_of (needs_down line) who (λ w. machines.down w ≡ false) its (up_by_lines who (in_cluster none who (named.down_named who its).0) (λ down. true_false (seen.down who) down it))

    downs_up : NoCause errors.NoSuchMachine → IsCause here event errors.Down → IsArrival line ⊎ IsSomeAnd (needs_up line) (λ who. (machines.down who ≡ true) ⊎ MayStop)
    downs_up none cause = by (events.needs_up (receiver here) event) (λ who e. e) cause
      where
        by : (one : Option Actor) → ((who : Actor) → one ≡ Some who → events.needs_up (receiver here) event ≡ Some who) → IsSomeAnd one (λ who. seen.down who ≡ true)
            → IsArrival line ⊎ IsSomeAnd (needs_up line) (λ who. (machines.down who ≡ true) ⊎ MayStop)
        by None is it = absurd it
        by (Some who) is it = of (named.up_of who (is who refl))
          where
            of : (needs_up line ≡ Some who) ⊎ IsArrival line → IsArrival line ⊎ IsSomeAnd (needs_up line) (λ who. (machines.down who ≡ true) ⊎ MayStop)
            of (inl its) = inr (and_of (needs_up line) who (λ w. (machines.down w ≡ true) ⊎ MayStop) its (down_by_lines who (in_cluster none who (named.up_named who its).0) it))
            of (inr arrives) = inl arrives

    event_refused : (number : ℕ) (error : EventError) → IsFirst here event error → IsRefusedFor MayStop (stop_of number error) number machines line
    event_refused number errors.NoSuchMachine first = (refl, lacks first.stands)
    event_refused number (errors.ClockBack its) first = (refl, (there (before (errors.ClockBack its) errors.NoSuchMachine first (omega arith)), back its first.stands))
    event_refused number (errors.NoSuchPacket packet) first =
        (refl, (steady (λ by. before (errors.NoSuchPacket packet) (errors.ClockBack by) first (omega arith)), named.number_of packet first.stands.0))
    event_refused number errors.Up first =
        let none = before errors.Up errors.NoSuchMachine first (omega arith) in
        (refl, (there none, steady (λ by. before errors.Up (errors.ClockBack by) first (omega arith)), ups_down none first.stands))
    event_refused number errors.Down first =
        let none = before errors.Down errors.NoSuchMachine first (omega arith) in
        (refl, (there none, steady (λ by. before errors.Down (errors.ClockBack by) first (omega arith)), downs_up none first.stands))
    event_refused number errors.NothingToSync first =
        let none = before errors.NothingToSync errors.NoSuchMachine first (omega arith) in (
          refl,
          (
            there none,
            steady (λ by. before errors.NothingToSync (errors.ClockBack by) first (omega arith)),
            fit none (before errors.NothingToSync errors.Up first (omega arith)) (before errors.NothingToSync errors.Down first (omega arith)),
            named.sync_of first.stands.0 first.stands.1,
          ),
        )
    event_refused number errors.StillNeeded first =
        let none = before errors.StillNeeded errors.NoSuchMachine first (omega arith) in (
          refl,
          (
            there none,
            steady (λ by. before errors.StillNeeded (errors.ClockBack by) first (omega arith)),
            fit none (before errors.StillNeeded errors.Up first (omega arith)) (before errors.StillNeeded errors.Down first (omega arith)),
            named.blank_of first.stands.0 first.stands.1,
          ),
        )
    event_refused number errors.OutOfMemory first = tt

  -- ---- readings and lanes

  reading_back : (reading number : ℕ) (line : Line) (error : EventError) → reading_of line ≡ Some reading → AllAreThere machines line → Some error ≡ back_at clock reading → IsRefusedFor MayStop (stop_of number error) number machines line
  reading_back reading number line error its there is = by (nat_lt (reading + 500) clock) refl is
    where
      by : (b : Bool) → nat_lt (reading + 500) clock ≡ b → Some error ≡ then_some b (errors.ClockBack (back_by clock reading)) → IsRefusedFor MayStop (stop_of number error) number machines line
      by true late same =
          let told : errors.ClockBack (back_by clock reading) ≡ error = cc in
          let far : reading + 500 < clock = grind (arith, nat_tests, late) in
          subst (λ (e : EventError). IsRefusedFor MayStop (stop_of number e) number machines line) told
          (refl, (there, subst (λ (o : Option ℕ). IsBackBy machines.greatest o (back_by clock reading)) (sym its) (subst (λ (g : ℕ). IsBackBy g (Some reading) (back_by clock reading)) shows.clock (far, refl))))
      by false late same = cc

  reading_steady : (reading : ℕ) → None ≡ back_at clock reading → IsTooFarBack machines.greatest reading → ⊥
  reading_steady reading is far = by (nat_lt (reading + 500) clock) refl is
    where
      by : (b : Bool) → nat_lt (reading + 500) clock ≡ b → None ≡ then_some b (errors.ClockBack (back_by clock reading)) → ⊥
      by true late same = cc
      by false late same = (let near = far_here reading far in grind (arith, nat_tests, late, near))

  lane_there : (line : Line) (lane : Lane) → NamesLane line lane → IsInCluster here lane.from → IsInCluster here lane.to → AllAreThere machines line × (IsSteady machines line × IsFit MayStop machines line)
  lane_there line lane (Holds is) from to = rw is ((has lane.from from, (has lane.to to, tt)), (tt, (tt, tt)))
  lane_there line lane (Frees is) from to = rw is ((has lane.from from, (has lane.to to, tt)), (tt, (tt, tt)))
  lane_there line lane (Drops is) from to = rw is ((has lane.from from, (has lane.to to, tt)), (tt, (tt, tt)))

  lane_lacks : (line : Line) (lane : Lane) → NamesLane line lane → AllAreThere machines line → HasMachine machines lane.from × HasMachine machines lane.to
  lane_lacks line lane (Holds is) all = let each = subst (AllAreThere machines) is all in (each.0, each.1.0)
  lane_lacks line lane (Frees is) all = let each = subst (AllAreThere machines) is all in (each.0, each.1.0)
  lane_lacks line lane (Drops is) all = let each = subst (AllAreThere machines) is all in (each.0, each.1.0)

  -- ---- a line

  -- it is refused
  pub line_refused : TellsFirst → (number : ℕ) (line : Line) (error : EventError) → IsRefusal here line (Some error) → IsRefusedFor MayStop (stop_of number error) number machines line
  line_refused told number line error (OfEvent event is its) = event_refused line event (names here line event is) number error (told here event error (sym its))
  line_refused told number line error (OfRun reading limit is its) = reading_back reading number line error (ap reading_of is) (rw is tt) its
  line_refused told number line error (OfRestarts reading is its) = reading_back reading number line error (ap reading_of is) (rw is tt) its
  line_refused told number line error (OfLane lane lanes both its) = cc
  line_refused told number line error (OfNoLane lane lanes none its) =
      let same : errors.NoSuchMachine ≡ error = cc in
      subst (λ (e : EventError). IsRefusedFor MayStop (stop_of number e) number machines line) same
      (refl, λ all. let each = lane_lacks line lane lanes all in none (has_back lane.from each.0, has_back lane.to each.1))
  line_refused told number line error (OfCrashes noise is its) = cc

  -- it isn't
  pub line_allowed : TellsNone → (line : Line) → IsRefusal here line None → AllAreThere machines line × (IsSteady machines line × IsFit MayStop machines line)
  line_allowed none line (OfEvent event is its) =
      let named = names here line event is in
      let no : (error : EventError) → IsCause here event error → ⊥ = λ error. none here event error (sym its) in
      (there line event named (no errors.NoSuchMachine), (steady line event named (λ by. no (errors.ClockBack by)), fit line event named (no errors.NoSuchMachine) (no errors.Up) (no errors.Down)))
  line_allowed none line (OfRun reading limit is its) = rw is (tt, ((λ far. reading_steady reading its far), (tt, tt)))
  line_allowed none line (OfRestarts reading is its) = rw is (tt, ((λ far. reading_steady reading its far), (tt, tt)))
  line_allowed none line (OfLane lane lanes both its) = lane_there line lane lanes both.0 both.1
  line_allowed none line (OfNoLane lane lanes missing its) = cc
  line_allowed none line (OfCrashes noise is its) = rw is (tt, (tt, (tt, tt)))
