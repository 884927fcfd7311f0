-- The parts of a line, one for each of its steps.
use Rattle.std.proofs.Common.{◌≡◌, ℕ, ◌||◌, Bool, true, false, List, [], ◌∷◌, inl, inr, ◌⊎◌, refl, ap, sym, subst, ◌∙◌, Option, Some, None}
use Rattle.std.specs.FinSet as set
use Rattle.std.specs.List.{AllByRecursion, Contains}
use Rattle.std.specs.Prelude.{if◌then◌else◌, is_some}
use Rattle.bx_base.specs.declared.names.Actor.{Actor}
use Rattle.bx_cluster.specs.Steps.{arrives_in, ends_in, ends_with, part_at}
use Rattle.bx_driver.specs.Lanes.{lane_cmp}
use Rattle.bx_driver.specs.Steps.{Along, IsDueNow, IsOne, EventStep, parts_with}
use Rattle.bx_history.specs.Along.{ends_one}
use Rattle.bx_history.specs.Parts.{Arrival, Part}
use Rattle.bx_script.specs.declared.line.Line.{Line}
use Rattle.bx_script.specs.declared.line.Line.TheVariants as lines
use Rattle.bx_world_events.specs.Events.{reading_of as event_reading}
use Rattle.bx_world_events.specs.Refusals.{Seen}
use Rattle.bx_world_events.specs.declared.event.Event.{Event}
use Rattle.bx_world_events.specs.declared.event.Event.TheVariants.{Call, Tick, Deliver, Sync, Crash, Restart, Blank}
use Rattle.bx_schedule.specs.Doing.{AreTurns}
use Rattle.bx_schedule.specs.Doing.IsTurn.{Does, Passes}
use Rattle.bx_schedule.specs.Places.{has_stopped}
use Rattle.bx_schedule.specs.Placing.{Ends, EndsIn, HasCount, HasReadingOf, IsPartOf, arrival_of}
use Rattle.bx_schedule.specs.Refusing.{IsEventOf}
use Rattle.bx_schedule.proofs.Dues.{by_due}
use Rattle.bx_schedule.proofs.Holding.{first_in, in_cases, none_in, rest_in}

-- ---- of each step a fact of its event

abbrev pub AllEvents : (Event → Type 0) → List EventStep → Type 0
AllEvents Is [] = Unit {0}
AllEvents Is (step ∷ earlier) = Is step.event × AllEvents Is earlier

pub each_part : (line : Line) (Is : Event → Type 0) → ((event : Event) → Is event → (arrives_in event ≡ arrival_of line) × HasReadingOf line (event_reading event)) → (steps : List EventStep) → AllEvents Is steps → AllByRecursion (IsPartOf line) (parts_with steps [])
each_part line Is goes [] all = tt
each_part line Is goes (step ∷ earlier) all =
    let both = goes step.event all.0 in
    (record { arrives = both.0; reading = both.1; single = refl }, each_part line Is goes earlier all.1)

pub one_event : (Is : Event → Type 0) (event : Event) (from to : Seen) (steps : List EventStep) → Is event → IsOne event from steps to → AllEvents Is steps
one_event Is event from to steps is one = subst (AllEvents Is) (sym one.alone) (subst Is (sym one.is) is, tt)

pub due_events : (Is : Event → Type 0) (held : set.FinSet lane_cmp) (reading : ℕ) (from to : Seen) (steps : List EventStep) → ((number : ℕ) → Is (Deliver reading number)) → ((at : Actor) → Is (Sync at)) → Along (IsDueNow held reading) from steps to → AllEvents Is steps
due_events Is held reading from to [] one two along = tt
due_events Is held reading from to (step ∷ earlier) one two (middle, along, due, goes) = (by_due Is held reading middle step.event one two due, due_events Is held reading from middle earlier one two along)

pub turn_events : (Is : Event → Type 0) (event : Actor → Event) (down : Bool) (these : List Actor) (from to : Seen) (steps : List EventStep) → ((who : Actor) → Is (event who)) → AreTurns event down these from steps to → AllEvents Is steps
turn_events Is event down [] from to steps goes are = subst (AllEvents Is) (sym are.0) tt
turn_events Is event down (who ∷ before) from to steps goes (middle, earlier, are, Does its step same is go) =
    subst (AllEvents Is) (sym same) (subst Is (sym is) (goes who), turn_events Is event down before from middle earlier goes are)
turn_events Is event down (who ∷ before) from to steps goes (middle, earlier, are, Passes its same here) =
    subst (AllEvents Is) (sym same) (turn_events Is event down before from middle earlier goes are)

-- ---- which nodes end

-- the nodes that end in parts end by their events, or a machine stopped
pub ends_only : (Is : Event → Type 0) (steps : List EventStep) (node : ℕ) → AllEvents Is steps → EndsIn (parts_with steps []) node → ((event : Event) × Is event × (ends_in event node ≡ true)) ⊎ (has_stopped steps ≡ true)
ends_only Is [] node all (part, inside, ends) = absurd (none_in part inside)
ends_only Is (step ∷ earlier) node all (part, inside, ends) =
    by (λ rest. ends_only Is earlier node all.1 (part, rest, ends)) (in_cases (part_at step.event step.outcome) part (parts_with earlier []) inside)
  where
    own : (stopped : Option Actor) → ends_with stopped (ends_in step.event) node ≡ true → (ends_in step.event node ≡ true) ⊎ (is_some stopped ≡ true)
    own None is = inl is
    own (Some who) is = inr refl

    by : (Contains (parts_with earlier []) part → ((event : Event) × Is event × (ends_in event node ≡ true)) ⊎ (has_stopped earlier ≡ true)) → (part_at step.event step.outcome ≡ part) ⊎ Contains (parts_with earlier []) part → ((event : Event) × Is event × (ends_in event node ≡ true)) ⊎ (has_stopped (step ∷ earlier) ≡ true)
    by before (inl same) = here (own step.outcome.stopped (ap (λ (p : Part). p.what.ends node) same ∙ ends))
      where
        here : (ends_in step.event node ≡ true) ⊎ (is_some step.outcome.stopped ≡ true) → ((event : Event) × Is event × (ends_in event node ≡ true)) ⊎ (has_stopped (step ∷ earlier) ≡ true)
        here (inl is) = inl (step.event, all.0, is)
        here (inr stopped) = inr (ap (λ b. b || has_stopped earlier) stopped)
    by before (inr rest) = later (before rest)
      where
        later : ((event : Event) × Is event × (ends_in event node ≡ true)) ⊎ (has_stopped earlier ≡ true) → ((event : Event) × Is event × (ends_in event node ≡ true)) ⊎ (has_stopped (step ∷ earlier) ≡ true)
        later (inl it) = inl it
        later (inr stopped) = inr (stopped_before (is_some step.outcome.stopped) (has_stopped earlier) stopped)
          where
            stopped_before : (a b : Bool) → b ≡ true → (a || b) ≡ true
            stopped_before true b is = refl
            stopped_before false b is = is

-- a step crashed a machine
abbrev pub HasCrash : List EventStep → Actor → Type 0
HasCrash [] who = ⊥
HasCrash (step ∷ earlier) who = (step.event ≡ Crash who) ⊎ HasCrash earlier who

ends_of : (stopped : Option Actor) (others : ℕ → Bool) (node : ℕ) → others node ≡ true → ends_with stopped others node ≡ true
ends_of None others node is = is
ends_of (Some who) others node is = by (ends_one who node) refl
  where
    by : (b : Bool) → ends_one who node ≡ b → (if ends_one who node then true else others node) ≡ true
    by true its = ap (λ b. if b then true else others node) its
    by false its = ap (λ b. if b then true else others node) its ∙ is

-- a machine that crashed ended
pub crash_ends : (steps : List EventStep) (who : Actor) (node : ℕ) → ends_one who node ≡ true → HasCrash steps who → EndsIn (parts_with steps []) node
crash_ends [] who node its has = absurd has
crash_ends (step ∷ earlier) who node its (inl is) =
    let own = ap (λ (event : Event). ends_in event node) is ∙ its in
    (part_at step.event step.outcome, first_in (part_at step.event step.outcome) (parts_with earlier []), ends_of step.outcome.stopped (ends_in step.event) node own)
crash_ends (step ∷ earlier) who node its (inr has) =
    let rest = crash_ends earlier who node its has in
    (rest.0, rest_in (part_at step.event step.outcome) rest.0 (parts_with earlier []) rest.1, rest.2)

-- ---- a line of one event

pub event_part : (seen : Seen) (line : Line) (event : Event) → IsEventOf seen line event → (arrives_in event ≡ arrival_of line) × HasReadingOf line (event_reading event)
event_part seen (lines.Call reading node client datagram) event is = (is.1, is.0)
event_part seen (lines.Tick reading machine) event is = (ap arrives_in is, ap event_reading is)
event_part seen (lines.Deliver reading number) event is = (ap arrives_in is, ap event_reading is)
event_part seen (lines.Next reading from to) event is = (ap arrives_in is.1, ap event_reading is.1)
event_part seen (lines.Sync machine) event is = (ap arrives_in is, ap event_reading is)
event_part seen (lines.Crash machine noise) event is = (ap arrives_in is, ap event_reading is)
event_part seen (lines.Restart reading machine) event is = (ap arrives_in is, ap event_reading is)
event_part seen (lines.Blank machine) event is = (ap arrives_in is, ap event_reading is)
event_part seen (lines.Heading volume nodes devices areas) event is = absurd is
event_part seen (lines.Run reading limit) event is = absurd is
event_part seen (lines.Hold from to kind) event is = absurd is
event_part seen (lines.Free from to kind) event is = absurd is
event_part seen (lines.Drop from to kind) event is = absurd is
event_part seen (lines.CrashAll noise) event is = absurd is
event_part seen (lines.RestartAll reading) event is = absurd is

pub one_part : (seen : Seen) (line : Line) (event : Event) (count : ℕ) → IsEventOf seen line event → count ≡ 1 → HasCount line count
one_part seen (lines.Call reading node client datagram) event count is one = one
one_part seen (lines.Tick reading machine) event count is one = one
one_part seen (lines.Deliver reading number) event count is one = one
one_part seen (lines.Next reading from to) event count is one = one
one_part seen (lines.Sync machine) event count is one = one
one_part seen (lines.Crash machine noise) event count is one = one
one_part seen (lines.Restart reading machine) event count is one = one
one_part seen (lines.Blank machine) event count is one = one
one_part seen (lines.Heading volume nodes devices areas) event count is one = absurd is
one_part seen (lines.Run reading limit) event count is one = absurd is
one_part seen (lines.Hold from to kind) event count is one = absurd is
one_part seen (lines.Free from to kind) event count is one = absurd is
one_part seen (lines.Drop from to kind) event count is one = absurd is
one_part seen (lines.CrashAll noise) event count is one = absurd is
one_part seen (lines.RestartAll reading) event count is one = absurd is

call_ends : (event : Event) (arrival : Arrival) (node : ℕ) → arrives_in event ≡ Some arrival → ends_in event node ≡ true → ⊥
call_ends (Call reading other client bytes) arrival node is ends = cc
call_ends (Tick reading at) arrival node is ends = cc
call_ends (Deliver reading number) arrival node is ends = cc
call_ends (Sync at) arrival node is ends = cc
call_ends (Crash at) arrival node is ends = cc
call_ends (Restart reading at) arrival node is ends = cc
call_ends (Blank at) arrival node is ends = cc

not_ended : false ≡ true → ⊥
not_ended is = cc

pub event_ends : (seen : Seen) (line : Line) (event : Event) (node : ℕ) → IsEventOf seen line event → ends_in event node ≡ true → Ends line node
event_ends seen (lines.Call reading other client datagram) event node is ends = absurd (call_ends event _ node is.1 ends)
event_ends seen (lines.Tick reading machine) event node is ends = not_ended (sym (ap (λ (e : Event). ends_in e node) is) ∙ ends)
event_ends seen (lines.Deliver reading number) event node is ends = not_ended (sym (ap (λ (e : Event). ends_in e node) is) ∙ ends)
event_ends seen (lines.Next reading from to) event node is ends = not_ended (sym (ap (λ (e : Event). ends_in e node) is.1) ∙ ends)
event_ends seen (lines.Sync machine) event node is ends = not_ended (sym (ap (λ (e : Event). ends_in e node) is) ∙ ends)
event_ends seen (lines.Crash machine noise) event node is ends = sym (ap (λ (e : Event). ends_in e node) is) ∙ ends
event_ends seen (lines.Restart reading machine) event node is ends = not_ended (sym (ap (λ (e : Event). ends_in e node) is) ∙ ends)
event_ends seen (lines.Blank machine) event node is ends = not_ended (sym (ap (λ (e : Event). ends_in e node) is) ∙ ends)
event_ends seen (lines.Heading volume nodes devices areas) event node is ends = absurd is
event_ends seen (lines.Run reading limit) event node is ends = absurd is
event_ends seen (lines.Hold from to kind) event node is ends = absurd is
event_ends seen (lines.Free from to kind) event node is ends = absurd is
event_ends seen (lines.Drop from to kind) event node is ends = absurd is
event_ends seen (lines.CrashAll noise) event node is ends = absurd is
event_ends seen (lines.RestartAll reading) event node is ends = absurd is

-- where the line ends a node, its event is the crash of it
pub line_crashes : (seen : Seen) (line : Line) (event : Event) (node : ℕ) → IsEventOf seen line event → Ends line node → (who : Actor) × (event ≡ Crash who) × (ends_one who node ≡ true)
line_crashes seen (lines.Crash machine noise) event node is ends = (machine, is, ends)
line_crashes seen (lines.Call reading other client datagram) event node is ends = absurd ends
line_crashes seen (lines.Tick reading machine) event node is ends = absurd ends
line_crashes seen (lines.Deliver reading number) event node is ends = absurd ends
line_crashes seen (lines.Next reading from to) event node is ends = absurd ends
line_crashes seen (lines.Sync machine) event node is ends = absurd ends
line_crashes seen (lines.Restart reading machine) event node is ends = absurd ends
line_crashes seen (lines.Blank machine) event node is ends = absurd ends
line_crashes seen (lines.Heading volume nodes devices areas) event node is ends = absurd is
line_crashes seen (lines.Run reading limit) event node is ends = absurd is
line_crashes seen (lines.Hold from to kind) event node is ends = absurd is
line_crashes seen (lines.Free from to kind) event node is ends = absurd is
line_crashes seen (lines.Drop from to kind) event node is ends = absurd is
line_crashes seen (lines.CrashAll noise) event node is ends = absurd is
line_crashes seen (lines.RestartAll reading) event node is ends = absurd is
