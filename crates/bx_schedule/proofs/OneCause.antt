-- A line has one cause for which it is refused, or none.
use Rattle.std.proofs.Common.{◌≡◌, ℕ, inl, inr, ◌⊎◌, ap, sym, subst, ◌∙◌, Option, Some, None}
use Rattle.bx_base.specs.declared.names.Actor.TheVariants.{Node}
use Rattle.bx_cluster.specs.Steps.{arrives_in}
use Rattle.bx_driver.proofs.Between.{one_next}
use Rattle.bx_driver.specs.Lanes.{HasMachines}
use Rattle.bx_driver.specs.declared.lane.Lane.{Lane}
use Rattle.bx_history.specs.Parts.{Arrival}
use Rattle.bx_script.specs.declared.line.Line.{Line}
use Rattle.bx_script.specs.declared.line.Line.TheVariants as lines
use Rattle.bx_world_events.specs.Events.{reading_of}
use Rattle.bx_world_events.specs.Refusals.{Seen, refusal}
use Rattle.bx_world_events.specs.declared.event.Event.{Event}
use Rattle.bx_world_events.specs.declared.event.Event.TheVariants.{Call, Tick, Deliver, Sync, Crash, Restart, Blank}
use Rattle.bx_world_events.specs.declared.event.EventError.{EventError}
use Rattle.bx_world_events.specs.declared.event.EventError.TheVariants.{NoSuchMachine}
use Rattle.bx_schedule.specs.Refusing.{IsEventOf, IsRefusal, NamesLane, back_at}
use Rattle.bx_schedule.specs.Refusing.IsRefusal.{OfCrashes, OfEvent, OfLane, OfNoLane, OfRestarts, OfRun}
use Rattle.bx_schedule.specs.Refusing.NamesLane.{Holds, Frees, Drops}

-- the machines of a lane are there, or they aren't
abbrev LaneCause : Seen → Lane → Option EventError → Type 0
LaneCause seen lane cause = ((cause ≡ None) × HasMachines seen lane) ⊎ ((cause ≡ Some NoSuchMachine) × (HasMachines seen lane → ⊥))

abbrev EventCause : Seen → Line → Option EventError → Type 0
EventCause seen line cause = (event : Event) × IsEventOf seen line event × (cause ≡ refusal seen event)

-- the cause by the line's form
abbrev Cause : Seen → Line → Option EventError → Type 0
Cause seen (lines.Run reading limit) cause = cause ≡ back_at seen.greatest reading
Cause seen (lines.RestartAll reading) cause = cause ≡ back_at seen.greatest reading
Cause seen (lines.CrashAll noise) cause = cause ≡ None
Cause seen (lines.Hold from to kind) cause = LaneCause seen (record { from = from; to = to; kind = kind }) cause
Cause seen (lines.Free from to kind) cause = LaneCause seen (record { from = from; to = to; kind = kind }) cause
Cause seen (lines.Drop from to kind) cause = LaneCause seen (record { from = from; to = to; kind = kind }) cause
Cause seen (lines.Heading volume nodes devices areas) cause = ⊥
Cause seen (lines.Call reading node client datagram) cause = EventCause seen (lines.Call reading node client datagram) cause
Cause seen (lines.Tick reading machine) cause = EventCause seen (lines.Tick reading machine) cause
Cause seen (lines.Deliver reading number) cause = EventCause seen (lines.Deliver reading number) cause
Cause seen (lines.Next reading from to) cause = EventCause seen (lines.Next reading from to) cause
Cause seen (lines.Sync machine) cause = EventCause seen (lines.Sync machine) cause
Cause seen (lines.Crash machine noise) cause = EventCause seen (lines.Crash machine noise) cause
Cause seen (lines.Restart reading machine) cause = EventCause seen (lines.Restart reading machine) cause
Cause seen (lines.Blank machine) cause = EventCause seen (lines.Blank machine) cause

of_event : (seen : Seen) (line : Line) (cause : Option EventError) (event : Event) → IsEventOf seen line event → cause ≡ refusal seen event → Cause seen line cause
of_event seen (lines.Call reading node client datagram) cause event is its = (event, is, its)
of_event seen (lines.Tick reading machine) cause event is its = (event, is, its)
of_event seen (lines.Deliver reading number) cause event is its = (event, is, its)
of_event seen (lines.Next reading from to) cause event is its = (event, is, its)
of_event seen (lines.Sync machine) cause event is its = (event, is, its)
of_event seen (lines.Crash machine noise) cause event is its = (event, is, its)
of_event seen (lines.Restart reading machine) cause event is its = (event, is, its)
of_event seen (lines.Blank machine) cause event is its = (event, is, its)
of_event seen (lines.Heading volume nodes devices areas) cause event is its = absurd is
of_event seen (lines.Run reading limit) cause event is its = absurd is
of_event seen (lines.Hold from to kind) cause event is its = absurd is
of_event seen (lines.Free from to kind) cause event is its = absurd is
of_event seen (lines.Drop from to kind) cause event is its = absurd is
of_event seen (lines.CrashAll noise) cause event is its = absurd is
of_event seen (lines.RestartAll reading) cause event is its = absurd is

of_lane : (seen : Seen) (line : Line) (lane : Lane) (cause : Option EventError) → NamesLane line lane → LaneCause seen lane cause → Cause seen line cause
of_lane seen line lane cause (Holds is) its = subst (λ l. Cause seen l cause) (sym is) its
of_lane seen line lane cause (Frees is) its = subst (λ l. Cause seen l cause) (sym is) its
of_lane seen line lane cause (Drops is) its = subst (λ l. Cause seen l cause) (sym is) its

by_form : (seen : Seen) (line : Line) (cause : Option EventError) → IsRefusal seen line cause → Cause seen line cause
by_form seen line cause (OfEvent event is its) = of_event seen line cause event is its
by_form seen line cause (OfRun reading limit is its) = subst (λ l. Cause seen l cause) (sym is) its
by_form seen line cause (OfRestarts reading is its) = subst (λ l. Cause seen l cause) (sym is) its
by_form seen line cause (OfLane lane names both its) = of_lane seen line lane cause names (inl (its, both))
by_form seen line cause (OfNoLane lane names none its) = of_lane seen line lane cause names (inr (its, none))
by_form seen line cause (OfCrashes noise is its) = subst (λ l. Cause seen l cause) (sym is) its

one_lane : (seen : Seen) (lane : Lane) (a b : Option EventError) → LaneCause seen lane a → LaneCause seen lane b → a ≡ b
one_lane seen lane a b (inl one) (inl other) = one.0 ∙ sym other.0
one_lane seen lane a b (inl one) (inr other) = absurd (other.1 one.1)
one_lane seen lane a b (inr one) (inl other) = absurd (one.1 other.1)
one_lane seen lane a b (inr one) (inr other) = one.0 ∙ sym other.0

-- a call is refused as a tick of its node is
as_tick : (seen : Seen) (reading : ℕ) (arrival : Arrival) (event : Event) → reading_of event ≡ Some reading → arrives_in event ≡ Some arrival → refusal seen event ≡ refusal seen (Tick reading (Node arrival.node))
as_tick seen reading arrival (Call its node client bytes) at is =
    let same : its ≡ reading = cc in
    let there : node ≡ arrival.node = ap (λ (a : Arrival). a.node) (some_same is) in
    ap (λ r. refusal seen (Tick r (Node node))) same ∙ ap (λ n. refusal seen (Tick reading (Node n))) there
  where
    some_same : {A : Type 0} {x y : A} → Some x ≡ Some y → x ≡ y
    some_same e = cc
as_tick seen reading arrival (Tick its who) at is = cc
as_tick seen reading arrival (Deliver its number) at is = cc
as_tick seen reading arrival (Sync who) at is = cc
as_tick seen reading arrival (Crash who) at is = cc
as_tick seen reading arrival (Restart its who) at is = cc
as_tick seen reading arrival (Blank who) at is = cc

same_events : (seen : Seen) (a b : Option EventError) (event its other : Event) → its ≡ event → other ≡ event → a ≡ refusal seen its → b ≡ refusal seen other → a ≡ b
same_events seen a b event its other one two first second = first ∙ ap (refusal seen) (one ∙ sym two) ∙ sym second

one_by_form : (seen : Seen) (line : Line) (a b : Option EventError) → Cause seen line a → Cause seen line b → a ≡ b
one_by_form seen (lines.Run reading limit) a b one other = one ∙ sym other
one_by_form seen (lines.RestartAll reading) a b one other = one ∙ sym other
one_by_form seen (lines.CrashAll noise) a b one other = one ∙ sym other
one_by_form seen (lines.Hold from to kind) a b one other = one_lane seen (record { from = from; to = to; kind = kind }) a b one other
one_by_form seen (lines.Free from to kind) a b one other = one_lane seen (record { from = from; to = to; kind = kind }) a b one other
one_by_form seen (lines.Drop from to kind) a b one other = one_lane seen (record { from = from; to = to; kind = kind }) a b one other
one_by_form seen (lines.Heading volume nodes devices areas) a b one other = absurd one
one_by_form seen (lines.Call reading node client datagram) a b (its, is, first) (others, are, second) =
    first ∙ as_tick seen reading (record { node = node; client = client; bytes = datagram }) its is.0 is.1 ∙ sym (second ∙ as_tick seen reading (record { node = node; client = client; bytes = datagram }) others are.0 are.1)
one_by_form seen (lines.Tick reading machine) a b (its, is, first) (others, are, second) = same_events seen a b (Tick reading machine) its others is are first second
one_by_form seen (lines.Deliver reading number) a b (its, is, first) (others, are, second) = same_events seen a b (Deliver reading number) its others is are first second
one_by_form seen (lines.Next reading from to) a b (its, is, first) (others, are, second) =
    let same = one_next seen.post from to are.0 is.0 are.2 is.2 in
    same_events seen a b (Deliver reading is.0) its others is.1 (are.1 ∙ ap (λ n. Deliver reading n) same) first second
one_by_form seen (lines.Sync machine) a b (its, is, first) (others, are, second) = same_events seen a b (Sync machine) its others is are first second
one_by_form seen (lines.Crash machine noise) a b (its, is, first) (others, are, second) = same_events seen a b (Crash machine) its others is are first second
one_by_form seen (lines.Restart reading machine) a b (its, is, first) (others, are, second) = same_events seen a b (Restart reading machine) its others is are first second
one_by_form seen (lines.Blank machine) a b (its, is, first) (others, are, second) = same_events seen a b (Blank machine) its others is are first second

pub one_cause : (seen : Seen) (line : Line) (a b : Option EventError) → IsRefusal seen line a → IsRefusal seen line b → a ≡ b
one_cause seen line a b one other = one_by_form seen line a b (by_form seen line a one) (by_form seen line b other)
