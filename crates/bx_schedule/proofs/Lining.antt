-- Lines, done.
use Rattle.std.proofs.Common.{◌≡◌, ℕ, ◌+◌, ◌≤◌, ◌⊎◌, true, false, List, reverse, max, inl, inr, refl, arith, ap, sym, subst, ◌∙◌, Some, None, Result, Ok, Err}
use Rattle.std.specs.Prelude.{IfErr, OnOk}
use Rattle.std.specs.FinSet as set
use Rattle.bx_base.specs.declared.names.Actor.{Actor}
use Rattle.bx_base.specs.declared.names.Actor.TheVariants.{Node, Replica, Server, Member}
use Rattle.bx_cluster.specs.Steps.{Counted, IsMoment, IsTime, greatest_reading}
use Rattle.bx_disk.specs.Disks.{Disks}
use Rattle.bx_disk.specs.declared.noise.Noise.{Noise}
use Rattle.bx_disk.specs.declared.noise.Noise.TheVariants.{Keep}
use Rattle.bx_disk.specs.declared.rack.Rack as racks
use Rattle.bx_driver.specs.Drops.{GoesOn, dropped}
use Rattle.bx_driver.specs.Lanes.{HasMachines, lane_cmp}
use Rattle.bx_driver.specs.Machines.{AreInTurn, IsDown, IsUp}
use Rattle.bx_driver.specs.Racks.{KeepsRack}
use Rattle.bx_driver.specs.Runs.{IsDue}
use Rattle.bx_driver.specs.Steps.{IsOne}
use Rattle.bx_driver.specs.declared.lane.Lane.{Lane}
use Rattle.bx_history.specs.Parts.{Part}
use Rattle.bx_model.specs.declared.tree.Tree.{Tree}
use Rattle.bx_script.specs.Schedule.{reading_of}
use Rattle.bx_script.specs.ScheduleLine.{InRange}
use Rattle.bx_script.specs.declared.line.Line.{Line}
use Rattle.bx_script.specs.declared.line.Line.TheVariants as lines
use Rattle.bx_world_events.specs.Causes.{IsThere}
use Rattle.bx_world_events.specs.Events.{reading_of as event_reading}
use Rattle.bx_world_events.specs.Refusals.{Seen, refusal}
use Rattle.bx_world_events.specs.declared.event.Event.{Event}
use Rattle.bx_world_events.specs.declared.event.Event.TheVariants.{Call, Tick, Deliver, Sync, Crash, Restart, Blank}
use Rattle.bx_world_events.specs.declared.event.EventError.{EventError}
use Rattle.bx_world_events.specs.declared.event.EventError.TheVariants.{NoSuchMachine, OutOfMemory}
use Rattle.bx_schedule.specs.Doing.{AreTurns, Ends, IsDone, IsLine, IsRefused, held_after, noise_of, turn_of}
use Rattle.bx_schedule.specs.Doing.IsLine.{OneEvent, Runs, Crashes, Restarts, Holds, Frees, Drops}
use Rattle.bx_schedule.specs.Places.{Goes, IsSame, Place}
use Rattle.bx_schedule.specs.Refusing.{IsEventOf, IsRefusal, NamesLane, at_clock, back_at}
use Rattle.bx_schedule.specs.Refusing.IsRefusal.{OfCrashes, OfEvent, OfLane, OfNoLane, OfRestarts, OfRun}
use Rattle.bx_schedule.specs.Refusing.NamesLane.{Holds as NamesHeld, Frees as NamesFreed, Drops as NamesDropped}
use Rattle.bx_schedule.proofs.Acting.{keeps_none}
use Rattle.bx_schedule.proofs.Dues.{AreDue, run_is}
use Rattle.bx_schedule.proofs.Going.{goes_as, goes_none}

-- ---- the event of a line

pub same_reading : (seen : Seen) (line : Line) (event : Event) → IsEventOf seen line event → event_reading event ≡ reading_of line
same_reading seen (lines.Call reading node client datagram) event is = is.0
same_reading seen (lines.Tick reading machine) event is = ap event_reading is
same_reading seen (lines.Deliver reading number) event is = ap event_reading is
same_reading seen (lines.Next reading from to) event is = ap event_reading is.1
same_reading seen (lines.Sync machine) event is = ap event_reading is
same_reading seen (lines.Crash machine noise) event is = ap event_reading is
same_reading seen (lines.Restart reading machine) event is = ap event_reading is
same_reading seen (lines.Blank machine) event is = ap event_reading is
same_reading seen (lines.Heading volume nodes devices areas) event is = absurd is
same_reading seen (lines.Run reading limit) event is = absurd is
same_reading seen (lines.Hold from to kind) event is = absurd is
same_reading seen (lines.Free from to kind) event is = absurd is
same_reading seen (lines.Drop from to kind) event is = absurd is
same_reading seen (lines.CrashAll noise) event is = absurd is
same_reading seen (lines.RestartAll reading) event is = absurd is

same_held : (seen : Seen) (line : Line) (event : Event) (held : set.FinSet lane_cmp) → IsEventOf seen line event → held_after line held ≡ held
same_held seen (lines.Call reading node client datagram) event held is = refl
same_held seen (lines.Tick reading machine) event held is = refl
same_held seen (lines.Deliver reading number) event held is = refl
same_held seen (lines.Next reading from to) event held is = refl
same_held seen (lines.Sync machine) event held is = refl
same_held seen (lines.Crash machine noise) event held is = refl
same_held seen (lines.Restart reading machine) event held is = refl
same_held seen (lines.Blank machine) event held is = refl
same_held seen (lines.Heading volume nodes devices areas) event held is = absurd is
same_held seen (lines.Run reading limit) event held is = absurd is
same_held seen (lines.Hold from to kind) event held is = absurd is
same_held seen (lines.Free from to kind) event held is = absurd is
same_held seen (lines.Drop from to kind) event held is = absurd is
same_held seen (lines.CrashAll noise) event held is = absurd is
same_held seen (lines.RestartAll reading) event held is = absurd is

-- it is that of the same line, whatever the clock is
at_any : (clock : ℕ) (seen : Seen) (line : Line) (event : Event) → IsEventOf seen line event → IsEventOf (at_clock clock seen) line event
at_any clock seen (lines.Call reading node client datagram) event is = is
at_any clock seen (lines.Tick reading machine) event is = is
at_any clock seen (lines.Deliver reading number) event is = is
at_any clock seen (lines.Next reading from to) event is = is
at_any clock seen (lines.Sync machine) event is = is
at_any clock seen (lines.Crash machine noise) event is = is
at_any clock seen (lines.Restart reading machine) event is = is
at_any clock seen (lines.Blank machine) event is = is
at_any clock seen (lines.Heading volume nodes devices areas) event is = is
at_any clock seen (lines.Run reading limit) event is = is
at_any clock seen (lines.Hold from to kind) event is = is
at_any clock seen (lines.Free from to kind) event is = is
at_any clock seen (lines.Drop from to kind) event is = is
at_any clock seen (lines.CrashAll noise) event is = is
at_any clock seen (lines.RestartAll reading) event is = is

in_range : (line : Line) → InRange line → IsTime (reading_of line)
in_range (lines.Call reading node client datagram) is = is.reading_fits
in_range (lines.Tick reading machine) is = is.0
in_range (lines.Deliver reading number) is = is.0
in_range (lines.Next reading from to) is = is.0
in_range (lines.Sync machine) is = tt
in_range (lines.Crash machine noise) is = tt
in_range (lines.Restart reading machine) is = is.0
in_range (lines.Blank machine) is = tt
in_range (lines.Heading volume nodes devices areas) is = tt
in_range (lines.Run reading limit) is = is.reading_fits
in_range (lines.Hold from to kind) is = tt
in_range (lines.Free from to kind) is = tt
in_range (lines.Drop from to kind) is = tt
in_range (lines.CrashAll noise) is = tt
in_range (lines.RestartAll reading) is = is

pub line_moment : (seen : Seen) (line : Line) (event : Event) → InRange line → IsEventOf seen line event → IsMoment event
line_moment seen line event range is = subst IsTime (sym (same_reading seen line event is)) (in_range line range)

pub few_more : {A E : Type 0} (result : Result A E) (event : Event) (old new : ℕ) → OnOk result (Counted event old new) → OnOk result (new ≤ old + 20)
few_more (Err _) event old new is = tt
few_more (Ok _) (Call reading node client bytes) old new is = omega (arith, is)
few_more (Ok _) (Tick reading at) old new is = omega (arith, is)
few_more (Ok _) (Deliver reading number) old new is = omega (arith, is)
few_more (Ok _) (Sync at) old new is = omega (arith, is)
few_more (Ok _) (Crash at) old new is = omega (arith, is)
few_more (Ok _) (Restart reading at) old new is = omega (arith, is)
few_more (Ok _) (Blank at) old new is = omega (arith, is)

-- ---- lanes

there_at : (clock : ℕ) (seen : Seen) (who : Actor) → IsThere seen who → IsThere (at_clock clock seen) who
there_at clock seen (Node n) is = is
there_at clock seen (Replica n) is = is
there_at clock seen (Server n) is = is
there_at clock seen (Member n) is = is

there_back : (clock : ℕ) (seen : Seen) (who : Actor) → IsThere (at_clock clock seen) who → IsThere seen who
there_back clock seen (Node n) is = is
there_back clock seen (Replica n) is = is
there_back clock seen (Server n) is = is
there_back clock seen (Member n) is = is

module _ {C R : Type 0} (seen_of : C → Seen) (led_of : C → Disks → Tree → List Part → Type 0) (ra : racks.Ghosts R) where
  -- a line of one event
  pub ends_alone : (result : Result (Unit {0}) EventError) (line : Line) (event : Event) (old : Place C) (before : R) (new : Place C) (after : R)
      → IsEventOf (seen_of old.cluster) line event → OnOk result (refusal (at_clock old.clock (seen_of old.cluster)) event ≡ None)
      → OnOk result (Goes seen_of led_of ra (IsOne event) (noise_of line) old before new after) → OnOk result (new.clock ≡ greatest_reading (event_reading event) old.clock) → OnOk result (new.held ≡ old.held)
      → IfErr result (λ error. (error ≡ OutOfMemory) ⊎ ((refusal (at_clock old.clock (seen_of old.cluster)) event ≡ Some error) × IsSame ra old before new after))
      → KeepsRack ra before after → Ends seen_of led_of ra result line old before new after
  ends_alone (Ok _) line event old before new after is allowed goes clock held refused keeps = record {
    done = record {
      allowed = OfEvent event (at_any old.clock (seen_of old.cluster) line event is) (sym allowed);
      goes = goes_as seen_of led_of ra (IsOne event) (IsLine old.held line) (noise_of line) old new before after (λ steps one. OneEvent event is one) goes;
      held = held ∙ sym (same_held (seen_of old.cluster) line event old.held is);
      clock = clock ∙ ap (λ r. greatest_reading r old.clock) (same_reading (seen_of old.cluster) line event is);
    };
    refused = tt;
    keeps = keeps;
  }
  ends_alone (Err error) line event old before new after is allowed goes clock held refused keeps = record { done = tt; refused = by refused; keeps = keeps }
    where
      by : (error ≡ OutOfMemory) ⊎ ((refusal (at_clock old.clock (seen_of old.cluster)) event ≡ Some error) × IsSame ra old before new after) → (error ≡ OutOfMemory) ⊎ IsRefused seen_of led_of ra line error old before new after
      by (inl memory) = inl memory
      by (inr (cause, same)) = inr (record { cause = OfEvent event (at_any old.clock (seen_of old.cluster) line event is) (sym cause); same = same })

  -- memory ran out
  pub ends_memory : (line : Line) (error : EventError) (old : Place C) (before : R) (new : Place C) (after : R) → error ≡ OutOfMemory → KeepsRack ra before after → Ends seen_of led_of ra (Err error) line old before new after
  ends_memory line error old before new after memory keeps = record { done = tt; refused = inl memory; keeps = keeps }

  -- a line that names a lane
  refused_lane : (result : Result (Unit {0}) EventError) (line : Line) (lane : Lane) (old new : Place C) (rack : R) → NamesLane line lane
      → IfErr result (λ error. (error ≡ OutOfMemory) ⊎ ((error ≡ NoSuchMachine) × (HasMachines (seen_of old.cluster) lane → ⊥) × (new ≡ old)))
      → IfErr result (λ error. (error ≡ OutOfMemory) ⊎ IsRefused seen_of led_of ra line error old rack new rack)
  refused_lane (Ok _) line lane old new rack named is = tt
  refused_lane (Err error) line lane old new rack named (inl memory) = inl memory
  refused_lane (Err error) line lane old new rack named (inr (cause, none, same)) =
      inr (record { cause = OfNoLane lane named (λ both. none (there_back old.clock (seen_of old.cluster) lane.from both.0, there_back old.clock (seen_of old.cluster) lane.to both.1)) (ap Some cause); same = record { place = same; state = refl; faults = refl } })

  allowed_lane : (line : Line) (lane : Lane) (old : Place C) → NamesLane line lane → HasMachines (seen_of old.cluster) lane → IsRefusal (at_clock old.clock (seen_of old.cluster)) line None
  allowed_lane line lane old named both = OfLane lane named (there_at old.clock (seen_of old.cluster) lane.from both.0, there_at old.clock (seen_of old.cluster) lane.to both.1) refl

  -- a line that holds a lane
  pub ends_hold : (result : Result (Unit {0}) EventError) (lane : Lane) (old new : Place C) (rack : R)
      → OnOk result (HasMachines (seen_of old.cluster) lane × (new ≡ record { cluster = old.cluster; held = set.insert old.held lane; clock = old.clock; lacking = old.lacking; text = old.text }))
      → IfErr result (λ error. (error ≡ OutOfMemory) ⊎ ((error ≡ NoSuchMachine) × (HasMachines (seen_of old.cluster) lane → ⊥) × (new ≡ old)))
      → Ends seen_of led_of ra result (lines.Hold lane.from lane.to lane.kind) old rack new rack
  ends_hold (Err error) lane old new rack done refused = record { done = tt; refused = refused_lane (Err error) (lines.Hold lane.from lane.to lane.kind) lane old new rack (NamesHeld refl) refused; keeps = keeps_none ra rack }
  ends_hold (Ok _) lane old new rack (both, same) refused = record {
    done = subst (λ p. IsDone seen_of led_of ra (lines.Hold lane.from lane.to lane.kind) old rack p rack) (sym same) (record {
      allowed = allowed_lane (lines.Hold lane.from lane.to lane.kind) lane old (NamesHeld refl) both;
      goes = goes_none seen_of led_of ra (IsLine old.held (lines.Hold lane.from lane.to lane.kind)) Keep old (record { cluster = old.cluster; held = set.insert old.held lane; clock = old.clock; lacking = old.lacking; text = old.text }) rack rack (Holds lane refl (refl, refl)) (λ tree parts led. led) refl refl refl (keeps_none ra rack);
      held = refl;
      clock = refl;
    });
    refused = tt;
    keeps = keeps_none ra rack;
  }

  -- one that holds a lane no more
  pub ends_free : (result : Result (Unit {0}) EventError) (lane : Lane) (old new : Place C) (rack : R)
      → OnOk result (HasMachines (seen_of old.cluster) lane × (new ≡ record { cluster = old.cluster; held = set.remove old.held lane; clock = old.clock; lacking = old.lacking; text = old.text }))
      → IfErr result (λ error. (error ≡ NoSuchMachine) × (HasMachines (seen_of old.cluster) lane → ⊥) × (new ≡ old))
      → Ends seen_of led_of ra result (lines.Free lane.from lane.to lane.kind) old rack new rack
  ends_free (Err error) lane old new rack done refused = record { done = tt; refused = refused_lane (Err error) (lines.Free lane.from lane.to lane.kind) lane old new rack (NamesFreed refl) (inr refused); keeps = keeps_none ra rack }
  ends_free (Ok _) lane old new rack (both, same) refused = record {
    done = subst (λ p. IsDone seen_of led_of ra (lines.Free lane.from lane.to lane.kind) old rack p rack) (sym same) (record {
      allowed = allowed_lane (lines.Free lane.from lane.to lane.kind) lane old (NamesFreed refl) both;
      goes = goes_none seen_of led_of ra (IsLine old.held (lines.Free lane.from lane.to lane.kind)) Keep old (record { cluster = old.cluster; held = set.remove old.held lane; clock = old.clock; lacking = old.lacking; text = old.text }) rack rack (Frees lane refl (refl, refl)) (λ tree parts led. led) refl refl refl (keeps_none ra rack);
      held = refl;
      clock = refl;
    });
    refused = tt;
    keeps = keeps_none ra rack;
  }

  -- one that drops its packets
  pub ends_drop : (result : Result (Unit {0}) EventError) (lane : Lane) (old new : Place C) (rack : R)
      → new ≡ record { cluster = new.cluster; held = old.held; clock = old.clock; lacking = old.lacking; text = old.text }
      → OnOk result (HasMachines (seen_of old.cluster) lane × (seen_of new.cluster ≡ record (seen_of old.cluster) { post = dropped lane (seen_of old.cluster).post }))
      → IfErr result (λ error. (error ≡ NoSuchMachine) × (HasMachines (seen_of old.cluster) lane → ⊥) × (new ≡ old))
      → GoesOn (led_of old.cluster) (led_of new.cluster)
      → Ends seen_of led_of ra result (lines.Drop lane.from lane.to lane.kind) old rack new rack
  ends_drop (Err error) lane old new rack same done refused goes =
      record { done = tt; refused = refused_lane (Err error) (lines.Drop lane.from lane.to lane.kind) lane old new rack (NamesDropped refl) (inr refused); keeps = keeps_none ra rack }
  ends_drop (Ok _) lane old new rack same (both, shows) refused goes = record {
    done = record {
      allowed = allowed_lane (lines.Drop lane.from lane.to lane.kind) lane old (NamesDropped refl) both;
      goes = goes_none seen_of led_of ra (IsLine old.held (lines.Drop lane.from lane.to lane.kind)) Keep old new rack rack (Drops lane refl (refl, shows)) (λ tree parts led. goes (ra.state rack) tree parts led) (ap (λ (p : Place C). p.lacking) same) (ap (λ (p : Place C). p.text) same) refl (keeps_none ra rack);
      held = ap (λ (p : Place C). p.held) same;
      clock = ap (λ (p : Place C). p.clock) same;
    };
    refused = tt;
    keeps = keeps_none ra rack;
  }

  -- a reading was refused
  pub ends_back : (line : Line) (error : EventError) (old : Place C) (clock : ℕ) (rack : R) → IsRefusal (at_clock old.clock (seen_of old.cluster)) line (Some error) → clock ≡ old.clock
      → Ends seen_of led_of ra (Err error) line old rack (record { cluster = old.cluster; held = old.held; clock = clock; lacking = old.lacking; text = old.text }) rack
  ends_back line error old clock rack cause same = record {
    done = tt;
    refused = inr (record { cause = cause; same = record { place = ap (λ (k : ℕ). record { cluster = old.cluster; held = old.held; clock = k; lacking = old.lacking; text = old.text }) same; state = refl; faults = refl } });
    keeps = keeps_none ra rack;
  }

  -- a run
  pub ends_run : (reading limit count : ℕ) (old : Place C) (before : R) (new : Place C) (after : R) → back_at old.clock reading ≡ None → Goes seen_of led_of ra (AreDue old.held reading count) Keep old before new after
      → count ≤ limit → (count ≡ limit) ⊎ IsDue (seen_of new.cluster) old.held reading None → new.held ≡ old.held → new.clock ≡ max old.clock reading → (x : Unit {0})
      → Ends seen_of led_of ra (Ok x) (lines.Run reading limit) old before new after
  ends_run reading limit count old before new after taken goes within over held clock x = record {
    done = record {
      allowed = OfRun reading limit refl (sym taken);
      goes = goes_as seen_of led_of ra (AreDue old.held reading count) (IsLine old.held (lines.Run reading limit)) Keep old new before after
          (λ steps are. Runs reading limit refl (run_is old.held reading limit count (seen_of old.cluster) (seen_of new.cluster) steps within over are)) goes;
      held = held;
      clock = clock;
    };
    refused = tt;
    keeps = goes.keeps;
  }

  -- all machines crash
  pub ends_crashes : (result : Result (Unit {0}) EventError) (noise : Noise) (reading : ℕ) (machines : List Actor) (old : Place C) (before : R) (new : Place C) (after : R) → AreInTurn (IsUp (seen_of old.cluster)) machines
      → OnOk result (Goes seen_of led_of ra (AreTurns (turn_of false reading) false (reverse machines)) noise old before new after) → OnOk result ((new.held ≡ old.held) × (new.clock ≡ old.clock))
      → IfErr result (λ error. error ≡ OutOfMemory) → KeepsRack ra before after → Ends seen_of led_of ra result (lines.CrashAll noise) old before new after
  ends_crashes (Err error) noise reading machines old before new after turn goes same why keeps = record { done = tt; refused = inl why; keeps = keeps }
  ends_crashes (Ok _) noise reading machines old before new after turn goes same why keeps = record {
    done = record {
      allowed = OfCrashes noise refl refl;
      goes = goes_as seen_of led_of ra (AreTurns (turn_of false reading) false (reverse machines)) (IsLine old.held (lines.CrashAll noise)) noise old new before after (λ steps are. Crashes noise refl (record { machines = machines; turn = turn; goes = are })) goes;
      held = same.0;
      clock = same.1;
    };
    refused = tt;
    keeps = keeps;
  }

  -- all start again
  pub ends_restarts : (result : Result (Unit {0}) EventError) (reading clock : ℕ) (machines : List Actor) (old : Place C) (before : R) (new : Place C) (after : R) → back_at old.clock reading ≡ None → clock ≡ max old.clock reading
      → AreInTurn (IsDown (seen_of old.cluster)) machines
      → OnOk result (Goes seen_of led_of ra (AreTurns (turn_of true reading) true (reverse machines)) Keep (record { cluster = old.cluster; held = old.held; clock = clock; lacking = old.lacking; text = old.text }) before new after)
      → OnOk result ((new.held ≡ old.held) × (new.clock ≡ clock))
      → IfErr result (λ error. error ≡ OutOfMemory) → KeepsRack ra before after → Ends seen_of led_of ra result (lines.RestartAll reading) old before new after
  ends_restarts (Err error) reading clock machines old before new after taken is turn goes same why keeps = record { done = tt; refused = inl why; keeps = keeps }
  ends_restarts (Ok _) reading clock machines old before new after taken is turn goes same why keeps = record {
    done = record {
      allowed = OfRestarts reading refl (sym taken);
      goes = record {
        steps = goes.steps;
        is = Restarts reading refl (record { machines = machines; turn = turn; goes = goes.is });
        leads = goes.leads;
        lacks = goes.lacks;
        text = goes.text;
        in_range = goes.in_range;
        disks = goes.disks;
        blamed = goes.blamed;
        keeps = goes.keeps;
      };
      held = same.0;
      clock = same.1 ∙ is;
    };
    refused = tt;
    keeps = keeps;
  }
