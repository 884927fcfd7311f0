-- What a line that a cluster refuses leaves.
use Rattle.std.proofs.Common.{◌≡◌, ◌⊎◌, ℕ, List, Err, Some, inl, inr, refl, sym, subst}
use Rattle.bx_disk.specs.Disks.{Disks}
use Rattle.bx_disk.specs.declared.rack.Rack as racks
use Rattle.bx_history.specs.Parts.{Part}
use Rattle.bx_model.specs.declared.tree.Tree.{Tree}
use Rattle.bx_opens.specs.bx_world_events.specs.Refusals.{Seen}
use Rattle.bx_opens.specs.bx_world_events.specs.declared.event.EventError.{EventError}
use Rattle.bx_opens.specs.bx_world_events.specs.declared.event.EventError.TheVariants as errors
use Rattle.bx_schedule.specs.Execution.{RefusesAt, Snapshot, snapshot_of}
use Rattle.bx_schedule.specs.Doing.{IsRefused}
use Rattle.bx_schedule.specs.Places.{Place}
use Rattle.bx_script.specs.declared.line.Line.{Line}
use Rattle.bx_replay.specs.Lines.{after_lines}
use Rattle.bx_replay.specs.Replay.{DoesLine, HasStepCause, IsRefusedFor, IsRefusedThere, Reached}
use Rattle.bx_replay.specs.Stops.{stop_of}
use Rattle.bx_replay.proofs.Refusals.{TellsFirst, line_refused}

module _ {C R : Type 0} (seen_of : C → Seen) (led_of : C → Disks → Tree → List Part → Type 0) (ra : racks.Ghosts R) where
  pub refuses : TellsFirst → (line : Line) (error : EventError) (old new : Place C) (before after : R) → (error ≡ errors.OutOfMemory) ⊎ IsRefused seen_of led_of ra line error old before new after
      → (MayStop : Type 0) (done : List Line) (number : ℕ) → Reached MayStop (seen_of old.cluster) old.clock done → IsRefusedFor MayStop (stop_of number error) number (after_lines done) line
  refuses told line error old new before after (inl memory) MayStop done number reached = subst (λ (e : EventError). IsRefusedFor MayStop (stop_of number e) number (after_lines done) line) (sym memory) tt
  refuses told line error old new before after (inr refused) MayStop done number reached = line_refused MayStop (after_lines done) (seen_of old.cluster) old.clock reached.shows told number line error refused.cause

-- the stop tells the cause
stopped_there : (now : Snapshot) (line : Line) (number : ℕ) (error : EventError) → RefusesAt (Some now) line error → IsRefusedThere now line (stop_of number error)
stopped_there now line number errors.NoSuchMachine refuses = (errors.NoSuchMachine, refuses, refl)
stopped_there now line number (errors.ClockBack by) refuses = (errors.ClockBack by, refuses, refl)
stopped_there now line number (errors.NoSuchPacket packet) refuses = (errors.NoSuchPacket packet, refuses, refl)
stopped_there now line number errors.Up refuses = (errors.Up, refuses, refl)
stopped_there now line number errors.Down refuses = (errors.Down, refuses, refl)
stopped_there now line number errors.NothingToSync refuses = (errors.NothingToSync, refuses, refl)
stopped_there now line number errors.StillNeeded refuses = (errors.StillNeeded, refuses, refl)
stopped_there now line number errors.OutOfMemory refuses = tt

module _ {C R : Type 0} (seen_of : C → Seen) (led_of : C → Disks → Tree → List Part → Type 0) (ra : racks.Ghosts R) where
  pub refuses_there : (line : Line) (number : ℕ) (error : EventError) (old new : Place C) (before after : R) → (error ≡ errors.OutOfMemory) ⊎ IsRefused seen_of led_of ra line error old before new after
      → (disks : Disks) → IsRefusedThere (snapshot_of seen_of old disks) line (stop_of number error)
  refuses_there line number error old new before after (inl memory) disks = subst (λ (e : EventError). IsRefusedThere (snapshot_of seen_of old disks) line (stop_of number e)) (sym memory) tt
  refuses_there line number error old new before after (inr refused) disks = stopped_there (snapshot_of seen_of old disks) line number error (record { here = snapshot_of seen_of old disks; stands = refl; cause = refused.cause })

pub refused_cause : (number before now : ℕ) (error : EventError) → HasStepCause (stop_of number error) number before now
refused_cause number before now errors.NoSuchMachine = refl
refused_cause number before now (errors.ClockBack by) = refl
refused_cause number before now (errors.NoSuchPacket packet) = refl
refused_cause number before now errors.Up = refl
refused_cause number before now errors.Down = refl
refused_cause number before now errors.NothingToSync = refl
refused_cause number before now errors.StillNeeded = refl
refused_cause number before now errors.OutOfMemory = tt

-- nothing is written
pub unwritten : (number : ℕ) (error : EventError) (After : List ℕ → Type 0) (written : List ℕ) → DoesLine (Err (stop_of number error)) After written written
unwritten number errors.NoSuchMachine After written = refl
unwritten number (errors.ClockBack by) After written = refl
unwritten number (errors.NoSuchPacket packet) After written = refl
unwritten number errors.Up After written = refl
unwritten number errors.Down After written = refl
unwritten number errors.NothingToSync After written = refl
unwritten number errors.StillNeeded After written = refl
unwritten number errors.OutOfMemory After written = refl
