-- What a replay of a generated schedule leaves.
use Rattle.std.specs.Prelude.{◌≡◌, ℕ, List, ◌++◌, take}
use Rattle.bx_base.specs.Faults.{Rose}
use Rattle.bx_generated.specs.Schedules.{generated_text}
use Rattle.bx_replay.specs.Outcome.{AtEnd, IsReplayed}
use Rattle.bx_replay.specs.Replay.{IsDiskCause, WroteOn}
use Rattle.bx_stops.specs.declared.stop.Stop.{Stop}
use Rattle.bx_stops.specs.declared.stop.Stop.TheVariants as stops
use Rattle.bx_make.specs.Counts.{count_text}

-- The output is the six lines that tell of a replay of the generated schedule: of a trace that is one of that schedule, and of the listing of the tree behind it, which stand so.
pub record IsMade (MayStop : Type 0) (seed nodes calls : ℕ) (ReplayStands : AtEnd) (output : List ℕ) : Type 0 where
  pub replay : List ℕ
  pub replayed : IsReplayed MayStop (generated_text seed nodes calls) ReplayStands replay
  pub output-is : output ≡ count_text calls (replayed.trace ++ replayed.closing) replayed.last

-- the output is a part of such, from its front
pub record IsMadeInPart (MayStop : Type 0) (seed nodes calls : ℕ) (ReplayStands : AtEnd) (output : List ℕ) : Type 0 where
  pub whole : List ℕ
  pub made : IsMade MayStop seed nodes calls ReplayStands whole
  pub size : ℕ
  pub part : output ≡ take size whole

-- why there are no six lines: the faults of the sink and of the bench, before and now, and whether the bench tells
abbrev pub HasMakeCause : Stop → ℕ → ℕ → Type 0 → ℕ → ℕ → Type 0
HasMakeCause (stops.Refused line reason) sink_before sink_now Tells bench_before bench_now = ⊥
HasMakeCause stops.ReadFault sink_before sink_now Tells bench_before bench_now = ⊥
HasMakeCause stops.WriteFault sink_before sink_now Tells bench_before bench_now = Rose sink_before sink_now
HasMakeCause stops.DiskFault sink_before sink_now Tells bench_before bench_now = IsDiskCause Tells bench_before bench_now
HasMakeCause stops.OutOfMemory sink_before sink_now Tells bench_before bench_now = Unit {0}

-- what a fault of the sink leaves of the six lines, by what the sink had and has
abbrev pub LeavesPart : Stop → List ℕ → List ℕ → (List ℕ → Type 0) → Type 0
LeavesPart (stops.Refused line reason) old new Part = new ≡ old
LeavesPart stops.ReadFault old new Part = new ≡ old
LeavesPart stops.WriteFault old new Part = WroteOn old new Part
LeavesPart stops.DiskFault old new Part = new ≡ old
LeavesPart stops.OutOfMemory old new Part = new ≡ old

-- what a stop of the replay of a generated schedule comes from
abbrev pub cause_of : Stop → Stop
cause_of (stops.Refused line reason) = stops.DiskFault
cause_of stops.ReadFault = stops.OutOfMemory
cause_of stops.WriteFault = stops.OutOfMemory
cause_of stops.DiskFault = stops.DiskFault
cause_of stops.OutOfMemory = stops.OutOfMemory
