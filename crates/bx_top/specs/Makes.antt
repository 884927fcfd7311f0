-- How a `make` ends, by its exit status.
use Rattle.std.specs.Prelude.{◌≡◌, ◌≢◌, ◌⊎◌, ℕ, false, List, [], ◌∷◌}
use Rattle.bx_base.specs.Faults.{Rose}
use Rattle.bx_disk.specs.declared.rack.Rack as racks
use Rattle.bx_make.specs.Makes.{IsMade, IsMadeInPart}
use Rattle.bx_outside.specs.declared.sink.Sink as sinks
use Rattle.bx_replay.specs.Outcome.{IsShownBy}
use Rattle.bx_replay.specs.Replay.{IsDiskCause, WroteOn}
use Rattle.bx_statuses.specs.Report.{IsAmong}

-- A schedule of a seed, with so many nodes and calls, was to be replayed on the bench, and what tells of the replay written to the output.
pub record MakeEnds {K B : Type 0} (sink : sinks.Ghosts K) (rack : racks.Ghosts B) (seed nodes calls : ℕ) (out out_new : K) (bench bench_new : B) (status : ℕ) : Type 0 where
  pub among : IsAmong (0 ∷ 4 ∷ 5 ∷ 9 ∷ []) status
  -- the six lines of a trace that the headline holds of, for the generated schedule
  pub made : status ≡ 0 → sink.tells out × rack.tells bench → WroteOn (sink.written out) (sink.written out_new)
      (IsMade (Rose (rack.faults bench) (rack.faults bench_new)) seed nodes calls (IsShownBy (rack.state bench_new)))
  pub dropped : status ≡ 0 → rack.tells bench → (d s : ℕ) → (rack.state bench_new).unsure d s ≡ false
  -- a fault of the output, and a part of the six lines
  pub write_fault : status ≡ 4 → Rose (sink.faults out) (sink.faults out_new)
  pub part : status ≡ 4 → sink.tells out × rack.tells bench → WroteOn (sink.written out) (sink.written out_new)
      (IsMadeInPart (Rose (rack.faults bench) (rack.faults bench_new)) seed nodes calls (IsShownBy (rack.state bench_new)))
  -- A fault of the bench, before the first line, behind the last, or by which a machine stopped that a line needs; or no memory. Nothing is written then.
  pub disk_fault : status ≡ 5 → IsDiskCause (rack.tells bench) (rack.faults bench) (rack.faults bench_new)
  pub nothing : (status ≡ 5) ⊎ (status ≡ 9) → sink.tells out × rack.tells bench → sink.written out_new ≡ sink.written out
  pub sink_first : status ≢ 4 → sink.faults out_new ≡ sink.faults out
  -- It is done, unless memory runs out, where the output and the bench, which tells, don't fail.
  pub complete : rack.tells bench → (Rose (sink.faults out) (sink.faults out_new) → ⊥) → (Rose (rack.faults bench) (rack.faults bench_new) → ⊥) → (status ≡ 0) ⊎ (status ≡ 9)
