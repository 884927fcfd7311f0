-- How a `replay` ends, by its exit status.
use Rattle.std.specs.Prelude.{◌≡◌, ◌≢◌, ◌⊎◌, ℕ, false, List, [], ◌∷◌}
use Rattle.bx_base.specs.Faults.{Rose}
use Rattle.bx_base.specs.Text.{lines_of}
use Rattle.bx_disk.specs.declared.rack.Rack as racks
use Rattle.bx_outside.specs.declared.sink.Sink as sinks
use Rattle.bx_outside.specs.declared.source.Source as sources
use Rattle.bx_replay.specs.Lines.{AreDone, IsReasonByLines}
use Rattle.bx_replay.specs.Outcome.{IsBroken, IsCut, IsCutOff, IsPlayable, IsReplayRefusal, IsRefused, IsRefusedByRun, IsReplayed, IsShownBy}
use Rattle.bx_replay.specs.Replay.{IsDiskCause, WroteOn}
use Rattle.bx_script.specs.declared.line.Line.{Line}
use Rattle.bx_script.specs.Schedule.{IsSchedule}
use Rattle.bx_statuses.specs.Report.{IsAmong, IsTold, message}
use Rattle.bx_stops.specs.declared.stop.Reason.{Reason}
use Rattle.bx_stops.specs.declared.stop.Stop.TheVariants as stops

-- The schedule of the input was to be replayed on the bench, and its trace written to the output.
pub record ReplayEnds {S K B : Type 0} (source : sources.Ghosts S) (sink : sinks.Ghosts K) (rack : racks.Ghosts B) (input input_new : S) (out out_new err err_new : K) (bench bench_new : B) (status : ℕ) : Type 0 where
  pub among : IsAmong (0 ∷ 2 ∷ 3 ∷ 4 ∷ 5 ∷ 9 ∷ []) status
  -- The headline. A machine may have stopped by itself where a disk of the bench failed.
  pub replayed : status ≡ 0 → source.tells input → IsPlayable (Rose (rack.faults bench) (rack.faults bench_new)) (source.left input) × (source.left input_new ≡ [])
      × (sink.tells out × rack.tells bench → WroteOn (sink.written out) (sink.written out_new)
      (IsReplayed (Rose (rack.faults bench) (rack.faults bench_new)) (source.left input) (IsShownBy (rack.state bench_new))))
  pub dropped : status ≡ 0 → rack.tells bench → (d s : ℕ) → (rack.state bench_new).unsure d s ≡ false
  -- the first line that is refused, and the trace of the lines before
  pub refused : status ≡ 2 → (number : ℕ) × (reason : Reason)
      × (source.tells input → IsReplayRefusal (Rose (rack.faults bench) (rack.faults bench_new)) (source.left input) number reason
      × (sink.tells out × rack.tells bench → WroteOn (sink.written out) (sink.written out_new)
      (IsRefused (Rose (rack.faults bench) (rack.faults bench_new)) (source.left input) number reason)))
      × (sink.tells err → IsTold (sink.written err) (sink.written err_new) (sink.faults err) (sink.faults err_new) (message (stops.Refused number reason)))
  -- A line that lines tell to be refused, behind lines that may be done, has no status 0: it is refused, or one before it is.
  pub refuses : source.tells input → (number : ℕ) (reason : Reason) → IsReasonByLines reason
      → IsReplayRefusal (Rose (rack.faults bench) (rack.faults bench_new)) (source.left input) number reason
      → (Rose (source.faults input) (source.faults input_new) → ⊥) → (Rose (sink.faults out) (sink.faults out_new) → ⊥)
      → (status ≡ 2) ⊎ ((status ≡ 9) ⊎ ((status ≡ 5) × (out_new ≡ out)))
  -- a fault of the source, and the trace of the lines before
  pub read_fault : status ≡ 3 → Rose (source.faults input) (source.faults input_new)
  pub cut_off : status ≡ 3 → source.tells input → IsCut (Rose (rack.faults bench) (rack.faults bench_new)) (source.left input) (source.left input_new)
      × (sink.tells out × rack.tells bench → WroteOn (sink.written out) (sink.written out_new)
      (IsCutOff (Rose (rack.faults bench) (rack.faults bench_new)) (source.left input) (source.left input_new)))
  -- a fault of the output or of the bench, or no memory: a part of a trace
  pub write_fault : status ≡ 4 → Rose (sink.faults out) (sink.faults out_new)
  pub disk_fault : status ≡ 5 → IsDiskCause (rack.tells bench) (rack.faults bench) (rack.faults bench_new)
  pub disk_when : status ≡ 5 → source.tells input →
      (out_new ≡ out) ⊎ (IsPlayable (Rose (rack.faults bench) (rack.faults bench_new)) (source.left input) × (source.left input_new ≡ []))
  pub broken : (status ≡ 4) ⊎ ((status ≡ 5) ⊎ (status ≡ 9)) → source.tells input → sink.tells out × rack.tells bench →
      WroteOn (sink.written out) (sink.written out_new) (IsBroken (Rose (rack.faults bench) (rack.faults bench_new)) (source.left input))
  -- The first cause met decides: a fault of the source or of the sink gives its status and no other, so nothing is tried again after one. A
  -- fault of the bench gives none between the heading and the last line.
  pub source_first : status ≢ 3 → source.faults input_new ≡ source.faults input
  pub sink_first : status ≢ 4 → sink.faults out_new ≡ sink.faults out
  -- A schedule each line of which may be done behind those before it is done, unless memory runs out, or the bench fails (status 5 says when), or a line is refused for what lines don't tell.
  pub complete : source.tells input → (schedule : List Line) → IsSchedule (lines_of (source.left input)) schedule
      → AreDone (Rose (rack.faults bench) (rack.faults bench_new)) schedule
      → (Rose (source.faults input) (source.faults input_new) → ⊥) → (Rose (sink.faults out) (sink.faults out_new) → ⊥)
      → (status ≡ 0) ⊎ ((status ≡ 9) ⊎ ((status ≡ 5) ⊎ ((status ≡ 2) × IsRefusedByRun (Rose (rack.faults bench) (rack.faults bench_new)) (source.left input))))
