-- What a status of `make` says, by what it left.
use Rattle.std.proofs.Common.{◌≡◌, ◌≢◌, ◌⊎◌, ◌==◌, ℕ, false, List, [], ◌∷◌, Ok, Err, inl, inr, refl, sym, arith}
use Rattle.std.specs.Prelude.{if◌then◌else◌}
use Rattle.bx_base.specs.Faults.{Rose}
use Rattle.bx_disk.specs.declared.rack.Rack as racks
use Rattle.bx_make.specs.Makes.{HasMakeCause, IsMade, IsMadeInPart, LeavesPart}
use Rattle.bx_outside.specs.declared.sink.Sink as sinks
use Rattle.bx_replay.specs.Outcome.{IsShownBy}
use Rattle.bx_replay.specs.Replay.{IsDiskCause, UnlessWrite, WroteOn}
use Rattle.bx_statuses.specs.Report.{IsAmong, IsTold, line_of, message, status_of}
use Rattle.bx_stops.specs.declared.stop.Stop.{Stop}
use Rattle.bx_stops.specs.declared.stop.Stop.TheVariants as stops
use Rattle.bx_top.specs.Makes.{MakeEnds}

-- a stop of a `make` has a status of its own
status_is : (stop : Stop) (status before now : ℕ) (Tells : Type 0) (bench_before bench_now : ℕ) → (status ≡ status_of stop) ⊎ ((status_of stop ≡ 2) × (status ≡ 9)) → HasMakeCause stop before now Tells bench_before bench_now → status ≡ status_of stop
status_is stop status a b Tells c d (inl is) cause = is
status_is (stops.Refused number reason) status a b Tells c d (inr h) cause = absurd cause
status_is stops.ReadFault status a b Tells c d (inr h) cause = absurd cause
status_is stops.WriteFault status a b Tells c d (inr h) cause = absurd (omega (arith, h.0))
status_is stops.DiskFault status a b Tells c d (inr h) cause = absurd (omega (arith, h.0))
status_is stops.OutOfMemory status a b Tells c d (inr h) cause = absurd (omega (arith, h.0))

no_disk : (Tells : Type 0) (before now : ℕ) → Tells → (Rose before now → ⊥) → IsDiskCause Tells before now → ⊥
no_disk Tells before now tells none (inl rose) = none rose
no_disk Tells before now tells none (inr silent) = silent tells

four_or : (status : ℕ) → status ≡ 4 → (status ≡ 5) ⊎ (status ≡ 9) → ⊥
four_or status four (inl e) = omega (arith, four, e)
four_or status four (inr e) = omega (arith, four, e)

module _ {K B : Type 0} (sink : sinks.Ghosts K) (rack : racks.Ghosts B) (seed nodes calls : ℕ) (out out_new : K) (bench bench_new : B) where
  abbrev MayStop : Type 0
  MayStop = Rose (rack.faults bench) (rack.faults bench_new)

  abbrev Tells : Type 0
  Tells = sink.tells out × rack.tells bench

  abbrev Made : List ℕ → Type 0
  Made = IsMade MayStop seed nodes calls (IsShownBy (rack.state bench_new))

  abbrev Part : List ℕ → Type 0
  Part = IsMadeInPart MayStop seed nodes calls (IsShownBy (rack.state bench_new))

  pub ends_well : (Tells → WroteOn (sink.written out) (sink.written out_new) Made) → ((d s : ℕ) → rack.tells bench → (rack.state bench_new).unsure d s ≡ false) → sink.faults out_new ≡ sink.faults out
      → MakeEnds sink rack seed nodes calls out out_new bench bench_new 0
  ends_well made dropped first = record {
    among = refl;
    made = λ zero tells. made tells;
    dropped = λ zero tells d s. dropped d s tells;
    write_fault = λ four. absurd (omega (arith, four));
    part = λ four. absurd (omega (arith, four));
    disk_fault = λ five. absurd (omega (arith, five));
    nothing = λ which tells. absurd (nine_or which);
    sink_first = λ other. first;
    complete = λ tells no_write no_bench. inl refl;
  }
    where
      nine_or : (◌≡◌ {A = ℕ} 0 5) ⊎ (◌≡◌ {A = ℕ} 0 9) → ⊥
      nine_or (inl e) = omega (arith, e)
      nine_or (inr e) = omega (arith, e)

  module _ (status : ℕ) where
    failed : status ≡ 4 → Rose (sink.faults out) (sink.faults out_new) → (Tells → WroteOn (sink.written out) (sink.written out_new) Part) → MakeEnds sink rack seed nodes calls out out_new bench bench_new status
    failed four rose part = record {
      among = rw four refl;
      made = λ zero. absurd (omega (arith, zero, four));
      dropped = λ zero. absurd (omega (arith, zero, four));
      write_fault = λ _. rose;
      part = λ _. part;
      disk_fault = λ five. absurd (omega (arith, five, four));
      nothing = λ which tells. absurd (four_or status four which);
      sink_first = λ other. absurd (other four);
      complete = λ tells no_write no_bench. absurd (no_write rose);
    }

    gave_up : (status ≡ 5) ⊎ (status ≡ 9) → (status ≡ 5 → IsDiskCause (rack.tells bench) (rack.faults bench) (rack.faults bench_new)) → (Tells → sink.written out_new ≡ sink.written out) → sink.faults out_new ≡ sink.faults out
        → MakeEnds sink rack seed nodes calls out out_new bench bench_new status
    gave_up which cause same first = record {
      among = among_of which;
      made = λ zero. absurd (zero_or zero which);
      dropped = λ zero. absurd (zero_or zero which);
      write_fault = λ four. absurd (four_or status four which);
      part = λ four. absurd (four_or status four which);
      disk_fault = cause;
      nothing = λ _ tells. same tells;
      sink_first = λ other. first;
      complete = λ tells no_write no_bench. complete_of which tells no_bench;
    }
      where
        among_of : (status ≡ 5) ⊎ (status ≡ 9) → IsAmong (0 ∷ 4 ∷ 5 ∷ 9 ∷ []) status
        among_of (inl e) = rw e refl
        among_of (inr e) = rw e refl

        zero_or : status ≡ 0 → (status ≡ 5) ⊎ (status ≡ 9) → ⊥
        zero_or zero (inl e) = omega (arith, zero, e)
        zero_or zero (inr e) = omega (arith, zero, e)

        complete_of : (status ≡ 5) ⊎ (status ≡ 9) → rack.tells bench → (Rose (rack.faults bench) (rack.faults bench_new) → ⊥) → (status ≡ 0) ⊎ (status ≡ 9)
        complete_of (inl five) tells none = absurd (no_disk (rack.tells bench) (rack.faults bench) (rack.faults bench_new) tells none (cause five))
        complete_of (inr nine) tells none = inr nine

    by_stop : (stop : Stop) → status ≡ status_of stop → HasMakeCause stop (sink.faults out) (sink.faults out_new) (rack.tells bench) (rack.faults bench) (rack.faults bench_new)
        → (Tells → LeavesPart stop (sink.written out) (sink.written out_new) Part) → UnlessWrite {A = Unit {0}} (Err stop) (sink.faults out_new ≡ sink.faults out) → MakeEnds sink rack seed nodes calls out out_new bench bench_new status
    by_stop (stops.Refused number reason) is cause part first = absurd cause
    by_stop stops.ReadFault is cause part first = absurd cause
    by_stop stops.WriteFault is cause part first = failed is cause part
    by_stop stops.DiskFault is cause part first = gave_up (inl is) (λ five. cause) part first
    by_stop stops.OutOfMemory is cause part first = gave_up (inr is) (λ five. absurd (omega (arith, five, is))) part first

  pub ends_badly : (status : ℕ) (stop : Stop) → (status ≡ status_of stop) ⊎ ((status_of stop ≡ 2) × (status ≡ 9)) → HasMakeCause stop (sink.faults out) (sink.faults out_new) (rack.tells bench) (rack.faults bench) (rack.faults bench_new)
      → (Tells → LeavesPart stop (sink.written out) (sink.written out_new) Part) → UnlessWrite {A = Unit {0}} (Err stop) (sink.faults out_new ≡ sink.faults out) → MakeEnds sink rack seed nodes calls out out_new bench bench_new status
  ends_badly status stop told cause part first =
      by_stop status stop (status_is stop status (sink.faults out) (sink.faults out_new) (rack.tells bench) (rack.faults bench) (rack.faults bench_new) told cause) cause part first

-- no memory to read the words: nothing was done
pub make_starved : {K B : Type 0} (sink : sinks.Ghosts K) (rack : racks.Ghosts B) (seed nodes calls : ℕ) (out : K) (bench : B) (status : ℕ) → status ≡ 9 → MakeEnds sink rack seed nodes calls out out bench bench status
make_starved sink rack seed nodes calls out bench status nine = gave_up sink rack seed nodes calls out out bench bench status (inr nine) (λ five. absurd (omega (arith, five, nine))) (λ tells. refl) refl

-- the line that tells the status
pub told_as : (stop : Stop) (status before now : ℕ) (Bench : Type 0) (bench_before bench_now : ℕ) (old new : List ℕ) (faults faults_new : ℕ) → (status ≡ status_of stop) ⊎ ((status_of stop ≡ 2) × (status ≡ 9))
    → HasMakeCause stop before now Bench bench_before bench_now → IsTold old new faults faults_new (if status == 9 then message stops.OutOfMemory else message stop) → IsTold old new faults faults_new (line_of status)
told_as stop status a b Bench c d old new e f is cause told = by stop (status_is stop status a b Bench c d is cause) cause told
  where
    by : (stop : Stop) → status ≡ status_of stop → HasMakeCause stop a b Bench c d → IsTold old new e f (if status == 9 then message stops.OutOfMemory else message stop) → IsTold old new e f (line_of status)
    by (stops.Refused number reason) same its its_line = absurd its
    by stops.ReadFault same its its_line = absurd its
    by stops.WriteFault same its its_line = rw same (rw same at its_line)
    by stops.DiskFault same its its_line = rw same (rw same at its_line)
    by stops.OutOfMemory same its its_line = rw same (rw same at its_line)
