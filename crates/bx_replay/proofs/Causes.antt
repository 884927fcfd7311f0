-- What holds whichever way a call ended, and why it stopped short.
use Rattle.std.proofs.Common.{◌≡◌, ◌≤◌, ◌+◌, ℕ, Result, Ok, Err, inl, inr, arith, subst}
use Rattle.std.specs.Prelude.{OnOk}
use Rattle.bx_stops.specs.declared.stop.Stop.{Stop}
use Rattle.bx_stops.specs.declared.stop.Stop.TheVariants as stops
use Rattle.bx_replay.specs.Replay.{HasBeginCause, HasCause, HasFinishCause, HasLineCause, HasStepCause, UnlessDisk, UnlessRead, UnlessWrite}

-- counts that stay, or that rise twice
pub same_least : (old new : ℕ) → new ≡ old → old ≤ new
same_least old new same = omega arith

pub same_most : (old new : ℕ) → new ≡ old → new ≤ old + 1
same_most old new same = omega arith

pub rises : (a b c : ℕ) → a ≤ b → b ≤ c → a ≤ c
rises a b c first then_on = omega arith

module _ {A P : Type 0} where
  pub on_ok : (r : Result A Stop) → P → OnOk r P
  on_ok (Ok x) p = p
  on_ok (Err stop) p = tt

  pub unless_read : (r : Result A Stop) → P → UnlessRead r P
  unless_read (Ok x) p = p
  unless_read (Err (stops.Refused line reason)) p = p
  unless_read (Err stops.ReadFault) p = tt
  unless_read (Err stops.WriteFault) p = p
  unless_read (Err stops.DiskFault) p = p
  unless_read (Err stops.OutOfMemory) p = p

  pub unless_write : (r : Result A Stop) → P → UnlessWrite r P
  unless_write (Ok x) p = p
  unless_write (Err (stops.Refused line reason)) p = p
  unless_write (Err stops.ReadFault) p = p
  unless_write (Err stops.WriteFault) p = tt
  unless_write (Err stops.DiskFault) p = p
  unless_write (Err stops.OutOfMemory) p = p

  pub unless_disk : (r : Result A Stop) → P → UnlessDisk r P
  unless_disk (Ok x) p = p
  unless_disk (Err (stops.Refused line reason)) p = p
  unless_disk (Err stops.ReadFault) p = p
  unless_disk (Err stops.WriteFault) p = p
  unless_disk (Err stops.DiskFault) p = tt
  unless_disk (Err stops.OutOfMemory) p = p

-- the parts of a replay as the causes of the whole
module _ (Tells : Type 0) where
  pub line_cause : (stop : Stop) (number source source_now sink sink_now bench bench_now : ℕ) → HasLineCause stop number source source_now
      → HasCause stop source source_now sink sink_now Tells bench bench_now
  line_cause (stops.Refused line reason) number source source_now sink sink_now bench bench_now cause = tt
  line_cause stops.ReadFault number source source_now sink sink_now bench bench_now cause = cause
  line_cause stops.WriteFault number source source_now sink sink_now bench bench_now cause = absurd cause
  line_cause stops.DiskFault number source source_now sink sink_now bench bench_now cause = absurd cause
  line_cause stops.OutOfMemory number source source_now sink sink_now bench bench_now cause = tt

  pub step_cause : (stop : Stop) (number source source_now sink sink_now bench bench_now : ℕ) → HasStepCause stop number sink sink_now
      → HasCause stop source source_now sink sink_now Tells bench bench_now
  step_cause (stops.Refused line reason) number source source_now sink sink_now bench bench_now cause = tt
  step_cause stops.ReadFault number source source_now sink sink_now bench bench_now cause = absurd cause
  step_cause stops.WriteFault number source source_now sink sink_now bench bench_now cause = cause
  step_cause stops.DiskFault number source source_now sink sink_now bench bench_now cause = absurd cause
  step_cause stops.OutOfMemory number source source_now sink sink_now bench bench_now cause = tt

  pub begin_cause : (stop : Stop) (source source_now sink sink_now bench bench_now : ℕ) → HasBeginCause stop source source_now bench bench_now
      → HasCause stop source source_now sink sink_now Tells bench bench_now
  begin_cause (stops.Refused line reason) source source_now sink sink_now bench bench_now cause = tt
  begin_cause stops.ReadFault source source_now sink sink_now bench bench_now cause = cause
  begin_cause stops.WriteFault source source_now sink sink_now bench bench_now cause = absurd cause
  begin_cause stops.DiskFault source source_now sink sink_now bench bench_now cause = inl cause
  begin_cause stops.OutOfMemory source source_now sink sink_now bench bench_now cause = tt

  pub finish_cause : (Held : Type 0) (stop : Stop) (source source_now sink sink_now bench bench_then bench_now : ℕ) → bench ≤ bench_then → (Tells → Held) → HasFinishCause stop sink sink_now Held bench_then bench_now
      → HasCause stop source source_now sink sink_now Tells bench bench_now
  finish_cause Held (stops.Refused line reason) source source_now sink sink_now bench bench_then bench_now later gives cause = tt
  finish_cause Held stops.ReadFault source source_now sink sink_now bench bench_then bench_now later gives cause = absurd cause
  finish_cause Held stops.WriteFault source source_now sink sink_now bench bench_then bench_now later gives cause = cause
  finish_cause Held stops.DiskFault source source_now sink sink_now bench bench_then bench_now later gives (inl (inl rose)) = inl (inl (omega (arith, later, rose)))
  finish_cause Held stops.DiskFault source source_now sink sink_now bench bench_then bench_now later gives (inl (inr most)) = inl (inr most)
  finish_cause Held stops.DiskFault source source_now sink sink_now bench bench_then bench_now later gives (inr none) = inr (λ tells. none (gives tells))
  finish_cause Held stops.OutOfMemory source source_now sink sink_now bench bench_then bench_now later gives cause = tt

-- a read of a line, and a line that is done, tell no disk's fault
pub line_no_disk : (stop : Stop) (number before now : ℕ) → HasLineCause stop number before now → stop ≡ stops.DiskFault → ⊥
line_no_disk stop number before now cause is = subst (λ (s : Stop). HasLineCause s number before now) is cause

pub step_no_disk : (stop : Stop) (number before now : ℕ) → HasStepCause stop number before now → stop ≡ stops.DiskFault → ⊥
step_no_disk stop number before now cause is = subst (λ (s : Stop). HasStepCause s number before now) is cause

pub err_is : (r : Result (Unit {0}) Stop) (a b : Stop) → r ≡ Err a → r ≡ Err b → a ≡ b
err_is r a b e f = cc
