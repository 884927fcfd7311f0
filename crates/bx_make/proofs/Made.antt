-- The six lines of a replay.
use Rattle.std.proofs.Common.{◌≡◌, ℕ, ◌<◌, List, ◌++◌, length, take, refl, ◌∙◌}
use Rattle.std.specs.Prelude.{Result, Ok, Err, IfErr}
use Rattle.std.specs.Result.{IsErrAnd}
use Rattle.bx_generated.specs.Schedules.{generated_text}
use Rattle.bx_replay.specs.Outcome.{AtEnd, IsReplayed}
use Rattle.bx_replay.specs.Replay.{WroteOn}
use Rattle.bx_stops.specs.declared.stop.Stop.{Stop}
use Rattle.bx_stops.specs.declared.stop.Stop.TheVariants as stops
use Rattle.bx_make.specs.Counts.{seen_text}
use Rattle.bx_make.specs.Makes.{IsMade, IsMadeInPart, LeavesPart}
use Rattle.bx_make.proofs.Counting.{seen_is}

module _ (MayStop : Type 0) (seed nodes calls : ℕ) (Stands : AtEnd) (replay text : List ℕ) (replayed : IsReplayed MayStop (generated_text seed nodes calls) Stands replay) (is : text ≡ seen_text calls replay) where
  made : IsMade MayStop seed nodes calls Stands text
  made = record { replay = replay; replayed = replayed; output-is = is ∙ seen_is calls replay replayed.trace replayed.closing replayed.last replayed.headline.in_range replayed.output-is }

  pub made_whole : (old new : List ℕ) → new ≡ old ++ text → WroteOn old new (IsMade MayStop seed nodes calls Stands)
  made_whole old new wrote = record { output = text; added = wrote; holds = made }

  pub made_part : (old new : List ℕ) → (n : ℕ) × (n < length text) × (new ≡ old ++ take n text) → WroteOn old new (IsMadeInPart MayStop seed nodes calls Stands)
  made_part old new wrote = record { output = take wrote.0 text; added = wrote.2; holds = record { whole = text; made = made; size = wrote.0; part = refl } }

-- a part of the six lines, where the sink failed
pub write_part : {A : Type 0} (result : Result A Stop) (old new : List ℕ) (Part : List ℕ → Type 0) → IsErrAnd result (λ stop. stop ≡ stops.WriteFault) → WroteOn old new Part → IfErr result (λ stop. LeavesPart stop old new Part)
write_part (Ok x) old new Part is wrote = tt
write_part (Err stop) old new Part is wrote = rw is wrote
