-- A line of a generated schedule is refused only where a machine may have stopped by itself.
use Rattle.std.proofs.Common.{◌≡◌, ℕ, ◌+◌, ◌*◌, ◌^◌, ◌<◌, ◌≤◌, ◌⊎◌, inl, inr, true, false, List, [], ◌∷◌, ◌++◌, length, refl, sym, ap, subst, ◌∙◌, arith}
use Rattle.std.specs.Prelude.{Option, Some, None, IsSomeAnd, Ok, Err, map}
use Rattle.std.specs.List.{AllByRecursion}
use Rattle.bx_base.proofs.Lines.{lines_of-text_of}
use Rattle.bx_base.specs.Faults.{Rose}
use Rattle.bx_base.specs.Text.{LacksFeed, lines_of}
use Rattle.bx_base.specs.declared.names.Actor.{Actor}
use Rattle.bx_generated.specs.Schedules.{generated, generated_text}
use Rattle.bx_generated.proofs.Grammar.{begins_schedule, generated_own, is_own}
use Rattle.bx_script.proofs.Spaced.{all_map}
use Rattle.bx_script.proofs.Spelled.{spelling_injective, spelling_lacks_feed}
use Rattle.bx_script.specs.Schedule.{BeginsSchedule, HasPlace, IsSchedule}
use Rattle.bx_script.specs.ScheduleLine.{InRange, spelling}
use Rattle.bx_script.specs.declared.line.Line.{Line}
use Rattle.bx_script.specs.declared.line.Line.TheVariants.{Heading, Call, Run, Tick, Deliver, Next, Sync, Hold, Free, Drop, Crash, CrashAll, Restart, RestartAll, Blank}
use Rattle.bx_stops.specs.declared.stop.Reason.{Reason}
use Rattle.bx_stops.specs.declared.stop.Reason.TheVariants.{Grammar, NoMachine, ClockBack, NoPacket, Up, Down, NothingToSync, StillNeeded}
use Rattle.bx_stops.specs.declared.stop.Stop.{Stop}
use Rattle.bx_stops.specs.declared.stop.Stop.TheVariants as stops
use Rattle.bx_replay.specs.Lines.{AreDone, GoesByRun, IsArrival, IsBlank, IsSync, MayName, needs_down, needs_up}
use Rattle.bx_replay.specs.Outcome.{AtEnd, IsReplayRefusal, IsReplayed}
use Rattle.bx_replay.specs.Replay.{HasCause, IsDiskCause, Leaves, WroteOn}
use Rattle.bx_replay.proofs.ByRun.{refused_by_run}
use Rattle.bx_make.specs.Makes.{cause_of}
use Rattle.bx_make.proofs.Doing.{generated_done, generated_few}

-- ---- a generated schedule is a schedule

all_in_range : (lines : List Line) → AllByRecursion (HasPlace false) lines → AllByRecursion InRange lines
all_in_range [] places = tt
all_in_range (line ∷ lines) places = (places.0.0, all_in_range lines places.1)

begins_in_range : (lines : List Line) → BeginsSchedule lines → AllByRecursion InRange lines
begins_in_range [] begins = tt
begins_in_range (line ∷ lines) begins = (begins.0.0, all_in_range lines begins.1)

some_line : (seed nodes calls : ℕ) → 0 < length (generated seed nodes calls)
unfolding generated
some_line seed nodes calls = omega arith

module _ (seed nodes calls : ℕ) (fits : seed < 2 ^ 64) (one : 1 ≤ nodes) (four : nodes ≤ 4) (few : calls ≤ 20000) where
  in_range : AllByRecursion InRange (generated seed nodes calls)
  in_range = begins_in_range (generated seed nodes calls) (begins_schedule seed nodes calls fits one four few)

  pub is_schedule : IsSchedule (lines_of (generated_text seed nodes calls)) (generated seed nodes calls)
  is_schedule = record {
    spelled = lines_of-text_of (map spelling (generated seed nodes calls)) (all_map spelling InRange LacksFeed spelling_lacks_feed (generated seed nodes calls) in_range);
    begins = begins_schedule seed nodes calls fits one four few;
    headed = some_line seed nodes calls;
    few = generated_few (Unit {0}) nodes seed calls fits one four few;
  }

-- ---- the line that is refused is one of it

head_is : {A : Type 0} (a b : A) (xs ys : List A) → a ∷ xs ≡ b ∷ ys → a ≡ b
head_is a b xs ys e = cc

tail_is : {A : Type 0} (a b : A) (xs ys : List A) → a ∷ xs ≡ b ∷ ys → xs ≡ ys
tail_is a b xs ys e = cc

in_schedule : (P : Line → Type 0) (schedule done : List Line) (line : Line) (rest : List (List ℕ)) → map spelling schedule ≡ map spelling done ++ spelling line ∷ rest → AllByRecursion InRange schedule → InRange line
    → AllByRecursion P schedule → P line
in_schedule P [] [] line rest e all fits holds = absurd cc
in_schedule P [] (d ∷ done) line rest e all fits holds = absurd cc
in_schedule P (x ∷ schedule) [] line rest e all fits holds = subst P (spelling_injective x line all.0 fits (head_is (spelling x) (spelling line) (map spelling schedule) rest e)) holds.0
in_schedule P (x ∷ schedule) (d ∷ done) line rest e all fits holds =
    in_schedule P schedule done line rest (tail_is (spelling x) (spelling d) (map spelling schedule) (map spelling done ++ spelling line ∷ rest) e) all.1 fits holds.1

-- ---- such a line isn't refused for what happens to packets or disks

record IsPlain (line : Line) : Type 0 where
  names : (number : ℕ) → MayName line number → ⊥
  arrives : IsArrival line → ⊥
  syncs : IsSync line → ⊥
  blanks : IsBlank line → ⊥

plain : (line : Line) → is_own line ≡ true → IsPlain line
plain (Heading volume nodes devices areas) own = record { names = λ number h. h; arrives = λ h. h; syncs = λ h. h; blanks = λ h. h }
plain (Call reading node client datagram) own = record { names = λ number h. h; arrives = λ h. h; syncs = λ h. h; blanks = λ h. h }
plain (Run reading limit) own = record { names = λ number h. h; arrives = λ h. h; syncs = λ h. h; blanks = λ h. h }
plain (Tick reading machine) own = record { names = λ number h. h; arrives = λ h. h; syncs = λ h. h; blanks = λ h. h }
plain (Deliver reading number) own = absurd cc
plain (Next reading from to) own = absurd cc
plain (Sync machine) own = absurd cc
plain (Hold from to kind) own = record { names = λ number h. h; arrives = λ h. h; syncs = λ h. h; blanks = λ h. h }
plain (Free from to kind) own = record { names = λ number h. h; arrives = λ h. h; syncs = λ h. h; blanks = λ h. h }
plain (Drop from to kind) own = record { names = λ number h. h; arrives = λ h. h; syncs = λ h. h; blanks = λ h. h }
plain (Crash machine noise) own = record { names = λ number h. h; arrives = λ h. h; syncs = λ h. h; blanks = λ h. h }
plain (CrashAll noise) own = absurd cc
plain (Restart reading machine) own = record { names = λ number h. h; arrives = λ h. h; syncs = λ h. h; blanks = λ h. h }
plain (RestartAll reading) own = absurd cc
plain (Blank machine) own = absurd cc

module _ (MayStop : Type 0) where
  may_of : (one : Option Actor) → IsSomeAnd one (λ who. MayStop) → MayStop
  may_of None h = absurd h
  may_of (Some who) h = h

  may_stop : (reason : Reason) (line : Line) → IsPlain line → GoesByRun MayStop reason line → MayStop
  may_stop Grammar line its by_run = absurd by_run
  may_stop NoMachine line its by_run = absurd by_run
  may_stop (ClockBack by) line its by_run = absurd by_run
  may_stop (NoPacket number) line its by_run = absurd (its.names number by_run)
  may_stop Up line its by_run = may_of (needs_down line) by_run
  may_stop Down line its (inl arrival) = absurd (its.arrives arrival)
  may_stop Down line its (inr up) = may_of (needs_up line) up
  may_stop NothingToSync line its by_run = absurd (its.syncs by_run)
  may_stop StillNeeded line its by_run = absurd (its.blanks by_run)

  -- a line of it is refused only where a machine may have stopped by itself
  pub stopped : (seed nodes calls number : ℕ) (reason : Reason) → seed < 2 ^ 64 → 1 ≤ nodes → nodes ≤ 4 → calls ≤ 20000 → IsReplayRefusal MayStop (generated_text seed nodes calls) number reason → MayStop
  stopped seed nodes calls number reason fits one four few refused =
      let schedule = generated seed nodes calls in
      let is = is_schedule seed nodes calls fits one four few in
      let by = refused_by_run MayStop (generated_text seed nodes calls) schedule number reason is (generated_done MayStop nodes seed calls fits one four few) refused in
      let split : map spelling schedule ≡ map spelling by.refused.done ++ spelling by.line ∷ by.rest = sym is.spelled ∙ by.refused.read ∙ ap (λ (l : List (List ℕ)). map spelling by.refused.done ++ l) by.next in
      let own = in_schedule (λ (line : Line). is_own line ≡ true) schedule by.refused.done by.line by.rest split (in_range seed nodes calls fits one four few) by.allowed.in_place.0 (generated_own seed nodes calls one four few) in
      may_stop by.reason by.line (plain by.line own) by.by_run

-- ---- what the replay of it leaves

pub cause_is : (Tells Bench : Type 0) (Stands : AtEnd) (stop : Stop) (seed nodes calls : ℕ) (text left old new : List ℕ) (source_before source_now sink_before sink_now before now : ℕ)
    → seed < 2 ^ 64 → 1 ≤ nodes → nodes ≤ 4 → calls ≤ 20000 → text ≡ generated_text seed nodes calls
    → HasCause stop source_before source_now sink_before sink_now Bench before now → Leaves (Rose before now) Tells Stands (Err stop) text left old new
    → (cause_of stop ≡ stops.OutOfMemory) ⊎ ((cause_of stop ≡ stops.DiskFault) × IsDiskCause Bench before now)
cause_is Tells Bench Stands (stops.Refused number reason) seed nodes calls text left old new a b c d before now fits one four few is cause leaves =
    inr (refl, inl (stopped (Rose before now) seed nodes calls number reason fits one four few (subst (λ (t : List ℕ). IsReplayRefusal (Rose before now) t number reason) is leaves.0)))
cause_is Tells Bench Stands stops.ReadFault seed nodes calls text left old new a b c d before now fits one four few is cause leaves = inl refl
cause_is Tells Bench Stands stops.WriteFault seed nodes calls text left old new a b c d before now fits one four few is cause leaves = inl refl
cause_is Tells Bench Stands stops.DiskFault seed nodes calls text left old new a b c d before now fits one four few is cause leaves = inr (refl, cause)
cause_is Tells Bench Stands stops.OutOfMemory seed nodes calls text left old new a b c d before now fits one four few is cause leaves = inl refl

pub replayed_is : (MayStop Tells : Type 0) (Stands : AtEnd) (seed nodes calls : ℕ) (text left old new : List ℕ) → old ≡ [] → text ≡ generated_text seed nodes calls → Tells
    → Leaves MayStop Tells Stands (Ok tt) text left old new → IsReplayed MayStop (generated_text seed nodes calls) Stands new
replayed_is MayStop Tells Stands seed nodes calls text left old new none is tells leaves =
    let wrote = leaves.2 tells in
    let whole : wrote.output ≡ new = sym (wrote.added ∙ ap (λ (l : List ℕ). l ++ wrote.output) none) in
    subst (IsReplayed MayStop (generated_text seed nodes calls) Stands) whole (subst (λ (t : List ℕ). IsReplayed MayStop t Stands wrote.output) is wrote.holds)
