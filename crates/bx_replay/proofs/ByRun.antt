-- A schedule each line of which may be done behind those before it is refused only for what lines don't tell.
use Rattle.std.proofs.Common.{◌≡◌, ℕ, Bool, true, false, List, [], ◌∷◌, ◌++◌, length, refl, sym, ap, subst, ◌∙◌, arith, append_assoc, inl, inr}
use Rattle.std.specs.Prelude.{Option, Some, None, IfSome, IsSomeAnd, map, reverse, ◌⊎◌}
use Rattle.std.specs.List.{AllByRecursion}
use Rattle.std.proofs.lemmas.List.{append-nil, length-map, length-reverse, reverse-append, reverse-reverse}
use Rattle.bx_base.specs.Text.{lines_of}
use Rattle.bx_base.specs.declared.names.Actor.{Actor}
use Rattle.bx_history.specs.Along.{AllowedNewest}
use Rattle.bx_lease.specs.Readings.{IsTooFarBack}
use Rattle.bx_script.proofs.Spelled.{spelling_injective}
use Rattle.bx_script.specs.declared.line.Line.{Line}
use Rattle.bx_script.specs.Schedule.{BeginsSchedule, HasPlace, IsSchedule, reading_of}
use Rattle.bx_script.specs.ScheduleLine.{InRange, spelling}
use Rattle.bx_stops.specs.declared.stop.Reason.{Reason}
use Rattle.bx_stops.specs.declared.stop.Reason.TheVariants.{Grammar, NoMachine, ClockBack, NoPacket, Up, Down, NothingToSync, StillNeeded}
use Rattle.bx_replay.specs.Lines.{Allows, AreDone, GoesByRun, IsArrival, IsBackBy, IsReasonByLines, IsRefusedLine, Machines, after_lines, needs_down, needs_up}
use Rattle.bx_replay.specs.Outcome.{IsPlayable, IsReplayRefusal, IsRefusedAt, IsRefusedByRun, IsTurnedAway, Refuses}
use Rattle.bx_replay.proofs.Allowed.{begins_newest}

head_is : {A : Type 0} (a b : A) (xs ys : List A) → a ∷ xs ≡ b ∷ ys → a ≡ b
head_is a b xs ys e = cc

tail_is : {A : Type 0} (a b : A) (xs ys : List A) → a ∷ xs ≡ b ∷ ys → xs ≡ ys
tail_is a b xs ys e = cc

-- ---- a schedule that is spelled as lines that were done, with others behind them

all_in_range : (first : Bool) (lines : List Line) → AllByRecursion (HasPlace first) lines → AllByRecursion InRange lines
all_in_range first [] places = tt
all_in_range first (line ∷ lines) places = (places.0.0, all_in_range first lines places.1)

begins_in_range : (lines : List Line) → BeginsSchedule lines → AllByRecursion InRange lines
begins_in_range [] begins = tt
begins_in_range (line ∷ lines) begins = (begins.0.0, all_in_range false lines begins.1)

-- it is these lines, and the next one is the first of the others
record Behind (schedule done : List Line) (line : List ℕ) : Type 0 where
  value : Line
  rest : List Line
  whole : schedule ≡ done ++ value ∷ rest
  spelled : line ≡ spelling value
  in_range : InRange value

behind : (schedule done : List Line) (line : List ℕ) (others : List (List ℕ)) → map spelling schedule ≡ map spelling done ++ line ∷ others
    → AllByRecursion InRange schedule → AllByRecursion InRange done → Behind schedule done line
behind [] [] line others e all all_done = absurd cc
behind [] (d ∷ done) line others e all all_done = absurd cc
behind (x ∷ schedule) [] line others e all all_done = record { value = x; rest = schedule; whole = refl; spelled = sym (head_is (spelling x) line (map spelling schedule) others e); in_range = all.0 }
behind (x ∷ schedule) (d ∷ done) line others e all all_done =
    let same : x ≡ d = spelling_injective x d all.0 all_done.0 (head_is (spelling x) (spelling d) (map spelling schedule) (map spelling done ++ line ∷ others) e) in
    let later = behind schedule done line others (tail_is (spelling x) (spelling d) (map spelling schedule) (map spelling done ++ line ∷ others) e) all.1 all_done.1 in
    record { value = later.value; rest = later.rest; whole = ap (λ (l : List Line). x ∷ l) later.whole ∙ ap (λ (head : Line). head ∷ (done ++ later.value ∷ later.rest)) same; spelled = later.spelled; in_range = later.in_range }

module _ (MayStop : Type 0) where
  -- the line behind these was allowed
  allowed_at : (newer older : List Line) (line : Line) → AllowedNewest (Allows MayStop) (newer ++ line ∷ older) → Allows MayStop older line
  allowed_at [] older line all = all.0
  allowed_at (x ∷ newer) older line all = allowed_at newer older line all.1

  allowed_behind : (done rest : List Line) (line : Line) → AreDone MayStop (done ++ line ∷ rest) → Allows MayStop (reverse done) line
  allowed_behind done rest line all =
      allowed_at (reverse rest) (reverse done) line
      (subst (AllowedNewest (Allows MayStop)) (reverse-append done (line ∷ rest) ∙ ap (λ (l : List Line). l ++ reverse done) (reverse-append (line ∷ []) rest) ∙ append_assoc (reverse rest) (line ∷ []) (reverse done)) all)

  done_in_range : (done : List Line) → AreDone MayStop done → AllByRecursion InRange done
  done_in_range done all = begins_in_range done (subst BeginsSchedule (reverse-reverse done) (begins_newest MayStop (reverse done) all))

  -- ---- why a line that may be done is refused

  steady_back : (greatest by : ℕ) (reading : Option ℕ) → IfSome reading (λ r. IsTooFarBack greatest r → ⊥) → IsBackBy greatest reading by → ⊥
  steady_back greatest by None steady back = back
  steady_back greatest by (Some reading) steady back = steady back.0

  not_up : (machines : Machines) (one : Option Actor) → IfSome one (λ who. machines.down who ≡ false) → IsSomeAnd one (λ who. (machines.down who ≡ true) ⊎ MayStop) → IsSomeAnd one (λ who. MayStop)
  not_up machines None fit refused = refused
  not_up machines (Some who) fit (inl down) = absurd cc
  not_up machines (Some who) fit (inr may) = may

  not_down : (machines : Machines) (one : Option Actor) → IfSome one (λ who. (machines.down who ≡ true) ⊎ MayStop) → IsSomeAnd one (λ who. machines.down who ≡ false) → IsSomeAnd one (λ who. MayStop)
  not_down machines None fit refused = refused
  not_down machines (Some who) (inl down) refused = absurd cc
  not_down machines (Some who) (inr may) refused = may

  arrives : (machines : Machines) (line : Line) → IfSome (needs_up line) (λ who. machines.down who ≡ false) → IsArrival line ⊎ IsSomeAnd (needs_up line) (λ who. (machines.down who ≡ true) ⊎ MayStop)
      → IsArrival line ⊎ IsSomeAnd (needs_up line) (λ who. MayStop)
  arrives machines line fit (inl is) = inl is
  arrives machines line fit (inr refused) = inr (not_up machines (needs_up line) fit refused)

  goes_by_run : (reason : Reason) (before : List Line) (line : Line) → Allows MayStop before line → IsRefusedLine MayStop reason (after_lines before) line → GoesByRun MayStop reason line
  goes_by_run Grammar before line allows refused = refused
  goes_by_run NoMachine before line allows refused = refused allows.there
  goes_by_run (ClockBack by) before line allows refused = steady_back (after_lines before).greatest by (reading_of line) allows.steady refused.1
  goes_by_run (NoPacket number) before line allows refused = refused.1
  goes_by_run Up before line allows refused = not_down (after_lines before) (needs_down line) allows.fit.1 refused.2
  goes_by_run Down before line allows refused = arrives (after_lines before) line allows.fit.0 refused.2
  goes_by_run NothingToSync before line allows refused = refused.3
  goes_by_run StillNeeded before line allows refused = refused.3

  turned_by_run : (done : List Line) (text : List ℕ) (reason : Reason) (value : Line) → InRange value → text ≡ spelling value → Allows MayStop (reverse done) value → IsTurnedAway MayStop done text reason → GoesByRun MayStop reason value
  turned_by_run done text reason value in_range spelled allows away =
      let same : away.value ≡ value = spelling_injective away.value value away.in_place.0 in_range (sym away.spelled ∙ spelled) in
      goes_by_run reason (reverse done) value allows (subst (IsRefusedLine MayStop reason (after_lines (reverse done))) same away.why)

  refuses_by_run : (done : List Line) (line : List ℕ) (reason : Reason) (value : Line) → InRange value → line ≡ spelling value → Allows MayStop (reverse done) value → Refuses MayStop done line reason → GoesByRun MayStop reason value
  refuses_by_run done line Grammar value in_range spelled allows (inl many) = absurd (let few = allows.few in omega (arith, many, few, length-reverse done))
  refuses_by_run done line Grammar value in_range spelled allows (inr none) = absurd (none value (rw (length-reverse done) at allows.in_place) spelled)
  refuses_by_run done line NoMachine value in_range spelled allows why = turned_by_run done line NoMachine value in_range spelled allows why
  refuses_by_run done line (ClockBack by) value in_range spelled allows why = turned_by_run done line (ClockBack by) value in_range spelled allows why
  refuses_by_run done line (NoPacket number) value in_range spelled allows why = turned_by_run done line (NoPacket number) value in_range spelled allows why
  refuses_by_run done line Up value in_range spelled allows why = turned_by_run done line Up value in_range spelled allows why
  refuses_by_run done line Down value in_range spelled allows why = turned_by_run done line Down value in_range spelled allows why
  refuses_by_run done line NothingToSync value in_range spelled allows why = turned_by_run done line NothingToSync value in_range spelled allows why
  refuses_by_run done line StillNeeded value in_range spelled allows why = turned_by_run done line StillNeeded value in_range spelled allows why

  -- ---- a schedule each line of which may be done

  -- the next line is one of these that may be done as they tell, and is refused for what they don't tell
  record IsByRun (done : List Line) (others : List (List ℕ)) (reason : Reason) : Type 0 where
    line : Line
    rest : List (List ℕ)
    next : others ≡ spelling line ∷ rest
    allowed : Allows MayStop (reverse done) line
    by_run : GoesByRun MayStop reason line

  is_by_run : (text : List ℕ) (schedule done : List Line) (reason : Reason) (others : List (List ℕ)) → IsSchedule (lines_of text) schedule → AreDone MayStop schedule → IsRefusedAt MayStop done others reason → AreDone MayStop done
      → lines_of text ≡ map spelling done ++ others → IsByRun done others reason
  is_by_run text schedule done reason [] is are_done at all read =
      let same : length schedule ≡ 0 =
      sym (length-map schedule spelling) ∙ ap (λ (l : List (List ℕ)). length l) (sym is.spelled ∙ read ∙ append-nil (map spelling done)) ∙ length-map done spelling ∙ ap (λ (l : List Line). length l) at.0 in
      let some = is.headed in
      absurd (omega (arith, same, some))
  is_by_run text schedule done reason (line ∷ others) is are_done at all read =
      let found = behind schedule done line others (sym is.spelled ∙ read) (begins_in_range schedule is.begins) (done_in_range done all) in
      let allows = allowed_behind done found.rest found.value (subst (AreDone MayStop) found.whole are_done) in
      record {
        line = found.value;
        rest = others;
        next = ap (λ (l : List ℕ). l ∷ others) found.spelled;
        allowed = allows;
        by_run = refuses_by_run done line reason found.value found.in_range found.spelled allows at;
      }

  pub refused_by_run : (text : List ℕ) (schedule : List Line) (number : ℕ) (reason : Reason) → IsSchedule (lines_of text) schedule → AreDone MayStop schedule → IsReplayRefusal MayStop text number reason → IsRefusedByRun MayStop text
  refused_by_run text schedule number reason is are_done refused =
      let its = is_by_run text schedule refused.done reason refused.others is are_done refused.refused refused.are_done refused.read in
      record { number = number; reason = reason; refused = refused; line = its.line; rest = its.rest; next = its.next; allowed = its.allowed; by_run = its.by_run }

  -- so not for what they tell
  untold : (reason : Reason) (line : Line) → IsReasonByLines reason → GoesByRun MayStop reason line → ⊥
  untold Grammar line told by_run = by_run
  untold NoMachine line told by_run = by_run
  untold (ClockBack by) line told by_run = by_run
  untold (NoPacket number) line told by_run = told
  untold Up line told by_run = told
  untold Down line told by_run = told
  untold NothingToSync line told by_run = told
  untold StillNeeded line told by_run = told

  pub not_playable : (text : List ℕ) (number : ℕ) (reason : Reason) → IsReasonByLines reason → IsReplayRefusal MayStop text number reason → IsPlayable MayStop text → ⊥
  not_playable text number reason told refused input =
      let its = is_by_run text input.schedule refused.done reason refused.others input.read input.are_done refused.refused refused.are_done refused.read in
      untold reason its.line told its.by_run
