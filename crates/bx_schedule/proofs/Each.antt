-- Where all machines crash, each has its turn if none stopped; where all start again, each has it.
use Rattle.std.proofs.Common.{◌≡◌, ℕ, suc, ◌<◌, ◌||◌, Bool, true, false, not, List, [], ◌∷◌, ◌++◌, length, map, reverse, inl, inr, ◌⊎◌, refl, arith, ap, sym, subst, ◌∙◌, Option, Some, None}
use Rattle.std.proofs.lemmas.List.{reverse-append, reverse-reverse}
use Rattle.std.proofs.lemmas.List.Elements.{All-contains, Contains-push_cases}
use Rattle.std.specs.List.{AllPairs, Contains}
use Rattle.std.specs.Prelude.{if◌then◌else◌, is_some}
use Rattle.bx_base.specs.Actors.{ComesBefore}
use Rattle.bx_base.specs.declared.names.Actor.{Actor}
use Rattle.bx_cluster.specs.Steps.{Shown}
use Rattle.bx_driver.specs.Machines.{IsDown, IsUp}
use Rattle.bx_driver.specs.Steps.{EventStep}
use Rattle.bx_post.specs.Machines.{is_same}
use Rattle.bx_facts.specs.Machines.{put_at}
use Rattle.bx_world_events.specs.Refusals.{Seen}
use Rattle.bx_world_events.specs.declared.event.Event.{Event}
use Rattle.bx_world_events.specs.declared.event.Event.TheVariants.{Crash, Restart}
use Rattle.bx_schedule.specs.Doing.{AllCrash, AllRestart, AreTurns, turn_of}
use Rattle.bx_schedule.specs.Doing.IsTurn.{Does, Passes}
use Rattle.bx_schedule.specs.Places.{has_stopped}
use Rattle.bx_schedule.proofs.Crashing.{stays_down}
use Rattle.bx_schedule.proofs.Downs.{same_is}
use Rattle.bx_schedule.proofs.Holding.{first_in, none_in, rest_in}
use Rattle.bx_schedule.proofs.Placings.{turned_in}

-- ---- machines in turn are apart

abbrev AreApart : List Actor → Type 0
AreApart [] = Unit {0}
AreApart (who ∷ others) = (Contains others who → ⊥) × AreApart others

not_before_itself : (who : Actor) → ComesBefore who who → ⊥
not_before_itself who (inl less) = omega (arith, less)
not_before_itself who (inr (same, less)) = omega (arith, less)

rising_apart : (these : List Actor) → AllPairs ComesBefore these → AreApart these
rising_apart [] rise = tt
rising_apart (who ∷ others) rise = (λ inside. not_before_itself who (itself inside), rising_apart others (λ i j d less below. rise (suc i) (suc j) d (omega (arith, less)) (let more : suc j < length (who ∷ others) = omega (arith, below) in more)))
  where
    itself : Contains others who → ComesBefore who who
    itself (k, below, is) = subst (ComesBefore who) is (rise 0 (suc k) who (omega arith) (let more : suc k < length (who ∷ others) = omega (arith, below) in more))

push_apart : (these : List Actor) (who : Actor) → AreApart these → (Contains these who → ⊥) → AreApart (these ++ who ∷ [])
push_apart [] who apart not_in = (none_in who, tt)
push_apart (first ∷ rest) who apart not_in = (λ inside. by (Contains-push_cases rest who first inside), push_apart rest who apart.1 (λ inside. not_in (rest_in first who rest inside)))
  where
    by : Contains rest first ⊎ (who ≡ first) → ⊥
    by (inl inside) = apart.0 inside
    by (inr same) = not_in (subst (Contains (first ∷ rest)) (sym same) (first_in first rest))

back_in : (these : List Actor) (who : Actor) → Contains (reverse these) who → Contains these who
back_in these who inside = subst (λ l. Contains l who) (reverse-reverse these) (turned_in (reverse these) who inside)

turned_apart : (these : List Actor) → AreApart these → AreApart (reverse these)
turned_apart [] apart = tt
turned_apart (who ∷ others) apart =
    subst AreApart (sym (reverse-append (who ∷ []) others)) (push_apart (reverse others) who (turned_apart others apart.1) (λ inside. apart.0 (back_in others who inside)))

-- ---- a machine keeps until its turn what it was

-- the turn of another leaves it so, unless a machine stopped that was up
other_keeps : (down : Bool) (reading : ℕ) (at who : Actor) (stopped : Option Actor) (from to : Seen) → Shown (turn_of down reading at) stopped from to → is_same at who ≡ false → from.down who ≡ down → (down ≡ false → is_some stopped ≡ false) → to.down who ≡ down
other_keeps true reading at who stopped from to shown apart was up =
    shown.down who ∙ stays_down stopped (put_at at false from.down) who (ap (λ b. if b then false else from.down who) apart ∙ was)
other_keeps false reading at who None from to shown apart was up = shown.down who ∙ ap (λ b. if b then true else from.down who) apart ∙ was
other_keeps false reading at who (Some other) from to shown apart was up = let wrong : true ≡ false = up refl in cc

none_first : (a b : Bool) → (a || b) ≡ false → a ≡ false
none_first true b is = is
none_first false b is = refl

none_second : (a b : Bool) → (a || b) ≡ false → b ≡ false
none_second true b is = cc
none_second false b is = is

differs : (at who : Actor) (before : List Actor) → (Contains (at ∷ before) who → ⊥) → is_same at who ≡ false
differs at who before apart = by (is_same at who) refl
  where
    by : (b : Bool) → is_same at who ≡ b → is_same at who ≡ false
    by true same = absurd (apart (subst (Contains (at ∷ before)) (same_is at who same) (first_in at before)))
    by false other = other

turns_keep : (down : Bool) (reading : ℕ) (these : List Actor) (from to : Seen) (steps : List EventStep) (who : Actor) → AreTurns (turn_of down reading) down these from steps to → (Contains these who → ⊥) → from.down who ≡ down → (down ≡ false → has_stopped steps ≡ false) → to.down who ≡ down
turns_keep down reading [] from to steps who are apart was none = ap (λ (s : Seen). s.down who) are.1 ∙ was
turns_keep down reading (at ∷ before) from to steps who (middle, earlier, are, Does its step same is goes) apart was none =
    let none_now : (down ≡ false → has_stopped (step ∷ earlier) ≡ false) = subst (λ l. down ≡ false → has_stopped l ≡ false) same none in
    other_keeps down reading at who step.outcome.stopped middle to (subst (λ e. Shown e step.outcome.stopped middle to) is goes.shown) (differs at who before apart)
    (turns_keep down reading before from middle earlier who are (λ inside. apart (rest_in at who before inside)) was (λ up. none_second (is_some step.outcome.stopped) (has_stopped earlier) (none_now up)))
    (λ up. none_first (is_some step.outcome.stopped) (has_stopped earlier) (none_now up))
turns_keep down reading (at ∷ before) from to steps who (middle, earlier, are, Passes its same here) apart was none =
    ap (λ (s : Seen). s.down who) here ∙ turns_keep down reading before from middle earlier who are (λ inside. apart (rest_in at who before inside)) was (subst (λ l. down ≡ false → has_stopped l ≡ false) same none)

not_both : (b : Bool) → b ≡ not b → ⊥
not_both true is = cc
not_both false is = cc

turns_each : (down : Bool) (reading : ℕ) (these : List Actor) (from to : Seen) (steps : List EventStep) → AreTurns (turn_of down reading) down these from steps to → AreApart these → ((who : Actor) → Contains these who → from.down who ≡ down) → (down ≡ false → has_stopped steps ≡ false)
    → map (λ step. step.event) steps ≡ map (turn_of down reading) these
turns_each down reading [] from to steps are apart were none = ap (λ (l : List EventStep). map (λ step. step.event) l) are.0
turns_each down reading (at ∷ before) from to steps (middle, earlier, are, Does its step same is goes) apart were none =
    let none_now : (down ≡ false → has_stopped (step ∷ earlier) ≡ false) = subst (λ l. down ≡ false → has_stopped l ≡ false) same none in
    let rest = turns_each down reading before from middle earlier are apart.1 (λ who inside. were who (rest_in at who before inside)) (λ up. none_second (is_some step.outcome.stopped) (has_stopped earlier) (none_now up)) in
    ap (λ (l : List EventStep). map (λ one. one.event) l) same ∙ ap (λ (e : Event). e ∷ map (λ (one : EventStep). one.event) earlier) is ∙ ap (λ (l : List Event). turn_of down reading at ∷ l) rest
turns_each down reading (at ∷ before) from to steps (middle, earlier, are, Passes its same here) apart were none =
    let kept = turns_keep down reading before from middle earlier at are apart.0 (were at (first_in at before)) (subst (λ l. down ≡ false → has_stopped l ≡ false) same none) in
    absurd (not_both down (sym kept ∙ its))

-- ---- all of them

pub each_crashes : (from to : Seen) (steps : List EventStep) (all : AllCrash from steps to) → has_stopped steps ≡ false → map (λ step. step.event) steps ≡ map Crash (reverse all.machines)
each_crashes from to steps all none =
    turns_each false 0 (reverse all.machines) from to steps all.goes (turned_apart all.machines (rising_apart all.machines all.turn.rise))
    (λ who inside. (All-contains (IsUp from) all.machines who all.turn.each (back_in all.machines who inside)).1) (λ up. none)

pub each_restarts : (reading : ℕ) (from to : Seen) (steps : List EventStep) (all : AllRestart reading from steps to) → map (λ step. step.event) steps ≡ map (Restart reading) (reverse all.machines)
each_restarts reading from to steps all =
    turns_each true reading (reverse all.machines) from to steps all.goes (turned_apart all.machines (rising_apart all.machines all.turn.rise))
    (λ who inside. (All-contains (IsDown from) all.machines who all.turn.each (back_in all.machines who inside)).1) (λ up. cc)
