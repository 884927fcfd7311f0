-- Which machines are down behind the steps of a line.
use Rattle.std.proofs.Common.{◌≡◌, ℕ, ◌&&◌, ◌||◌, not, Bool, true, false, List, [], ◌∷◌, inl, inr, ◌⊎◌, refl, arith, ap, sym, subst, ◌∙◌, Option, Some, None}
use Rattle.std.proofs.lemmas.Bool.Decides.{nat_tests}
use Rattle.std.specs.FinSet as set
use Rattle.std.specs.List.{Contains}
use Rattle.std.specs.Prelude.{if◌then◌else◌, is_some}
use Rattle.bx_base.specs.declared.names.Actor.{Actor}
use Rattle.bx_base.specs.declared.names.Actor.TheVariants.{Node, Replica, Server, Member}
use Rattle.bx_cluster.specs.Steps.{Shown, arrives_in, down_with}
use Rattle.bx_driver.specs.Lanes.{lane_cmp}
use Rattle.bx_driver.specs.Steps.{Along, IsDueNow, EventStep}
use Rattle.bx_facts.specs.Machines.{put_at}
use Rattle.bx_history.specs.Parts.{Arrival}
use Rattle.bx_post.specs.Machines.{is_same}
use Rattle.bx_script.specs.declared.line.Line.{Line}
use Rattle.bx_script.specs.declared.line.Line.TheVariants as lines
use Rattle.bx_world_events.specs.Refusals.{Seen}
use Rattle.bx_world_events.specs.declared.event.Event.{Event}
use Rattle.bx_world_events.specs.declared.event.Event.TheVariants.{Call, Tick, Deliver, Sync, Crash, Restart, Blank}
use Rattle.bx_schedule.specs.Doing.{AreTurns}
use Rattle.bx_schedule.specs.Doing.IsTurn.{Does, Passes}
use Rattle.bx_schedule.specs.Places.{HasAsMany, has_stopped}
use Rattle.bx_schedule.specs.Placing.{is_down_by}
use Rattle.bx_schedule.specs.Refusing.{IsEventOf}
use Rattle.bx_schedule.proofs.Crashing.{stays_down}
use Rattle.bx_schedule.proofs.Dues.{by_due}
use Rattle.bx_schedule.proofs.Holding.{in_cases, none_in}
use Rattle.bx_schedule.proofs.Parting.{HasCrash}
use Rattle.bx_schedule.proofs.Turning.{many_both}

-- ---- one step

-- by the event alone, or a machine stopped
pub shown_down : (event : Event) (stopped : Option Actor) (from to : Seen) (who : Actor) → Shown event stopped from to → (to.down who ≡ down_with event from.down who) ⊎ (is_some stopped ≡ true)
shown_down event None from to who shown = inl (shown.down who)
shown_down event (Some other) from to who shown = inr refl

if_or : (b was : Bool) → (if b then true else was) ≡ (b || was)
if_or true was = refl
if_or false was = refl

if_and : (b was : Bool) → (if b then false else was) ≡ (not b && was)
if_and true was = refl
if_and false was = refl

call_keeps : (event : Event) (arrival : Arrival) (down : Actor → Bool) (who : Actor) → arrives_in event ≡ Some arrival → down_with event down who ≡ down who
call_keeps (Call reading other client bytes) arrival down who is = refl
call_keeps (Tick reading at) arrival down who is = cc
call_keeps (Deliver reading number) arrival down who is = cc
call_keeps (Sync at) arrival down who is = cc
call_keeps (Crash at) arrival down who is = cc
call_keeps (Restart reading at) arrival down who is = cc
call_keeps (Blank at) arrival down who is = cc

pub event_down : (seen : Seen) (line : Line) (event : Event) (down : Actor → Bool) (who : Actor) → IsEventOf seen line event → down_with event down who ≡ is_down_by line who (down who)
event_down seen (lines.Call reading other client datagram) event down who is = call_keeps event _ down who is.1
event_down seen (lines.Tick reading machine) event down who is = ap (λ (e : Event). down_with e down who) is
event_down seen (lines.Deliver reading number) event down who is = ap (λ (e : Event). down_with e down who) is
event_down seen (lines.Next reading from to) event down who is = ap (λ (e : Event). down_with e down who) is.1
event_down seen (lines.Sync machine) event down who is = ap (λ (e : Event). down_with e down who) is
event_down seen (lines.Crash machine noise) event down who is = ap (λ (e : Event). down_with e down who) is ∙ if_or (is_same machine who) (down who)
event_down seen (lines.Restart reading machine) event down who is = ap (λ (e : Event). down_with e down who) is ∙ if_and (is_same machine who) (down who)
event_down seen (lines.Blank machine) event down who is = ap (λ (e : Event). down_with e down who) is
event_down seen (lines.Heading volume nodes devices areas) event down who is = absurd is
event_down seen (lines.Run reading limit) event down who is = absurd is
event_down seen (lines.Hold from to kind) event down who is = absurd is
event_down seen (lines.Free from to kind) event down who is = absurd is
event_down seen (lines.Drop from to kind) event down who is = absurd is
event_down seen (lines.CrashAll noise) event down who is = absurd is
event_down seen (lines.RestartAll reading) event down who is = absurd is

or_left : (a b : Bool) → a ≡ true → (a || b) ≡ true
or_left a b is = ap (λ x. x || b) is

or_right : (a b : Bool) → b ≡ true → (a || b) ≡ true
or_right true b is = refl
or_right false b is = is

-- ---- a run

pub run_down : (held : set.FinSet lane_cmp) (reading : ℕ) (from to : Seen) (steps : List EventStep) (who : Actor) → Along (IsDueNow held reading) from steps to → (to.down who ≡ from.down who) ⊎ (has_stopped steps ≡ true)
run_down held reading from to [] who along = inl (ap (λ (s : Seen). s.down who) along)
run_down held reading from to (step ∷ earlier) who (middle, along, due, goes) = by (shown_down step.event step.outcome.stopped middle to who goes.shown) (run_down held reading from middle earlier who along)
  where
    same : down_with step.event middle.down who ≡ middle.down who
    same = by_due (λ e. down_with e middle.down who ≡ middle.down who) held reading middle step.event (λ number. refl) (λ at. refl) due

    by : (to.down who ≡ down_with step.event middle.down who) ⊎ (is_some step.outcome.stopped ≡ true) → (middle.down who ≡ from.down who) ⊎ (has_stopped earlier ≡ true) → (to.down who ≡ from.down who) ⊎ (has_stopped (step ∷ earlier) ≡ true)
    by (inr stopped) were = inr (or_left (is_some step.outcome.stopped) (has_stopped earlier) stopped)
    by (inl is) (inr stopped) = inr (or_right (is_some step.outcome.stopped) (has_stopped earlier) stopped)
    by (inl is) (inl were) = inl (is ∙ same ∙ were)

-- ---- all machines

pub turns_many : (event : Actor → Event) (down : Bool) (these : List Actor) (from to : Seen) (steps : List EventStep) → AreTurns event down these from steps to → HasAsMany from to
turns_many event down [] from to steps are = subst (HasAsMany from) (sym are.1) (record { nodes = refl; devices = refl })
turns_many event down (who ∷ before) from to steps (middle, earlier, are, Does its step same is goes) =
    many_both from middle to (turns_many event down before from middle earlier are) (record { nodes = goes.shown.nodes; devices = goes.shown.devices })
turns_many event down (who ∷ before) from to steps (middle, earlier, are, Passes its same here) = subst (HasAsMany from) (sym here) (turns_many event down before from middle earlier are)

pub same_is : (a b : Actor) → is_same a b ≡ true → a ≡ b
same_is (Node n) (Node m) is = let e : n ≡ m = grind (arith, nat_tests) in ap Node e
same_is (Node n) (Replica m) is = cc
same_is (Node n) (Server m) is = cc
same_is (Node n) (Member m) is = cc
same_is (Replica n) (Node m) is = cc
same_is (Replica n) (Replica m) is = let e : n ≡ m = grind (arith, nat_tests) in ap Replica e
same_is (Replica n) (Server m) is = cc
same_is (Replica n) (Member m) is = cc
same_is (Server n) (Node m) is = cc
same_is (Server n) (Replica m) is = cc
same_is (Server n) (Server m) is = let e : n ≡ m = grind (arith, nat_tests) in ap Server e
same_is (Server n) (Member m) is = cc
same_is (Member n) (Node m) is = cc
same_is (Member n) (Replica m) is = cc
same_is (Member n) (Server m) is = cc
same_is (Member n) (Member m) is = let e : n ≡ m = grind (arith, nat_tests) in ap Member e

same_self : (who : Actor) → is_same who who ≡ true
same_self (Node n) = grind (arith, nat_tests)
same_self (Replica n) = grind (arith, nat_tests)
same_self (Server n) = grind (arith, nat_tests)
same_self (Member n) = grind (arith, nat_tests)

-- a crash leaves a machine down that was, and its own
crash_keeps : (at who : Actor) (down : Actor → Bool) → down who ≡ true → (if is_same at who then true else down who) ≡ true
crash_keeps at who down is = if_or (is_same at who) (down who) ∙ or_right (is_same at who) (down who) is

crash_shown : (at who : Actor) (stopped : Option Actor) (from to : Seen) → Shown (Crash at) stopped from to → (from.down who ≡ true) ⊎ (at ≡ who) → to.down who ≡ true
crash_shown at who stopped from to shown (inl was) = shown.down who ∙ stays_down stopped (put_at at true from.down) who (crash_keeps at who from.down was)
crash_shown at who stopped from to shown (inr own) =
    let it : is_same at who ≡ true = ap (is_same at) (sym own) ∙ same_self at in
    shown.down who ∙ stays_down stopped (put_at at true from.down) who (ap (λ b. if b then true else from.down who) it)

-- a restart leaves a machine up that was, and its own, or a machine stopped
restart_shown : (reading : ℕ) (at who : Actor) (stopped : Option Actor) (from to : Seen) → Shown (Restart reading at) stopped from to → (from.down who ≡ false) ⊎ (at ≡ who) → (to.down who ≡ false) ⊎ (is_some stopped ≡ true)
restart_shown reading at who (Some other) from to shown were = inr refl
restart_shown reading at who None from to shown (inl was) = inl (shown.down who ∙ by (is_same at who))
  where
    by : (b : Bool) → (if b then false else from.down who) ≡ false
    by true = refl
    by false = was
restart_shown reading at who None from to shown (inr own) =
    let it : is_same at who ≡ true = ap (is_same at) (sym own) ∙ same_self at in
    inl (shown.down who ∙ ap (λ b. if b then false else from.down who) it)

-- a machine that was down stays so where all crash
pub crashes_keep : (these : List Actor) (from to : Seen) (steps : List EventStep) (who : Actor) → AreTurns Crash false these from steps to → from.down who ≡ true → to.down who ≡ true
crashes_keep [] from to steps who are was = ap (λ (s : Seen). s.down who) are.1 ∙ was
crashes_keep (at ∷ before) from to steps who (middle, earlier, are, Does its step same is goes) was =
    crash_shown at who step.outcome.stopped middle to (subst (λ e. Shown e step.outcome.stopped middle to) is goes.shown) (inl (crashes_keep before from middle earlier who are was))
crashes_keep (at ∷ before) from to steps who (middle, earlier, are, Passes its same here) was = ap (λ (s : Seen). s.down who) here ∙ crashes_keep before from middle earlier who are was

-- each that had its turn is down
pub crashes_all : (these : List Actor) (from to : Seen) (steps : List EventStep) (who : Actor) → AreTurns Crash false these from steps to → Contains these who → to.down who ≡ true
crashes_all [] from to steps who are inside = absurd (none_in who inside)
crashes_all (at ∷ before) from to steps who (middle, earlier, are, Does its step same is goes) inside =
    crash_shown at who step.outcome.stopped middle to (subst (λ e. Shown e step.outcome.stopped middle to) is goes.shown) (by (λ rest. crashes_all before from middle earlier who are rest) (in_cases at who before inside))
  where
    by : (Contains before who → middle.down who ≡ true) → (at ≡ who) ⊎ Contains before who → (middle.down who ≡ true) ⊎ (at ≡ who)
    by recur (inl own) = inr own
    by recur (inr rest) = inl (recur rest)
crashes_all (at ∷ before) from to steps who (middle, earlier, are, Passes its same here) inside = ap (λ (s : Seen). s.down who) here ∙ by (λ rest. crashes_all before from middle earlier who are rest) (in_cases at who before inside)
  where
    by : (Contains before who → middle.down who ≡ true) → (at ≡ who) ⊎ Contains before who → middle.down who ≡ true
    by recur (inl own) = ap middle.down (sym own) ∙ its
    by recur (inr rest) = recur rest

-- one that is down recur was so, or crashed, or a machine stopped
pub crashes_why : (these : List Actor) (from to : Seen) (steps : List EventStep) (who : Actor) → AreTurns Crash false these from steps to → to.down who ≡ true → (from.down who ≡ true) ⊎ (HasCrash steps who ⊎ (has_stopped steps ≡ true))
crashes_why [] from to steps who are now = inl (sym (ap (λ (s : Seen). s.down who) are.1) ∙ now)
crashes_why (at ∷ before) from to steps who (middle, earlier, are, Does its step same is goes) now =
    subst (λ l. (from.down who ≡ true) ⊎ (HasCrash l who ⊎ (has_stopped l ≡ true))) (sym same)
    (by (λ down. crashes_why before from middle earlier who are down) (shown_down (Crash at) step.outcome.stopped middle to who (subst (λ e. Shown e step.outcome.stopped middle to) is goes.shown)))
  where
    Why : List EventStep → Type 0
    Why l = (from.down who ≡ true) ⊎ (HasCrash l who ⊎ (has_stopped l ≡ true))

    later : Why earlier → Why (step ∷ earlier)
    later (inl was) = inl was
    later (inr (inl crash)) = inr (inl (inr crash))
    later (inr (inr stopped)) = inr (inr (or_right (is_some step.outcome.stopped) (has_stopped earlier) stopped))

    test : (middle.down who ≡ true → Why earlier) → (b : Bool) → is_same at who ≡ b → (if b then true else middle.down who) ≡ true → Why (step ∷ earlier)
    test recur true own down = inr (inl (inl (is ∙ ap Crash (same_is at who own))))
    test recur false other down = later (recur down)

    by : (middle.down who ≡ true → Why earlier) → (to.down who ≡ (if is_same at who then true else middle.down who)) ⊎ (is_some step.outcome.stopped ≡ true) → Why (step ∷ earlier)
    by recur (inr stopped) = inr (inr (or_left (is_some step.outcome.stopped) (has_stopped earlier) stopped))
    by recur (inl down) = test recur (is_same at who) refl (sym down ∙ now)
crashes_why (at ∷ before) from to steps who (middle, earlier, are, Passes its same here) now =
    subst (λ l. (from.down who ≡ true) ⊎ (HasCrash l who ⊎ (has_stopped l ≡ true))) (sym same) (crashes_why before from middle earlier who are (sym (ap (λ (s : Seen). s.down who) here) ∙ now))

-- a machine that was up stays so where all start again, and each that had its turn is; or a machine stopped
pub restarts_up : (reading : ℕ) (these : List Actor) (from to : Seen) (steps : List EventStep) (who : Actor) → AreTurns (Restart reading) true these from steps to → (from.down who ≡ false) ⊎ Contains these who → (to.down who ≡ false) ⊎ (has_stopped steps ≡ true)
restarts_up reading [] from to steps who are (inl was) = inl (ap (λ (s : Seen). s.down who) are.1 ∙ was)
restarts_up reading [] from to steps who are (inr inside) = absurd (none_in who inside)
restarts_up reading (at ∷ before) from to steps who (middle, earlier, are, Does its step same is goes) were =
    subst (λ l. (to.down who ≡ false) ⊎ (has_stopped l ≡ true)) (sym same) (by (mid (λ up. restarts_up reading before from middle earlier who are up) were))
  where
    Up : Seen → List EventStep → Type 0
    Up s l = (s.down who ≡ false) ⊎ (has_stopped l ≡ true)

    mid : ((from.down who ≡ false) ⊎ Contains before who → Up middle earlier) → (from.down who ≡ false) ⊎ Contains (at ∷ before) who → Up middle earlier ⊎ (at ≡ who)
    mid recur (inl was) = inl (recur (inl was))
    mid recur (inr inside) = cases (in_cases at who before inside)
      where
        cases : (at ≡ who) ⊎ Contains before who → Up middle earlier ⊎ (at ≡ who)
        cases (inl own) = inr own
        cases (inr rest) = inl (recur (inr rest))

    now : (middle.down who ≡ false) ⊎ (at ≡ who) → Up to (step ∷ earlier)
    now up = turned (restart_shown reading at who step.outcome.stopped middle to (subst (λ e. Shown e step.outcome.stopped middle to) is goes.shown) up)
      where
        turned : (to.down who ≡ false) ⊎ (is_some step.outcome.stopped ≡ true) → Up to (step ∷ earlier)
        turned (inl is_up) = inl is_up
        turned (inr stopped) = inr (or_left (is_some step.outcome.stopped) (has_stopped earlier) stopped)

    by : Up middle earlier ⊎ (at ≡ who) → Up to (step ∷ earlier)
    by (inr own) = now (inr own)
    by (inl (inl up)) = now (inl up)
    by (inl (inr stopped)) = inr (or_right (is_some step.outcome.stopped) (has_stopped earlier) stopped)
restarts_up reading (at ∷ before) from to steps who (middle, earlier, are, Passes its same here) were =
    subst (λ l. (to.down who ≡ false) ⊎ (has_stopped l ≡ true)) (sym same) (subst (λ (s : Seen). (s.down who ≡ false) ⊎ (has_stopped earlier ≡ true)) (sym here) (mid (λ up. restarts_up reading before from middle earlier who are up) were))
  where
    mid : ((from.down who ≡ false) ⊎ Contains before who → (middle.down who ≡ false) ⊎ (has_stopped earlier ≡ true)) → (from.down who ≡ false) ⊎ Contains (at ∷ before) who → (middle.down who ≡ false) ⊎ (has_stopped earlier ≡ true)
    mid recur (inl was) = recur (inl was)
    mid recur (inr inside) = cases (in_cases at who before inside)
      where
        cases : (at ≡ who) ⊎ Contains before who → (middle.down who ≡ false) ⊎ (has_stopped earlier ≡ true)
        cases (inl own) = inl (ap middle.down (sym own) ∙ its)
        cases (inr rest) = recur (inr rest)
