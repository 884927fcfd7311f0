-- A machine that is down by the lines is down, and no other is, unless one stopped by itself.
use Rattle.std.proofs.Common.{◌≡◌, ℕ, ◌&&◌, ◌||◌, not, Bool, true, false, List, [], ◌∷◌, reverse, inl, inr, ◌⊎◌, refl, ap, sym, ◌∙◌}
use Rattle.std.specs.FinSet as set
use Rattle.bx_base.specs.declared.names.Actor.{Actor}
use Rattle.bx_cluster.specs.Steps.{down_with}
use Rattle.bx_driver.specs.Lanes.{lane_cmp}
use Rattle.bx_driver.specs.Steps.{Along, IsDueNow, EventStep}
use Rattle.bx_post.specs.Machines.{is_same}
use Rattle.bx_script.specs.declared.line.Line.{Line}
use Rattle.bx_script.specs.declared.line.Line.TheVariants as lines
use Rattle.bx_world_events.specs.Causes.{IsThere}
use Rattle.bx_world_events.specs.Refusals.{Seen}
use Rattle.bx_world_events.specs.declared.event.Event.{Event}
use Rattle.bx_schedule.specs.Doing.{IsLine}
use Rattle.bx_schedule.specs.Doing.IsLine.{OneEvent, Runs, Crashes, Restarts, Holds, Frees, Drops}
use Rattle.bx_schedule.specs.Places.{has_stopped}
use Rattle.bx_schedule.specs.Placing.{is_down_by}
use Rattle.bx_schedule.proofs.Crashing.{stays_down}
use Rattle.bx_schedule.proofs.Downs.{crashes_all, crashes_keep, event_down}
use Rattle.bx_schedule.proofs.Dues.{by_due}
use Rattle.bx_schedule.proofs.Placings.{line_moves, turned_in}

or_mono : (s a b : Bool) → (a ≡ true → b ≡ true) → (s || a) ≡ true → (s || b) ≡ true
or_mono true a b goes is = refl
or_mono false a b goes is = goes is

and_mono : (s a b : Bool) → (a ≡ true → b ≡ true) → (not s && a) ≡ true → (not s && b) ≡ true
and_mono true a b goes is = is
and_mono false a b goes is = goes is

more_down : (line : Line) (who : Actor) (a b : Bool) → (a ≡ true → b ≡ true) → is_down_by line who a ≡ true → is_down_by line who b ≡ true
more_down (lines.Heading volume nodes devices areas) who a b goes is = goes is
more_down (lines.Call reading node client datagram) who a b goes is = goes is
more_down (lines.Run reading limit) who a b goes is = goes is
more_down (lines.Tick reading machine) who a b goes is = goes is
more_down (lines.Deliver reading number) who a b goes is = goes is
more_down (lines.Next reading from to) who a b goes is = goes is
more_down (lines.Sync machine) who a b goes is = goes is
more_down (lines.Hold from to kind) who a b goes is = goes is
more_down (lines.Free from to kind) who a b goes is = goes is
more_down (lines.Drop from to kind) who a b goes is = goes is
more_down (lines.Crash machine noise) who a b goes is = or_mono (is_same machine who) a b goes is
more_down (lines.CrashAll noise) who a b goes is = refl
more_down (lines.Restart reading machine) who a b goes is = and_mono (is_same machine who) a b goes is
more_down (lines.RestartAll reading) who a b goes is = is
more_down (lines.Blank machine) who a b goes is = goes is

run_keeps : (held : set.FinSet lane_cmp) (reading : ℕ) (from to : Seen) (steps : List EventStep) (who : Actor) → Along (IsDueNow held reading) from steps to → from.down who ≡ true → to.down who ≡ true
run_keeps held reading from to [] who along was = ap (λ (s : Seen). s.down who) along ∙ was
run_keeps held reading from to (step ∷ earlier) who (middle, along, due, goes) was =
    let same : down_with step.event middle.down who ≡ middle.down who = by_due (λ e. down_with e middle.down who ≡ middle.down who) held reading middle step.event (λ number. refl) (λ at. refl) due in
    goes.shown.down who ∙ stays_down step.outcome.stopped (down_with step.event middle.down) who (same ∙ run_keeps held reading from middle earlier who along was)

-- what is down by a line, over what was down at most, is down behind it
pub at_least : (held : set.FinSet lane_cmp) (line : Line) (from to : Seen) (steps : List EventStep) (who : Actor) (was : Bool) → IsLine held line from steps to → IsThere from who → (was ≡ true → from.down who ≡ true) → is_down_by line who was ≡ true → to.down who ≡ true
at_least held line from to steps who was (OneEvent event is one) there goes down =
    one.goes.shown.down who
    ∙ stays_down one.step.outcome.stopped (down_with one.step.event from.down) who (ap (λ (e : Event). down_with e from.down who) one.is ∙ event_down from line event from.down who is ∙ more_down line who was (from.down who) goes down)
at_least held line from to steps who was (Runs reading limit same run) there goes down =
    run_keeps held reading from to steps who run.along (goes (sym (ap (λ l. is_down_by l who was) same) ∙ down))
at_least held line from to steps who was (Crashes noise same all) there goes down = by (from.down who) refl
  where
    by : (b : Bool) → from.down who ≡ b → to.down who ≡ true
    by true is = crashes_keep (reverse all.machines) from to steps who all.goes is
    by false is = crashes_all (reverse all.machines) from to steps who all.goes (turned_in all.machines who (all.turn.every who (there, is)))
at_least held line from to steps who was (Restarts reading same all) there goes down = let none : false ≡ true = sym (ap (λ l. is_down_by l who was) same) ∙ down in cc
at_least held line from to steps who was (Holds lane same none) there goes down = ap (λ (s : Seen). s.down who) none.1 ∙ goes (sym (ap (λ l. is_down_by l who was) same) ∙ down)
at_least held line from to steps who was (Frees lane same none) there goes down = ap (λ (s : Seen). s.down who) none.1 ∙ goes (sym (ap (λ l. is_down_by l who was) same) ∙ down)
at_least held line from to steps who was (Drops lane same none) there goes down = ap (λ (s : Seen). s.down who) none.1 ∙ goes (sym (ap (λ l. is_down_by l who was) same) ∙ down)

-- and no other is, unless a machine stopped
pub at_most : (MayStop : Type 0) (held : set.FinSet lane_cmp) (line : Line) (from to : Seen) (steps : List EventStep) (who : Actor) (was : Bool) → IsLine held line from steps to → IsThere from who → (has_stopped steps ≡ true → MayStop)
    → (from.down who ≡ true → (was ≡ true) ⊎ MayStop) → to.down who ≡ true → (is_down_by line who was ≡ true) ⊎ MayStop
at_most MayStop held line from to steps who was is there may goes down = by (line_moves MayStop [] from to steps may held line who is there)
  where
    test : (b : Bool) → from.down who ≡ b → is_down_by line who b ≡ true → (is_down_by line who was ≡ true) ⊎ MayStop
    test true on its = own (goes on)
      where
        own : (was ≡ true) ⊎ MayStop → (is_down_by line who was ≡ true) ⊎ MayStop
        own (inl was_on) = inl (more_down line who true was (λ _. was_on) its)
        own (inr stops) = inr stops
    test false off its = inl (more_down line who false was (λ no. cc) its)

    by : (to.down who ≡ is_down_by line who (from.down who)) ⊎ MayStop → (is_down_by line who was ≡ true) ⊎ MayStop
    by (inr stops) = inr stops
    by (inl moves) = test (from.down who) refl (sym moves ∙ down)
