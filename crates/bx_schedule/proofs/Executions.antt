-- What an execution holds a line to.
use Rattle.std.proofs.Common.{◌≡◌, ◌||◌, ℕ, Bool, true, List, [], ◌∷◌, length, inl, inr, ◌⊎◌, refl, ap, sym, subst, ◌∙◌, None}
use Rattle.std.proofs.lemmas.Cmp.{eq_by_cmp_equiv}
use Rattle.std.specs.FinSet as set
use Rattle.bx_base.specs.declared.names.Actor.{Actor}
use Rattle.bx_cluster.specs.Steps.{part_at}
use Rattle.bx_cluster.specs.declared.outcome.Outcome.{Outcome}
use Rattle.bx_driver.proofs.Sets.{lane_total}
use Rattle.bx_driver.specs.Lanes.{lane_cmp}
use Rattle.bx_driver.specs.Runs.{IsDue}
use Rattle.bx_driver.specs.Steps.{Along, EventStep, IsDueNow, IsOne, IsRun, parts_with}
use Rattle.bx_driver.specs.declared.lane.Lane.{Lane}
use Rattle.bx_history.specs.Parts.{Part}
use Rattle.bx_script.specs.declared.line.Line.{Line}
use Rattle.bx_script.specs.declared.line.Line.TheVariants as lines
use Rattle.bx_world_events.specs.Refusals.{Seen}
use Rattle.bx_world_events.specs.declared.event.Event.{Event}
use Rattle.bx_world_events.specs.declared.event.Event.TheVariants.{Deliver}
use Rattle.bx_schedule.specs.Doing.{IsLine}
use Rattle.bx_schedule.specs.Doing.IsLine.{OneEvent, Runs, Crashes, Restarts, Holds, Frees, Drops}
use Rattle.bx_schedule.specs.Execution.{Executes, Snapshot}
use Rattle.bx_schedule.specs.Refusing.{IsEventOf}
use Rattle.bx_schedule.proofs.Placings.{as_many_parts}

no_steps : (steps : List EventStep) → [] ≡ parts_with steps [] → steps ≡ []
no_steps [] is = refl
no_steps (step ∷ earlier) is = cc

-- ---- a run

a_run : (held : set.FinSet lane_cmp) (line : Line) (reading limit : ℕ) (from to : Seen) (steps : List EventStep) → line ≡ lines.Run reading limit → IsLine held line from steps to → IsRun held reading limit from steps to
a_run held line reading limit from to steps same (OneEvent event is one) = let no : IsEventOf from (lines.Run reading limit) event = subst (λ l. IsEventOf from l event) same is in absurd no
a_run held line reading limit from to steps same (Runs its most line_is run) =
    let e : lines.Run its most ≡ lines.Run reading limit = sym line_is ∙ same in
    let one_reading : its ≡ reading = cc in
    let one_limit : most ≡ limit = cc in
    subst (λ r. IsRun held r limit from steps to) one_reading (subst (λ l. IsRun held its l from steps to) one_limit run)
a_run held line reading limit from to steps same (Crashes noise line_is all) = let e : lines.CrashAll noise ≡ lines.Run reading limit = sym line_is ∙ same in cc
a_run held line reading limit from to steps same (Restarts its line_is all) = let e : lines.RestartAll its ≡ lines.Run reading limit = sym line_is ∙ same in cc
a_run held line reading limit from to steps same (Holds lane line_is are) = let e : lines.Hold lane.from lane.to lane.kind ≡ lines.Run reading limit = sym line_is ∙ same in cc
a_run held line reading limit from to steps same (Frees lane line_is are) = let e : lines.Free lane.from lane.to lane.kind ≡ lines.Run reading limit = sym line_is ∙ same in cc
a_run held line reading limit from to steps same (Drops lane line_is are) = let e : lines.Drop lane.from lane.to lane.kind ≡ lines.Run reading limit = sym line_is ∙ same in cc

module _ (MayStop : Type 0) (reading limit : ℕ) (from to : Snapshot) where
  pub goes_on : (parts : List Part) → Executes MayStop (lines.Run reading limit) parts from to → (length parts ≡ limit) ⊎ IsDue to.seen from.held reading None
  goes_on parts executes = by (a_run from.held (lines.Run reading limit) reading limit from.seen to.seen executes.steps refl executes.is).over
    where
      by : (length executes.steps ≡ limit) ⊎ IsDue to.seen from.held reading None → (length parts ≡ limit) ⊎ IsDue to.seen from.held reading None
      by (inl full) = inl (ap (λ (l : List Part). length l) executes.parts_are ∙ as_many_parts executes.steps ∙ full)
      by (inr none) = inr none

  unmoved : (steps : List EventStep) → Along (IsDueNow from.held reading) from.seen steps to.seen → steps ≡ [] → to.seen ≡ from.seen
  unmoved [] along none = along
  unmoved (step ∷ earlier) along none = cc

  pub rests : Executes MayStop (lines.Run reading limit) [] from to → (limit ≡ 0) ⊎ IsDue from.seen from.held reading None
  rests executes = by (goes_on [] executes)
    where
      run : IsRun from.held reading limit from.seen executes.steps to.seen
      run = a_run from.held (lines.Run reading limit) reading limit from.seen to.seen executes.steps refl executes.is

      by : (length {A = Part} [] ≡ limit) ⊎ IsDue to.seen from.held reading None → (limit ≡ 0) ⊎ IsDue from.seen from.held reading None
      by (inl full) = inl (sym full)
      by (inr none) = inr (subst (λ (s : Seen). IsDue s from.held reading None) (unmoved executes.steps run.along (no_steps executes.steps executes.parts_are)) none)

-- ---- a delivery

one_delivery : (held : set.FinSet lane_cmp) (line : Line) (reading number : ℕ) (from to : Seen) (steps : List EventStep) → line ≡ lines.Deliver reading number → IsLine held line from steps to → IsOne (Deliver reading number) from steps to
one_delivery held line reading number from to steps same (OneEvent event is one) =
    let its : event ≡ Deliver reading number = subst (λ l. IsEventOf from l event) same is in
    subst (λ (e : Event). IsOne e from steps to) its one
one_delivery held line reading number from to steps same (Runs its most line_is run) = let e : lines.Run its most ≡ lines.Deliver reading number = sym line_is ∙ same in cc
one_delivery held line reading number from to steps same (Crashes noise line_is all) = let e : lines.CrashAll noise ≡ lines.Deliver reading number = sym line_is ∙ same in cc
one_delivery held line reading number from to steps same (Restarts its line_is all) = let e : lines.RestartAll its ≡ lines.Deliver reading number = sym line_is ∙ same in cc
one_delivery held line reading number from to steps same (Holds lane line_is are) = let e : lines.Hold lane.from lane.to lane.kind ≡ lines.Deliver reading number = sym line_is ∙ same in cc
one_delivery held line reading number from to steps same (Frees lane line_is are) = let e : lines.Free lane.from lane.to lane.kind ≡ lines.Deliver reading number = sym line_is ∙ same in cc
one_delivery held line reading number from to steps same (Drops lane line_is are) = let e : lines.Drop lane.from lane.to lane.kind ≡ lines.Deliver reading number = sym line_is ∙ same in cc

pub delivers : (MayStop : Type 0) (reading number : ℕ) (parts : List Part) (from to : Snapshot) → Executes MayStop (lines.Deliver reading number) parts from to → (outcome : Outcome) × (parts ≡ part_at (Deliver reading number) outcome ∷ [])
delivers MayStop reading number parts from to executes =
    let one = one_delivery from.held (lines.Deliver reading number) reading number from.seen to.seen executes.steps refl executes.is in (
      one.step.outcome,
      executes.parts_are ∙ ap (λ (l : List EventStep). parts_with l []) one.alone ∙ ap (λ (e : Event). part_at e one.step.outcome ∷ []) one.is,
    )

-- ---- a lane that is held

pub holds : (MayStop : Type 0) (a b : Actor) (kind : ℕ) (parts : List Part) (from to : Snapshot) → Executes MayStop (lines.Hold a b kind) parts from to → set.contains to.held (record { from = a; to = b; kind = kind }) ≡ true
holds MayStop a b kind parts from to executes =
    let lane : Lane = record { from = a; to = b; kind = kind } in
    ap (λ (s : set.FinSet lane_cmp). set.contains s lane) executes.held ∙ set.contains-insert lane_total from.held lane lane ∙ ap (λ (t : Bool). t || set.contains from.held lane) ((eq_by_cmp_equiv lane_total).refl lane)
