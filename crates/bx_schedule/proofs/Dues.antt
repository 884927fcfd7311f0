-- What is due, one event after the other.
use Rattle.std.proofs.Common.{◌≡◌, ℕ, ◌+◌, ◌≤◌, List, ◌∷◌, length, max, inl, inr, ◌⊎◌, refl, arith, sym, subst, ◌∙◌, None}
use Rattle.std.specs.FinSet as set
use Rattle.std.specs.Prelude.{IfSome}
use Rattle.bx_base.specs.declared.names.Actor.{Actor}
use Rattle.bx_cluster.specs.Steps.{Counted, IsMoment}
use Rattle.bx_driver.specs.Lanes.{lane_cmp}
use Rattle.bx_driver.specs.Runs.{IsDue}
use Rattle.bx_driver.specs.Runs.IsDue.{Arrives, Syncs, Rests}
use Rattle.bx_driver.specs.Steps.{Along, IsDueNow, IsRun, IsStep, EventStep}
use Rattle.bx_world_events.specs.Events.{reading_of}
use Rattle.bx_world_events.specs.Refusals.{Seen, clock_back}
use Rattle.bx_world_events.specs.declared.event.Event.{Event}
use Rattle.bx_world_events.specs.declared.event.Event.TheVariants.{Deliver, Sync}
use Rattle.bx_schedule.specs.Places.{IsWithin}
use Rattle.bx_schedule.proofs.Allowing.{not_back}

-- what is due is a delivery or a sync
pub by_due : (P : Event → Type 0) (held : set.FinSet lane_cmp) (reading : ℕ) (seen : Seen) (event : Event) → ((number : ℕ) → P (Deliver reading number)) → ((at : Actor) → P (Sync at)) → IsDueNow held reading seen event → P event
by_due P held reading seen event one two (Arrives number is least) = let e : Deliver reading number ≡ event = cc in subst P e (one number)
by_due P held reading seen event one two (Syncs at is none low) = let e : Sync at ≡ event = cc in subst P e (two at)
by_due P held reading seen event one two (Rests is none idle) = cc

pub due_at : (held : set.FinSet lane_cmp) (reading : ℕ) (seen : Seen) (event : Event) → IsDueNow held reading seen event → IfSome (reading_of event) (λ one. one ≡ reading)
due_at held reading seen event due = by_due (λ its. IfSome (reading_of its) (λ one. one ≡ reading)) held reading seen event (λ number. refl) (λ at. tt) due

pub due_counts : (held : set.FinSet lane_cmp) (reading : ℕ) (seen : Seen) (event : Event) (old new : ℕ) → IsDueNow held reading seen event → Counted event old new → new ≡ old
due_counts held reading seen event old new due = by_due (λ its. Counted its old new → new ≡ old) held reading seen event (λ number is. is) (λ at is. is) due

pub due_moment : (held : set.FinSet lane_cmp) (reading : ℕ) (seen : Seen) (event : Event) → reading ≤ 4294967295999 → IsDueNow held reading seen event → IsMoment event
due_moment held reading seen event time due = by_due IsMoment held reading seen event (λ number. time) (λ at. tt) due

pub due_within : (held : set.FinSet lane_cmp) (reading clock : ℕ) (seen : Seen) (event : Event) → reading ≤ clock → IsDueNow held reading seen event → IsWithin clock event
due_within held reading clock seen event under due = by_due (IsWithin clock) held reading seen event (λ number. under) (λ at. tt) due

pub due_in_time : (held : set.FinSet lane_cmp) (reading : ℕ) (seen : Seen) (event : Event) → seen.greatest ≤ reading + 500 → IsDueNow held reading seen event → clock_back seen event ≡ None
due_in_time held reading seen event under due = not_back reading seen event under (due_at held reading seen event due)

-- so many steps of a run
abbrev pub AreDue : set.FinSet lane_cmp → ℕ → ℕ → Seen → List EventStep → Seen → Type 0
AreDue held reading count from steps to = Along (IsDueNow held reading) from steps to × (length steps ≡ count)

pub due_more : (held : set.FinSet lane_cmp) (reading count : ℕ) (event : Event) (from mid to : Seen) (steps : List EventStep) → IsDueNow held reading mid event → AreDue held reading count from steps mid
    → (step : EventStep) → step.event ≡ event → IsStep mid step to → AreDue held reading (count + 1) from (step ∷ steps) to
due_more held reading count event from mid to steps due are step is goes =
    let many : length (step ∷ steps) ≡ count + 1 = let was = are.1 in omega (arith, was) in
    ((mid, are.0, subst (IsDueNow held reading mid) (sym is) due, goes), many)

pub run_is : (held : set.FinSet lane_cmp) (reading limit count : ℕ) (from to : Seen) (steps : List EventStep) → count ≤ limit → (count ≡ limit) ⊎ IsDue to held reading None → AreDue held reading count from steps to → IsRun held reading limit from steps to
run_is held reading limit count from to steps within over are = record { along = are.0; within = let many = are.1 in omega (arith, many, within); over = by over }
  where
    by : (count ≡ limit) ⊎ IsDue to held reading None → (length steps ≡ limit) ⊎ IsDue to held reading None
    by (inl all) = inl (are.1 ∙ all)
    by (inr none) = inr none

-- ---- the clock of a run

pub not_late : (reading clock later greatest : ℕ) → clock ≤ reading + 500 → later ≡ max clock reading → greatest ≤ later → greatest ≤ reading + 500
not_late reading clock later greatest late is under = omega (arith, late, is, under)

pub not_under : (reading clock later : ℕ) → later ≡ max clock reading → reading ≤ later
not_under reading clock later is = omega (arith, is)

pub grown : (reading clock later greatest : ℕ) → later ≡ max clock reading → greatest ≤ clock → greatest ≤ later
grown reading clock later greatest is under = omega (arith, is, under)
