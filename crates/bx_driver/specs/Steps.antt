-- Events that are done one after the other, each with what it comes to; runs of what is due.
use Rattle.std.specs.Prelude.{◌≡◌, ℕ, ◌≤◌, ◌⊎◌, List, [], ◌∷◌, ◌++◌, length, map, Some, None}
use Rattle.std.specs.FinSet as set
use Rattle.bx_cluster.specs.Steps.{Shown, part_at}
use Rattle.bx_cluster.specs.declared.outcome.Outcome.{Outcome}
use Rattle.bx_history.specs.Parts.{Part}
use Rattle.bx_world_events.specs.Refusals.{Seen, refusal}
use Rattle.bx_world_events.specs.declared.event.Event.{Event}
use Rattle.bx_driver.specs.Lanes.{lane_cmp}
use Rattle.bx_driver.specs.Runs.{IsDue}

-- an event that was done, and what it came to
pub record EventStep : Type 0 where
  pub event : Event
  pub outcome : Outcome

-- The event was allowed, and the cluster shows what it came to.
pub record IsStep (from : Seen) (step : EventStep) (to : Seen) : Type 0 where
  pub allowed : refusal from step.event ≡ None
  pub shown : Shown step.event step.outcome.stopped from to

-- Steps, the newest first, lead from what was shown to what is shown, and of each event a fact stands where it is done.
abbrev pub Along : (Seen → Event → Type 0) → Seen → List EventStep → Seen → Type 0
Along Does from [] to = to ≡ from
Along Does from (step ∷ earlier) to = (middle : Seen) × Along Does from earlier middle × Does middle step.event × IsStep middle step to

-- the parts of a run that they are, behind the earlier ones
abbrev pub parts_with : List EventStep → List Part → List Part
parts_with steps parts = map (λ step. part_at step.event step.outcome) steps ++ parts

-- An event alone was done.
pub record IsOne (event : Event) (from : Seen) (steps : List EventStep) (to : Seen) : Type 0 where
  pub step : EventStep
  pub alone : steps ≡ step ∷ []
  pub is : step.event ≡ event
  pub goes : IsStep from step to

-- ---- runs

-- it is what is due next at a reading, where these lanes are held
abbrev pub IsDueNow : set.FinSet lane_cmp → ℕ → Seen → Event → Type 0
IsDueNow held reading seen event = IsDue seen held reading (Some event)

-- What is due was done, one event after the other, until nothing was due, or the limit was reached.
pub record IsRun (held : set.FinSet lane_cmp) (reading limit : ℕ) (from : Seen) (steps : List EventStep) (to : Seen) : Type 0 where
  pub along : Along (IsDueNow held reading) from steps to
  pub within : length steps ≤ limit
  pub over : (length steps ≡ limit) ⊎ IsDue to held reading None
