-- What is due in a turn.
use Rattle.std.proofs.Common.{◌≡◌, ℕ, ◌+◌, ◌≤◌, ◌<◌, [], inr, refl, arith, ap, sym, subst, false, Some, None}
use Rattle.std.proofs.lemmas.Bool.Decides.{nat_tests}
use Rattle.std.specs.Prelude.{Bool, IfSome, Option, nat_lt}
use Rattle.std.specs.Bool.{then_some}
use Rattle.std.specs.FinSet as set
use Rattle.bx_base.specs.declared.names.Actor.{Actor}
use Rattle.bx_cluster.specs.Steps.{Counted, Shown, greatest_reading}
use Rattle.bx_driver.specs.Lanes.{lane_cmp}
use Rattle.bx_driver.specs.Runs.{IsDue}
use Rattle.bx_driver.specs.Runs.IsDue.{Arrives, Syncs, Rests}
use Rattle.bx_world_events.specs.Events.{reading_of}
use Rattle.bx_world_events.specs.Refusals.{Seen, clock_back, told_of}
use Rattle.bx_world_events.specs.declared.event.Event.{Event}
use Rattle.bx_world_events.specs.declared.event.Event.TheVariants.{Deliver, Sync}
use Rattle.bx_world_events.specs.declared.event.EventError.{EventError}
use Rattle.bx_host.specs.Steps.{IsAt, brought_in}
use Rattle.bx_host.specs.Turns.{IsDueNow, IsOver}

-- it has the turn's reading or none, and starts nothing
pub due_at : (reading : ℕ) (seen : Seen) (event : Event) → IsDueNow reading seen event → IsAt reading seen event
due_at reading seen event (Arrives number is least) = let e : Deliver reading number ≡ event = cc in subst (IsAt reading seen) e refl
due_at reading seen event (Syncs at is none low) = let e : Sync at ≡ event = cc in subst (IsAt reading seen) e tt
due_at reading seen event (Rests is none idle) = cc

pub due_counts : (reading : ℕ) (seen : Seen) (event : Event) (old new : ℕ) → IsDueNow reading seen event → Counted event old new → new ≡ old
due_counts reading seen event old new (Arrives number is least) counted = let e : event ≡ Deliver reading number = cc in subst (λ its. Counted its old new) e counted
due_counts reading seen event old new (Syncs at is none low) counted = let e : event ≡ Sync at = cc in subst (λ its. Counted its old new) e counted
due_counts reading seen event old new (Rests is none idle) counted = cc

pub due_brings : (reading : ℕ) (seen : Seen) (event : Event) → IsDueNow reading seen event → brought_in event ≡ []
due_brings reading seen event (Arrives number is least) = let e : event ≡ Deliver reading number = cc in ap brought_in e
due_brings reading seen event (Syncs at is none low) = let e : event ≡ Sync at = cc in ap brought_in e
due_brings reading seen event (Rests is none idle) = cc

-- a reading that isn't behind the greatest one is no cause
none_told : (test : ℕ → Bool) (error : ℕ → EventError) (its : Option ℕ) → IfSome its (λ one. test one ≡ false) → told_of test error its ≡ None
none_told test error None is = refl
none_told test error (Some one) is = ap (λ b. then_some b (error one)) is

is_late : (reading greatest : ℕ) (its : Option ℕ) → greatest ≤ reading → IfSome its (λ one. one ≡ reading) → IfSome its (λ one. nat_lt (one + 500) greatest ≡ false)
is_late reading greatest None under is = tt
is_late reading greatest (Some one) under is = grind (arith, nat_tests)

pub in_time : (reading : ℕ) (seen : Seen) (event : Event) → seen.greatest ≤ reading → IsAt reading seen event → clock_back seen event ≡ None
in_time reading seen event under at = none_told _ _ (reading_of event) (is_late reading seen.greatest (reading_of event) under at)

greatest_under : (reading greatest : ℕ) (its : Option ℕ) → greatest ≤ reading → IfSome its (λ one. one ≡ reading) → greatest_reading its greatest ≤ reading
greatest_under reading greatest None under is = under
greatest_under reading greatest (Some one) under is = grind (arith, nat_tests)

-- a step at the turn's reading leaves it no less able to go on
pub clock_after : (reading : ℕ) (event : Event) (stopped : Option Actor) (old new : Seen) → Shown event stopped old new → old.greatest ≤ reading → IsAt reading old event → new.greatest ≤ reading
clock_after reading event stopped old new shown under at = subst (λ n. n ≤ reading) (sym shown.greatest) (greatest_under reading old.greatest (reading_of event) under at)

-- what is due where no lane is held, and the turn has an event left
pub due_is : (reading left : ℕ) (seen : Seen) (held : set.FinSet lane_cmp) (next : Option Event) → held ≡ set.empty → 0 < left → IsDue seen held reading next → IfSome next (λ event. (0 < left) × IsDueNow reading seen event)
due_is reading left seen held None none more due = tt
due_is reading left seen held (Some event) none more due = (more, subst (λ h. IsDue seen h reading (Some event)) none due)

pub due_over : (reading left : ℕ) (seen : Seen) (held : set.FinSet lane_cmp) (next : Option Event) → held ≡ set.empty → IsDue seen held reading next → next ≡ None → IsOver reading (record { seen = seen; left = left })
due_over reading left seen held next none due is = inr (subst (λ n. IsDue seen set.empty reading n) is (subst (λ h. IsDue seen h reading next) none due))
