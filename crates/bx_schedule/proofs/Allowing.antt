-- Readings that aren't refused.
use Rattle.std.proofs.Common.{◌≡◌, ℕ, ◌+◌, ◌≤◌, Bool, true, false, refl, arith, ap, Option, Some, None}
use Rattle.std.proofs.lemmas.Bool.Decides.{nat_tests}
use Rattle.std.specs.Prelude.{IfSome, nat_lt}
use Rattle.std.specs.Bool.{then_some}
use Rattle.bx_lease.specs.Readings.{back_by}
use Rattle.bx_world_events.specs.Events.{reading_of}
use Rattle.bx_world_events.specs.Refusals.{Seen, clock_back, told_of}
use Rattle.bx_world_events.specs.declared.event.Event.{Event}
use Rattle.bx_world_events.specs.declared.event.EventError.{EventError}
use Rattle.bx_world_events.specs.declared.event.EventError.TheVariants.{ClockBack}
use Rattle.bx_schedule.specs.Refusing.{back_at}

-- a reading that isn't refused lies at most 500 ms behind the greatest one
pub in_time : (clock reading : ℕ) → back_at clock reading ≡ None → clock ≤ reading + 500
in_time clock reading is = by (nat_lt (reading + 500) clock) refl is
  where
    by : (b : Bool) → nat_lt (reading + 500) clock ≡ b → then_some b (ClockBack (back_by clock reading)) ≡ None → clock ≤ reading + 500
    by true late told = cc
    by false late told = grind (arith, nat_tests)

is_late : (reading greatest : ℕ) (its : Option ℕ) → greatest ≤ reading + 500 → IfSome its (λ one. one ≡ reading) → IfSome its (λ one. nat_lt (one + 500) greatest ≡ false)
is_late reading greatest None under is = tt
is_late reading greatest (Some one) under is = grind (arith, nat_tests)

told_none : (test : ℕ → Bool) (error : ℕ → EventError) (its : Option ℕ) → IfSome its (λ one. test one ≡ false) → told_of test error its ≡ None
told_none test error None is = refl
told_none test error (Some one) is = ap (λ b. then_some b (error one)) is

pub not_back : (reading : ℕ) (seen : Seen) (event : Event) → seen.greatest ≤ reading + 500 → IfSome (reading_of event) (λ one. one ≡ reading) → clock_back seen event ≡ None
not_back reading seen event under at = told_none _ _ (reading_of event) (is_late reading seen.greatest (reading_of event) under at)
