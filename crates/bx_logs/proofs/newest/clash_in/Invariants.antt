use Rattle.std.proofs.Common.{◌≡◌, ℕ, ◌<◌, Some}
use Rattle.std.specs.Prelude.{slice_get}
use Rattle.bx_logs.specs.Newest.{Agree, AreAgreed, Newest}
use Rattle.bx_logs.proofs.newest.clash_in.Given as goal

abbrev pub invariant-loop-later : goal.invariant-loop-later
invariant-loop-later l = AreAgreed l.logs l.later

abbrev pub invariant-loop-slot : goal.invariant-loop-slot
invariant-loop-slot l = record {
  before : AreAgreed l.logs l.later;
  done : (slot : ℕ) (one other : Newest) → slot < l.slot → slice_get l.logs slot ≡ Some one → slice_get l.logs l.later ≡ Some other → Agree one other;
}
