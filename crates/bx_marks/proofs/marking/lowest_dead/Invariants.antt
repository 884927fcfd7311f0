use Rattle.std.proofs.Common.{◌≡◌, ◌<◌, ℕ, false}
use Rattle.bx_layout.specs.Areas.{is_dead}
use Rattle.bx_marks.proofs.marking.lowest_dead.Given as goal

abbrev pub invariant-loop-slot : goal.invariant-loop-slot
invariant-loop-slot l = (lower : ℕ) → lower < l.slot → is_dead l.slots lower ≡ false
