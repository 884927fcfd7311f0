use Rattle.std.proofs.Common.{◌≡◌, ℕ, ◌<◌, Some, slice_get}
use Rattle.bx_mirror_tables.specs.Inside.{IsInside}
use Rattle.bx_records.specs.declared.runs.Run.{Run}
use Rattle.bx_mirror_tables.proofs.inside.are_inside.Given as goal

abbrev pub invariant-loop-i : goal.invariant-loop-i
invariant-loop-i l = (k : ℕ) (run : Run) → k < l.i → slice_get l.runs.1 k ≡ Some run → IsInside l.room run
