use Rattle.std.proofs.Common.{◌≡◌, ℕ, ◌+◌, ◌<◌, ◌≤◌}
use Rattle.std.specs.Option.{IsSome}
use Rattle.std.specs.Ordering.{nat_cmp}
use Rattle.std.specs.BTreeMap.{get}
use Rattle.bx_memory_rack.specs.Cells.{cell_at}
use Rattle.bx_memory_rack.proofs.cells.make_room.Given as goal

abbrev pub invariant-loop-i : goal.invariant-loop-i
invariant-loop-i l = record {
  same : (s : ℕ) → cell_at l.cells s ≡ cell_at l.fn.cells s;
  there : (s : ℕ) → l.fn.from ≤ s → s < l.fn.from + l.i → IsSome (get nat_cmp l.cells s);
}
