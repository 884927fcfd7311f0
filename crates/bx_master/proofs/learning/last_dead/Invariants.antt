use Rattle.std.proofs.Common.{◌≡◌, drop, None}
use Rattle.bx_master.specs.Masters.{last_dead_in}
use Rattle.bx_master.proofs.learning.last_dead.Given as goal

abbrev pub invariant-loop-row : goal.invariant-loop-row
invariant-loop-row l = last_dead_in l.last (drop l.row-index l.rows) ≡ last_dead_in None l.rows
