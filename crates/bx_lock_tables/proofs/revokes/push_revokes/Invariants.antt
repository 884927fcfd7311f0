use Rattle.std.proofs.Common.{◌≡◌, ◌++◌, take}
use Rattle.bx_lock_tables.specs.Queue.{revokes_for}
use Rattle.bx_lock_tables.proofs.revokes.push_revokes.Given as goal

abbrev pub invariant-loop-row : goal.invariant-loop-row
invariant-loop-row l = l.words.items ≡ l.initial.words.items ++ revokes_for l.known (take l.row-index l.rows) l.want
