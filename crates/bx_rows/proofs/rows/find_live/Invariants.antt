use Rattle.std.proofs.Common.{◌≡◌, drop}
use Rattle.bx_rows.specs.Words.{live_in}
use Rattle.bx_rows.proofs.rows.find_live.Given as goal

abbrev pub invariant-loop-row : goal.invariant-loop-row
invariant-loop-row l = live_in l.rows l.node l.boot ≡ live_in (drop l.row-index l.rows) l.node l.boot
