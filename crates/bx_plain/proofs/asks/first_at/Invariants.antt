use Rattle.std.proofs.Common.{◌≡◌, drop}
use Rattle.bx_facts.specs.Holds.{first_of}
use Rattle.bx_plain.specs.Asks.{asked_by}
use Rattle.bx_plain.specs.Rows.{hold_in, rows_at}
use Rattle.bx_plain.proofs.asks.first_at.Given as goal

abbrev pub invariant-loop-row : goal.invariant-loop-row
invariant-loop-row l = first_of (asked_by (hold_in l.rows l.session) l.by (drop l.row-index l.row-items)) ≡ first_of (asked_by (hold_in l.rows l.session) l.by (rows_at l.block l.rows))
