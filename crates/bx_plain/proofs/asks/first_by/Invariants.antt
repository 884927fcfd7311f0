use Rattle.std.proofs.Common.{◌≡◌}
use Rattle.bx_facts.specs.Holds.{first_of}
use Rattle.bx_plain.specs.Asks.{asked_by}
use Rattle.bx_plain.specs.Rows.{hold_in}
use Rattle.bx_plain.specs.Tables.{gather}
use Rattle.bx_plain.proofs.asks.first_by.Given as goal

abbrev pub invariant-loop-block : goal.invariant-loop-block
invariant-loop-block l = first_of (asked_by (hold_in l.rows l.session) l.by (gather l.block-iterator l.rows)) ≡ first_of (asked_by (hold_in l.rows l.session) l.by l.rows)
