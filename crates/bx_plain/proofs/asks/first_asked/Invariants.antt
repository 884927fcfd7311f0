use Rattle.std.proofs.Common.{◌≡◌, ◌+◌, ◌-◌}
use Rattle.bx_facts.specs.Holds.{first_of}
use Rattle.bx_plain.specs.Asks.{asks_from}
use Rattle.bx_plain.specs.Rows.{hold_in}
use Rattle.bx_plain.proofs.asks.first_asked.Given as goal

abbrev pub invariant-loop-node : goal.invariant-loop-node
invariant-loop-node l = first_of (asks_from (hold_in l.rows l.session) l.session l.rows (l.node + 1) (l.nodes - l.node)) ≡ first_of (asks_from (hold_in l.rows l.session) l.session l.rows 1 l.nodes)
