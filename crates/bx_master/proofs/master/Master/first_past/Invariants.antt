use Rattle.std.proofs.Common.{◌≡◌, drop}
use Rattle.bx_master.specs.Events.{first_past}
use Rattle.bx_master.proofs.master.Master.first_past.Given as goal

abbrev pub invariant-loop-row : goal.invariant-loop-row
invariant-loop-row l = first_past l.known l.reading l.self (drop l.row-index l.row-items) ≡ first_past l.known l.reading l.self l.row-items
