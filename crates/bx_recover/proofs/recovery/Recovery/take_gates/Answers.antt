use Rattle.std.proofs.Common.{rules}
use Rattle.bx_recover.specs.Recovering.{WritesBack}
use Rattle.bx_recover.proofs.recovery.Recovery.take_gates.Goals as goal

pub returns-clause-ok : goal.returns-clause-ok
returns-clause-ok c = WritesBack c.open_run.result c.if-bytes-ne-GATES_LEN.false c.open_run.ensures (record { now = search rules; says = search rules })
