use Rattle.bx_cell.proofs.Gates.{open_reads, closed_reads}
use Rattle.bx_cell.proofs.halves.reads_open.Goals as goal

pub returns-in-Open : goal.returns-in-Open
returns-in-Open c = open_reads c.args.gate.now (c.read.ensures.0 c.in-Open.is)

pub returns-in-Closed : goal.returns-in-Closed
returns-in-Closed c = closed_reads c.args.gate.now c.read.result c.read.ensures c.in-Closed.is
