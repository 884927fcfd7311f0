use Rattle.bx_redo.proofs.Begins.{read_as_before}
use Rattle.bx_redo.proofs.recovery.gates_are_read.Goals as goal

pub returns : goal.returns
returns c = read_as_before
