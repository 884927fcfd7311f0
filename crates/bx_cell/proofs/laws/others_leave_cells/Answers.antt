use Rattle.bx_cell.proofs.Words.{others_leave}
use Rattle.bx_cell.proofs.laws.others_leave_cells.Goals as goal

pub returns : goal.returns
returns c = others_leave
