use Rattle.bx_cell.proofs.Words.{one_found}
use Rattle.bx_cell.proofs.laws.one_value.Goals as goal

pub returns : goal.returns
returns c = one_found
