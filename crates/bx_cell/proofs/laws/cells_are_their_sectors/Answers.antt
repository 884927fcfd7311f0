use Rattle.bx_cell.proofs.Words.{cell_sectors}
use Rattle.bx_cell.proofs.laws.cells_are_their_sectors.Goals as goal

pub returns : goal.returns
returns c = cell_sectors
