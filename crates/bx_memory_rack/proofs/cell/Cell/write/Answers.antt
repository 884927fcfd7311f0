use Rattle.std.proofs.Common.{rules}
use Rattle.bx_memory_rack.proofs.cell.Cell.write.Goals as goal

pub returns : goal.returns
returns c = search rules
