use Rattle.std.proofs.Common.{refl}
use Rattle.bx_cell.proofs.halves.write_format.Goals as goal

pub returns : goal.returns
returns c = rw (c.write.ensures, c.write_body.ensures, c.write-2.ensures) refl
