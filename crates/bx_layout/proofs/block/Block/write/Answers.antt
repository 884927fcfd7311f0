use Rattle.std.proofs.Common.{refl}
use Rattle.bx_layout.proofs.block.Block.write.Goals as goal

pub returns : goal.returns
returns c = rw (c.put_header.ensures, c.copy_from_slice.ensures.after, c.bytes.ensures) refl
