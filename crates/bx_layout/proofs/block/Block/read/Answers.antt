use Rattle.bx_layout.proofs.BlockHeaders.{header_is}
use Rattle.bx_layout.proofs.block.Block.read.Goals as goal

pub returns-in_default-clause-none : goal.returns-in_default-clause-none
returns-in_default-clause-none c = λ block s.
    c.in_default.ensures.none block.handle block.kind (header_is block c.args.bytes.now c.split_at.result.0.now s c.split_at.ensures.front)
