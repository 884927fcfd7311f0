use Rattle.std.proofs.Common.{arith, ap, length}
use Rattle.bx_making.proofs.Steps.{fifteen}
use Rattle.bx_making.proofs.making.fill.Goals as goal

pub returns-then-blocks-ge-MOST_BLOCKS : goal.returns-then-blocks-ge-MOST_BLOCKS
returns-then-blocks-ge-MOST_BLOCKS c =
    let many = c.if-blocks-ge-MOST_BLOCKS.true in
    let e = ap length c.blocks-2.ensures.is in
    fifteen c.args.draft.now c.put_page-2.new.draft _ c.in-Ok.ensures.puts.block c.in-Ok.ensures.puts.put (omega (arith, many, e))
