use Rattle.std.proofs.Common.{sym}
use Rattle.bx_blink.proofs.steps.look.Goals as goal

pub returns-then-block-spot : goal.returns-then-block-spot
returns-then-block-spot g c =
    record {
      block = c.in-Some.block.now;
      there = rw c.block_at-at.ensures at (sym c.in-Some.ensures);
      is = c.if-block-spot.true;
    }
