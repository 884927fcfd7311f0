use Rattle.std.proofs.Common.{sym}
use Rattle.bx_leaves.proofs.leaf.leaf_of.Goals as goal

pub returns-in-Some : goal.returns-in-Some
returns-in-Some g c =
    record {
      end = c.in-Lands.ensures;
      block = c.in-Some.field-0.now;
      held = rw c.block_at-at.ensures at (sym c.in-Some.ensures);
    }
