use Rattle.std.proofs.Common.{arith}
use Rattle.bx_truth.specs.PageTrees.{map_of}
use Rattle.bx_sizes.proofs.Halves.{none_joined}
use Rattle.bx_sizes.proofs.first_pieces.first_piece.Goals as goal

pub returns-then-next-at-clause-map : goal.returns-then-next-at-clause-map
returns-then-next-at-clause-map g c = λ truth tree u. record {
  above = c.loop-at.invariant.from;
  below = c.loop-at-test.true;
  there = (c.in-Ok.ensures.map truth tree u).there c.if-next-at.true;
  before = c.loop-at.invariant.none truth tree u;
}

pub loop-at-preserved : goal.loop-at-preserved
loop-at-preserved g c = record {
  from = omega (arith, c.loop-at.invariant.from, c.in-Ok.ensures.onward);
  none = λ truth tree u. none_joined (map_of tree) c.args.from c.loop-at.at c.in-Ok.next (c.loop-at.invariant.none truth tree u) (c.in-Ok.ensures.map truth tree u).none;
}
