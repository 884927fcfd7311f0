use Rattle.std.proofs.Common.{◌≡◌}
use Rattle.bx_post.proofs.Each.{part}
use Rattle.bx_post.specs.Lanes.{lane_to}
use Rattle.bx_post.proofs.lanes.cut_back.Given as goal

abbrev pub invariant-loop-at : goal.invariant-loop-at
invariant-loop-at l = l.lanes.items ≡ part (lane_to l.bound) l.at l.initial.lanes.items
