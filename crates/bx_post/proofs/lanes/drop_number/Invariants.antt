use Rattle.std.proofs.Common.{◌≡◌}
use Rattle.bx_post.proofs.Each.{part}
use Rattle.bx_post.specs.Lanes.{lane_without}
use Rattle.bx_post.proofs.lanes.drop_number.Given as goal

abbrev pub invariant-loop-at : goal.invariant-loop-at
invariant-loop-at l = l.lanes.items ≡ part (lane_without l.number) l.at l.initial.lanes.items
