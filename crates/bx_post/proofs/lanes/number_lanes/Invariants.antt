use Rattle.std.proofs.Common.{◌≡◌}
use Rattle.bx_post.proofs.Each.{part}
use Rattle.bx_post.specs.Lanes.{lane_anew}
use Rattle.bx_post.proofs.lanes.number_lanes.Given as goal

abbrev pub invariant-loop-at : goal.invariant-loop-at
invariant-loop-at l = l.lanes.items ≡ part (lane_anew l.waiting.items) l.at l.initial.lanes.items
