use Rattle.std.proofs.Common.{◌≡◌, take}
use Rattle.bx_post.specs.Lanes.{soonest}
use Rattle.bx_post.proofs.lanes.soonest.Given as goal

abbrev pub invariant-loop-lane : goal.invariant-loop-lane
invariant-loop-lane g l = l.best ≡ soonest (g.P.Passes.passes l.gate) (take l.lane-index l.lanes)
