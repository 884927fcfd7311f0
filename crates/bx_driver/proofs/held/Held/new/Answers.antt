use Rattle.std.proofs.Common.{ap}
use Rattle.std.specs.FinSet.{from_list}
use Rattle.bx_driver.specs.Lanes.{lane_cmp}
use Rattle.bx_driver.proofs.held.Held.new.Goals as goal

pub returns : goal.returns
returns c = ap (from_list {R = lane_cmp}) c.new.ensures.empty
