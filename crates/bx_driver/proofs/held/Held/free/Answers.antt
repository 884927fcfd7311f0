use Rattle.std.proofs.Common.{ap, ◌∙◌}
use Rattle.std.specs.FinSet.{remove}
use Rattle.bx_driver.proofs.Sets.{without_lane}
use Rattle.bx_driver.proofs.held.Held.free.Goals as goal

pub returns : goal.returns
returns c = without_lane c.args.lane.now c.self.inside.lanes.keys c.remove.new.self.keys c.remove.ensures.updates.0 ∙ ap (λ s. remove s c.args.lane.now) c.self.view_is
