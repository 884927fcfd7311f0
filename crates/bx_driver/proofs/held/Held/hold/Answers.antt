use Rattle.std.proofs.Common.{ap, ◌∙◌}
use Rattle.std.specs.FinSet.{insert}
use Rattle.bx_driver.proofs.Sets.{with_lane}
use Rattle.bx_driver.proofs.held.Held.hold.Goals as goal

pub returns-clause-ok : goal.returns-clause-ok
returns-clause-ok c = with_lane c.args.lane c.self.inside.lanes.keys c.insert.new.self.keys c.in_ok-insert.ensures.updates.0 ∙ ap (λ s. insert s c.args.lane) c.self.view_is
