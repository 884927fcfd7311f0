use Rattle.std.proofs.Common.{ap, sym, ◌∙◌}
use Rattle.std.specs.FinSet.{contains, contains-from_list}
use Rattle.bx_driver.proofs.Sets.{lane_total}
use Rattle.bx_driver.proofs.held.Held.has.Goals as goal

pub returns : goal.returns
returns c = c.contains.ensures ∙ sym (contains-from_list lane_total c.self.inside.lanes.keys c.args.lane.now) ∙ ap (λ s. contains s c.args.lane.now) c.self.view_is
