use Rattle.bx_splits.proofs.HalvesSteps.{cut_into}
use Rattle.bx_splits.proofs.cutting.cut.Goals as goal

pub returns : goal.returns
returns g c =
    cut_into (g.V.View.held c.args.view.now) c.args.draft.now c.take_handle.new.draft c.put_two.new.draft c.args.handle c.args.page c.args.near.0 c.args.near.1 c.in_ok-right.right c.halve.new.self c.in_ok-other.other c.in_ok-right.ensures
    c.in_ok-other.ensures.kept c.in_ok-other.ensures.given c.in_ok-put_two.ensures
