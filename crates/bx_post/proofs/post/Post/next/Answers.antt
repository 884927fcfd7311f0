use Rattle.std.proofs.Common.{ap, ◌∙◌}
use Rattle.bx_post.specs.Lanes.{soonest}
use Rattle.bx_post.specs.Slots.{posted}
use Rattle.bx_post.proofs.Soonest.{soonest_is}
use Rattle.bx_post.proofs.post.Post.next.Goals as goal

pub returns : goal.returns
returns g c =
    let test = g.P.Passes.passes c.args.gate.now in
    rw (← c.self.view_is) (c.soonest.ensures ∙ ap (soonest test) c.as_slice.ensures.value ∙ soonest_is test (posted c.self.inside.slots.items) c.self.inside.lanes.items c.self.invariant.lanes_are)
