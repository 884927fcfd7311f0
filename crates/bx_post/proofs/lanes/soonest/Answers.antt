use Rattle.std.proofs.Common.{arith, ap, sym, ◌∙◌, ◌≡◌, ◌+◌, ◌<◌, suc, length, take}
use Rattle.bx_post.specs.Lanes.{sooner, soonest}
use Rattle.bx_post.proofs.Slots.{got}
use Rattle.bx_post.proofs.Soonest.{soonest_more}
use Rattle.bx_post.proofs.lanes.soonest.Goals as goal

pub loop-lane-preserved : goal.loop-lane-preserved
loop-lane-preserved g c =
    let test = g.P.Passes.passes c.args.gate.now in
    let lanes = c.args.lanes.now in
    let at = c.loop-lane.lane-index in
    let next : suc c.loop-lane.lane-index ≡ c.loop-lane.lane-index + 1 = omega arith in
    let inside : c.loop-lane.lane-index < length c.args.lanes.now = omega arith in
    let there = got lanes at c.lane-item.result inside c.lane-item.is in
    c.sooner-best.ensures ∙ ap (λ o. sooner o c.first.result) c.loop-lane.invariant ∙ ap (sooner (soonest test (take at lanes))) c.first.ensures
    ∙ sym (soonest_more test at lanes c.lane-item.result there) ∙ ap (λ n. soonest test (take n lanes)) next
