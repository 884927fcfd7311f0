use Rattle.std.proofs.Common.{arith, ◌+◌, ◌<◌, length}
use Rattle.bx_post.specs.Lanes.{lane_anew}
use Rattle.bx_post.proofs.Each.{as_long_as, part_step}
use Rattle.bx_post.proofs.Slots.{got}
use Rattle.bx_post.proofs.lanes.number_lanes.Goals as goal

pub loop-at-preserved : goal.loop-at-preserved
loop-at-preserved c =
    let f = lane_anew c.args.waiting.now.items in
    let long = as_long_as f c.loop-at.at c.args.lanes.now.items c.loop-at.lanes.items c.loop-at.invariant in
    let inside : c.loop-at.at < length c.loop-at.lanes.items = omega (arith, long) in
    let there = got c.loop-at.lanes.items c.loop-at.at c.index_mut.result.now inside c.index_mut.ensures.value in
    part_step f c.loop-at.at (c.loop-at.at + 1) c.args.lanes.now.items c.loop-at.lanes.items c.index_mut.result.now c.number_anew.new.self c.loop-at.invariant there c.number_anew.ensures (omega arith)
