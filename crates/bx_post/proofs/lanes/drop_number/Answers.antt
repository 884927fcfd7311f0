use Rattle.std.proofs.Common.{arith, ◌+◌, ◌<◌, ap, sym, ◌∙◌, length}
use Rattle.std.specs.Prelude.{slice_get}
use Rattle.bx_post.specs.Lanes.{Rises, lane_without}
use Rattle.bx_post.proofs.Each.{all_at, as_long_as, part_at, part_step}
use Rattle.bx_post.proofs.Slots.{got}
use Rattle.bx_post.proofs.lanes.drop_number.Goals as goal

pub take_out-requires-clause-rises : goal.take_out-requires-clause-rises
take_out-requires-clause-rises c =
    let f = lane_without c.args.number in
    let long = as_long_as f c.loop-at.at c.args.lanes.now.items c.loop-at.lanes.items c.loop-at.invariant in
    let inside : c.loop-at.at < length c.loop-at.lanes.items = omega (arith, long) in
    let there = got c.loop-at.lanes.items c.loop-at.at c.index_mut.result.now inside c.index_mut.ensures.value in
    let was = sym (part_at f c.loop-at.at c.args.lanes.now.items) ∙ ap (λ ls. slice_get ls c.loop-at.at) (sym c.loop-at.invariant) ∙ there in
    all_at Rises c.loop-at.at c.args.lanes.now.items c.index_mut.result.now c.requires.rise was

pub loop-at-preserved : goal.loop-at-preserved
loop-at-preserved c =
    let f = lane_without c.args.number in
    let long = as_long_as f c.loop-at.at c.args.lanes.now.items c.loop-at.lanes.items c.loop-at.invariant in
    let inside : c.loop-at.at < length c.loop-at.lanes.items = omega (arith, long) in
    let there = got c.loop-at.lanes.items c.loop-at.at c.index_mut.result.now inside c.index_mut.ensures.value in
    part_step f c.loop-at.at (c.loop-at.at + 1) c.args.lanes.now.items c.loop-at.lanes.items c.index_mut.result.now c.take_out.new.self c.loop-at.invariant there c.take_out.ensures (omega arith)
