use Rattle.std.proofs.Common.{arith, ◌+◌, ◌<◌, length}
use Rattle.bx_post.specs.Lanes.{place_in}
use Rattle.bx_post.proofs.Each.{as_long_as, part_step}
use Rattle.bx_post.proofs.Slots.{got}
use Rattle.bx_post.proofs.lanes.Lane.number_anew.Goals as goal

pub loop-at-preserved : goal.loop-at-preserved
loop-at-preserved c =
    let f = place_in c.args.waiting.now.items in
    let items = c.loop-at.self-inside.numbers.items in
    let i = c.loop-at.invariant in
    let long = as_long_as f c.loop-at.at c.self.inside.numbers.items items i.0 in
    let inside : c.loop-at.at < length c.loop-at.self-inside.numbers.items = omega (arith, long) in
    let there = got items c.loop-at.at c.index.result.now inside c.index.ensures in
    (part_step f c.loop-at.at (c.loop-at.at + 1) c.self.inside.numbers.items items c.index.result.now c.place_of.result i.0 there c.place_of.ensures (omega arith), i.1, i.2, i.3)
