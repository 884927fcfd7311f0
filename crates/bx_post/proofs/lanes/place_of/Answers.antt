use Rattle.std.proofs.Common.{arith}
use Rattle.bx_post.proofs.Rising.{places_within}
use Rattle.bx_post.proofs.lanes.place_of.Goals as goal

pub overflow_add-result : goal.overflow_add-result
overflow_add-result c = omega (arith, c.place_above.ensures, places_within c.saturating_sub.result c.args.waiting.now.items, c.args.waiting.now.ok.0, c.args.waiting.now.small.0, c.args.waiting.now.small.1)
