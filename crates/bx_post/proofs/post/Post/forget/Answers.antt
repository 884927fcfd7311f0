use Rattle.std.proofs.Common.{sym, subst, List}
use Rattle.bx_post.specs.Lanes.{AreLanes}
use Rattle.bx_post.specs.Posts.{Posted}
use Rattle.bx_post.specs.Rising.{IsRising}
use Rattle.bx_post.specs.Slots.{posted}
use Rattle.bx_post.proofs.Crossing.{goes_anew}
use Rattle.bx_post.proofs.Posts.{waiting_rises}
use Rattle.bx_post.proofs.post.Post.forget.Goals as goal

pub number_lanes-requires : goal.number_lanes-requires
number_lanes-requires c = record { rises = subst IsRising (sym c.self.invariant.kept.pending) (waiting_rises 1 (posted c.self.inside.slots.items)) }

pub invariant_of-self : goal.invariant_of-self
invariant_of-self c =
    let all = posted c.self.inside.slots.items in
    let anew = goes_anew all c.self.inside.waiting.items c.self.inside.lanes.items c.self.invariant.kept.pending c.self.invariant.lanes_are in
    let P : List Posted → Type 0 = λ xs. AreLanes xs c.number_lanes.new.lanes.items in
    record { kept = c.close_up.ensures.kept; lanes_are = subst P (sym c.close_up.ensures.left) (subst (AreLanes _) (sym c.number_lanes.ensures) anew) }
