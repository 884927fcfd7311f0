use Rattle.std.proofs.Common.{arith, sym, ◌∙◌, subst, List}
use Rattle.bx_post.specs.Lanes.{AreLanes}
use Rattle.bx_post.specs.Posts.{Posted}
use Rattle.bx_post.specs.Slots.{posted}
use Rattle.bx_post.proofs.Crossing.{goes, lanes_rise}
use Rattle.bx_post.proofs.Posts.{beyond}
use Rattle.bx_post.proofs.post.Post.settle.Goals as goal

pub drop_number-requires-clause-rise : goal.drop_number-requires-clause-rise
drop_number-requires-clause-rise c = lanes_rise (posted c.self.inside.slots.items) c.self.inside.lanes.items c.self.invariant.lanes_are.each

pub invariant_of-self : goal.invariant_of-self
invariant_of-self c =
    let gone = goes (posted c.self.inside.slots.items) c.args.number c.self.inside.lanes.items c.self.invariant.lanes_are in
    let P : List Posted → Type 0 = λ xs. AreLanes xs c.drop_number.new.lanes.items in
    record { kept = c.cross_out.ensures.kept; lanes_are = subst P (sym c.cross_out.ensures.settled) (subst (AreLanes _) (sym c.drop_number.ensures) gone) }

pub invariant_of-self-else-number-gt0 : goal.invariant_of-self-else-number-gt0
invariant_of-self-else-number-gt0 c =
    let P : List Posted → Type 0 = λ xs. AreLanes xs c.self.inside.lanes.items in
    let same = c.cross_out.ensures.settled ∙ beyond 1 c.args.number (posted c.self.inside.slots.items) (omega arith) in
    record { kept = c.cross_out.ensures.kept; lanes_are = subst P (sym same) c.self.invariant.lanes_are }
