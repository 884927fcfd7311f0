use Rattle.std.proofs.Common.{arith, sym, ◌∙◌, ◌-◌, ◌<◌, length}
use Rattle.bx_post.proofs.Slots.{got, number_inside}
use Rattle.bx_post.proofs.Soonest.{first_is, least_some}
use Rattle.bx_post.proofs.post.first_passes.Goals as goal

pub overflow_sub-number : goal.overflow_sub-number
overflow_sub-number g c = least_some c.in-Some.number c.args.slots.now.items c.args.waiting.now.items c.requires (sym c.number_at.ensures ∙ c.in-Some.is)

pub index-requires : goal.index-requires
index-requires g c =
    let least = sym c.number_at.ensures ∙ c.in-Some.is in
    omega (arith, number_inside c.args.slots.now.items c.args.waiting.now.items c.in-Some.number 0 c.requires least, least_some c.in-Some.number c.args.slots.now.items c.args.waiting.now.items c.requires least)

pub returns : goal.returns
returns g c = λ passed.
    let least = sym c.number_at.ensures ∙ c.in-Some.is in
    let some = least_some c.in-Some.number c.args.slots.now.items c.args.waiting.now.items c.requires least in
    let inside : c.in-Some.number - 1 < length c.args.slots.now.items = omega (arith, number_inside c.args.slots.now.items c.args.waiting.now.items c.in-Some.number 0 c.requires least, some) in
    let there = got c.args.slots.now.items (c.in-Some.number - 1) c.index.result.now inside c.index.ensures in
    first_is (g.P.Passes.passes c.args.gate.now) c.in-Some.number c.args.slots.now.items c.args.waiting.now.items c.index.result.now c.requires least there (sym c.passes.ensures ∙ passed)
