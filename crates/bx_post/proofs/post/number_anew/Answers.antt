use Rattle.std.proofs.Common.{arith, ◌∙◌, ◌≡◌, ◌+◌, ◌<◌, suc, length, subst, ℕ, take, set}
use Rattle.std.proofs.Math.ListN.{length-set}
use Rattle.bx_post.specs.Slots.{AreNumbered}
use Rattle.bx_post.proofs.Slots.{got, renumbered, same_posted, numbered_more}
use Rattle.bx_post.proofs.post.number_anew.Goals as goal

pub loop-place-preserved : goal.loop-place-preserved
loop-place-preserved c =
    let inside : c.loop-place.place < length c.loop-place.slots.items = omega arith in
    let there = got c.loop-place.slots.items c.loop-place.place c.index_mut.result.now inside c.index_mut.ensures.value in
    let more = numbered_more 1 c.loop-place.place (c.loop-place.place + 1) c.loop-place.slots.items c.index_mut.result.now (omega arith) there c.loop-place.invariant.0 in
    let step : suc c.loop-place.place ≡ c.loop-place.place + 1 = omega arith in
    let P : ℕ → Type 0 = λ n. AreNumbered 1 (take n (set c.loop-place.slots.items c.loop-place.place (renumbered c.index_mut.result.now (c.loop-place.place + 1)))) in
    (subst P step more, same_posted c.loop-place.place (c.loop-place.place + 1) c.loop-place.slots.items c.index_mut.result.now there ∙ c.loop-place.invariant.1, simp length-set c.loop-place.invariant.2)
