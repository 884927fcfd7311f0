use Rattle.std.proofs.Common.{arith, ap, ◌∙◌, ◌≡◌, ◌+◌, ◌<◌, ◌++◌, suc, length, set, drop}
use Rattle.std.proofs.Math.ListN.{length-set}
use Rattle.bx_post.specs.Slots.{count_from}
use Rattle.bx_post.proofs.Slots.{counted}
use Rattle.bx_post.proofs.post.count_up.Goals as goal

pub loop-place-preserved : goal.loop-place-preserved
loop-place-preserved c =
    let inside : c.loop-place.place < length c.args.numbers.now.items = omega arith in
    let step : suc c.loop-place.place ≡ c.loop-place.place + 1 = omega arith in
    let same = ap (λ xs. set xs c.loop-place.place (c.loop-place.place + 1)) c.loop-place.invariant.0 in (
      same ∙ counted 1 c.loop-place.place (c.loop-place.place + 1) c.args.numbers.now.items (omega arith) inside
          ∙ ap (λ n. count_from 1 n ++ drop n c.args.numbers.now.items) step,
      simp length-set c.loop-place.invariant.1,
    )
