use Rattle.std.proofs.Common.{arith, ◌≤◌, ◌<◌, ◌+◌, ◌-◌, ◌/◌, length, subst, ℕ}
use Rattle.bx_post.proofs.Rising.{places_within, goes_up, stays_low}
use Rattle.bx_post.proofs.search.place_above.Goals as goal

pub loop-low-init : goal.loop-low-init
loop-low-init c = (omega arith, omega (arith, places_within c.args.bound c.args.numbers.now.items, c.len-high.ensures), omega (arith, c.len-high.ensures), c.requires)

pub loop-low-preserved-then-index-bound : goal.loop-low-preserved-then-index-bound
loop-low-preserved-then-index-bound c =
    let inside : c.loop-low.low + (c.loop-low.high - c.loop-low.low) / 2 < length c.args.numbers.now.items = omega arith in
    let P : ℕ → Type 0 = λ n. n ≤ c.args.bound in
    let low = subst P c.index.ensures c.if-index-bound.true in
    let up = goes_up c.args.bound c.args.numbers.now.items (c.loop-low.low + (c.loop-low.high - c.loop-low.low) / 2) _ c.requires inside low in
    (omega (arith, up), c.loop-low.invariant.1, c.loop-low.invariant.2, c.requires)

pub loop-low-preserved : goal.loop-low-preserved
loop-low-preserved c =
    let inside : c.loop-low.low + (c.loop-low.high - c.loop-low.low) / 2 < length c.args.numbers.now.items = omega arith in
    let P : ℕ → Type 0 = λ n. c.args.bound < n in
    let high = subst P c.index.ensures c.if-index-bound.false in
    (c.loop-low.invariant.0, stays_low c.args.bound c.args.numbers.now.items (c.loop-low.low + (c.loop-low.high - c.loop-low.low) / 2) _ inside high, omega arith, c.requires)
