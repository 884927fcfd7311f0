use Rattle.std.proofs.Common.{◌-◌, ◌+◌, ◌*◌, ◌<◌, ℕ, take, drop, replicate, length, arith, ◌∙◌}
use Rattle.bx_tree_parts.proofs.Updated.{cleared_long, cleared_part}
use Rattle.bx_tree_parts.proofs.pieces.Pieces.clear.Goals as goal

pub returns-then-contains_key-clause-here : goal.returns-then-contains_key-clause-here
returns-then-contains_key-clause-here c = λ place from less.
    let within : place < 4096 * c.args.index + c.args.inner + length (take (4096 - c.args.inner) (drop c.args.inner (replicate {A = ℕ} 4096 0))) =
    omega (arith, less, cleared_long c.args.inner, c.requires.inner) in
    c.put.ensures.put.here place from within ∙ cleared_part (4096 - c.args.inner) c.args.inner (place - (4096 * c.args.index + c.args.inner))
