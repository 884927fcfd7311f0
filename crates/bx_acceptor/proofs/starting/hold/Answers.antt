use Rattle.std.proofs.Common.{ℕ, refl, subst}
use Rattle.bx_acceptor.specs.Standing.{CatchesUp}
use Rattle.bx_acceptor.proofs.Taking.{holds_first, holds_part}
use Rattle.bx_acceptor.proofs.starting.hold.Goals as goal

pub returns-in_default : goal.returns-in_default
returns-in_default c = holds_first c.args.first.now c.args.origin c.args.found _ c.in_default.ensures.none c.in_ok-first_held.ensures refl

pub returns : goal.returns
returns c =
    let catches = subst (λ (number : ℕ). CatchesUp c.args.origin c.args.first.now number c.in-Some.raw c.in_ok-held.held) c.number.ensures c.in_ok-held.ensures in
    holds_part c.args.first.now c.args.origin c.args.found (c.in-Some.cell, c.in-Some.raw) _ c.in-Some.ensures.some.0 c.in-Some.ensures.some.1 catches refl
