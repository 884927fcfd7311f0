use Rattle.std.proofs.Common.{ℕ, IfSome, IfNone, subst}
use Rattle.bx_global.specs.Bytes.{IsHeld}
use Rattle.bx_acceptor.specs.Standing.{IsFound, IsNotFound}
use Rattle.bx_acceptor.specs.Starting.{IsCellAt}
use Rattle.bx_acceptor.proofs.Taking.{starts_with, stands_so}
use Rattle.bx_acceptor.proofs.starting.begin.Goals as goal

pub returns-clause-starts : goal.returns-clause-starts
returns-clause-starts g c = λ tells.
    let sectors = (g.R.Rack.state c.args.rack.now).reads c.args.replica in
    let found = c.in_ok-found.found in
    starts_with c.args.replica c.args.first.now c.args.origin sectors found c.in_ok-hold.field-0
    (subst (λ (k : ℕ). IfSome found (λ y. IsFound k sectors y.0.found y.1)) c.len.ensures (c.in_ok-found.ensures.some tells))
    (subst (λ (k : ℕ). IfNone found (IsNotFound k sectors)) c.len.ensures (c.in_ok-found.ensures.none tells))
    (subst (λ (k : ℕ). IfSome found (λ y. IsCellAt c.args.replica y.1 y.0 × IsHeld k y.1)) c.len.ensures c.in_ok-found.ensures.cell)
    c.in_ok-hold.ensures

pub returns-clause-stands : goal.returns-clause-stands
returns-clause-stands g c =
    let found = c.in_ok-found.found in
    stands_so c.args.replica c.args.first.now c.args.origin found c.in_ok-hold.field-0 c.requires.state c.requires.index
    (subst (λ (k : ℕ). IfSome found (λ y. IsCellAt c.args.replica y.1 y.0 × IsHeld k y.1)) c.len.ensures c.in_ok-found.ensures.cell)
    c.in_ok-hold.ensures
