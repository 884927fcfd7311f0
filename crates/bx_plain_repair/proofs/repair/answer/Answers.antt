use Rattle.std.proofs.Common.{◌≤◌, List, Contains, subst}
use Rattle.bx_base.specs.declared.names.Point.{Point}
use Rattle.bx_plain_repair.specs.Left.{IsLeft}
use Rattle.bx_plain_repair.proofs.Finding.{above_acted, none_above}
use Rattle.bx_plain_repair.proofs.Results.{on_err}
use Rattle.bx_plain_repair.proofs.Sparing.{spares_same}
use Rattle.std.proofs.Common.{refl}
use Rattle.bx_plain_repair.proofs.repair.answer.Goals as goal

pub returns-in-Some-clause-recovers : goal.returns-in-Some-clause-recovers
returns-in-Some-clause-recovers g c = λ volume tree doubt records tells came read.
    let there = subst (λ (l : List Point). Contains l c.in-Some.point) c.items.ensures c.in-Some.ensures.some.0 in
    above_acted volume c.args.floor tree doubt records (g.R.Rack.state c.args.rack.now) c.args.log.now read c.in-Some.point there c.in-Some.ensures.some.1 came

pub returns-in_err-close_all-clause-left : goal.returns-in_err-close_all-clause-left
returns-in_err-close_all-clause-left g c = λ volume tree doubt records tells came read.
    let low = subst (λ (l : List Point). (point : Point) → Contains l point → point.call ≤ c.args.floor) c.items.ensures c.in_default.ensures.none in
    let rests = none_above volume c.args.floor tree doubt records (g.R.Rack.state c.args.rack.now) c.args.log.now read low came in
    on_err (IsLeft volume c.args.floor tree doubt (g.R.Rack.state c.close_all.new.rack)) c.from_residual.result
    (c.in_err-close_all.ensures.left volume c.args.floor tree doubt records tells rests read)

pub returns-clause-recovers : goal.returns-clause-recovers
returns-clause-recovers g c = λ volume tree doubt records tells came read.
    let low = subst (λ (l : List Point). (point : Point) → Contains l point → point.call ≤ c.args.floor) c.items.ensures c.in_default.ensures.none in
    let rests = none_above volume c.args.floor tree doubt records (g.R.Rack.state c.args.rack.now) c.args.log.now read low came in
    c.in_ok-close_all.ensures.closes volume c.args.floor tree records tells rests read

-- the other slots and the replicas are left alone
pub returns-in-Some-clause-spares : goal.returns-in-Some-clause-spares
returns-in-Some-clause-spares g c = λ tells. spares_same (g.R.Rack.state c.args.rack.now) (g.R.Rack.state c.args.rack.now) refl

pub returns-in_err-close_all-clause-spares : goal.returns-in_err-close_all-clause-spares
returns-in_err-close_all-clause-spares g c = λ tells. c.close_all.ensures.spares tells

pub returns-clause-spares : goal.returns-clause-spares
returns-clause-spares g c = λ tells. c.close_all.ensures.spares tells
