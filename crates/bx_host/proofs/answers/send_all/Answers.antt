use Rattle.std.proofs.Common.{◌∷◌, ◌+◌, ap, arith, drop, sym, ◌∙◌}
use Rattle.std.proofs.lemmas.List.{drop_more}
use Rattle.std.proofs.lemmas.Result.{err_from_is_err_and}
use Rattle.bx_host.specs.Steps.{owed}
use Rattle.bx_host.proofs.Sendings.{none_sent, outcome_broken, outcome_more}
use Rattle.bx_host.proofs.answers.send_all.Goals as goal

pub loop-outcome-init : goal.loop-outcome-init
loop-outcome-init g c = none_sent g.L.Link (owed c.args.outcomes.now) c.args.link.now c.args.sent (omega arith)

pub loop-outcome-preserved : goal.loop-outcome-preserved
loop-outcome-preserved g c =
    let send = c.in_ok-count.ensures in
    outcome_more g.L.Link _ _ _ _ _ _ _ _ _ _ (drop_more c.args.outcomes.now c.loop-outcome.outcome-index c.outcome-item.result c.loop-outcome-test.true ∙ ap (λ one. one ∷ drop (c.loop-outcome.outcome-index + 1) c.args.outcomes.now) (sym c.outcome-item.is)) c.loop-outcome.invariant send.sends.sends send.sends.given send.count send.link.keeps

pub returns-in_err-count-clause-sends : goal.returns-in_err-count-clause-sends
returns-in_err-count-clause-sends g c =
    let p = err_from_is_err_and c.from_residual.result c.from_residual.ensures.1 in
    let was = c.loop-outcome.invariant in
    let send = c.in_err-count.ensures.sends in
    rw p.1 (record { sends = λ tells. outcome_broken g.L.Link _ _ _ _ _ _ _ _ _ (drop_more c.args.outcomes.now c.loop-outcome.outcome-index c.outcome-item.result c.loop-outcome-test.true ∙ ap (λ one. one ∷ drop (c.loop-outcome.outcome-index + 1) c.args.outcomes.now) (sym c.outcome-item.is)) was send.sends tells; given = λ tells. send.given (was.keeps.tells tells) ∙ was.given tells })
