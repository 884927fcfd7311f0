use Rattle.std.proofs.Common.{sym, ◌∙◌}
use Rattle.bx_plain_store.proofs.Serving.{at_got}
use Rattle.bx_plain_store.proofs.Places.{option_apart, option_same}
use Rattle.bx_plain_store.proofs.sessions.meet_session.Goals as goal

pub returns-then-eq-clause-own : goal.returns-then-eq-clause-own
returns-then-eq-clause-own c =
    let got = at_got c.args.owns.now.items c.args.place c.index.result.now c.requires.place c.index.ensures in
    sym got ∙ option_same c.index.result.now c.args.session (sym c.eq.ensures ∙ c.if-eq.true)

pub returns-then-eq-clause-another : goal.returns-then-eq-clause-another
returns-then-eq-clause-another c = λ another.
    let got = at_got c.args.owns.now.items c.args.place c.index.result.now c.requires.place c.index.ensures in
    absurd (another (sym got ∙ option_same c.index.result.now c.args.session (sym c.eq.ensures ∙ c.if-eq.true)))

pub returns-clause-same : goal.returns-clause-same
returns-clause-same c = λ same.
    let got = at_got c.args.owns.now.items c.args.place c.index.result.now c.requires.place c.index.ensures in
    absurd (option_apart c.index.result.now c.args.session (sym c.eq.ensures ∙ c.if-eq.false) (got ∙ same))
