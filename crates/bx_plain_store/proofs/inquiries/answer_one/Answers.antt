use Rattle.bx_plain_store.proofs.Answering.{answered_now}
use Rattle.bx_plain_store.proofs.inquiries.answer_one.Goals as goal

pub answer-requires-clause-disk : goal.answer-requires-clause-disk
answer-requires-clause-disk g c = λ less. (c.requires.fit c.in-Some.inquiry c.in-Some.is).disk

pub returns-clause-answered : goal.returns-clause-answered
returns-clause-answered g c = λ tells.
    answered_now (g.R.Rack.state c.args.rack.now) c.args.known.now c.args.slot.now c.in-Some.inquiry c.in_ok-inquiry.field-0 c.in-Some.is (let e = c.is_some.ensures in let f = c.if-is_some.false in cc)
    (λ sector content settled from below. c.in_ok-inquiry.ensures.settled sector content tells settled from below)
