use Rattle.std.specs.Int.{w32}
use Rattle.std.proofs.lemmas.Result.{err_from_is_err_and}
use Rattle.bx_base.specs.Reading.{number_at, list_at}
use Rattle.bx_base.proofs.Lists.{goes_on, ends, is_done}
use Rattle.bx_layout.proofs.words.words_of.Goals as goal

pub returns-in_err-word : goal.returns-in_err-word
returns-in_err-word c =
    let p = err_from_is_err_and c.from_residual.result c.from_residual.ensures.1 in
    rw (p.1, p.2) (ends (number_at w32) c.loop.found c.args.count c.loop.counter c.loop.rest.now c.in_err-word.field-0.0 (list_at c.args.count (number_at w32) c.args.bytes.now) c.loop-test.true c.in_err-word.ensures.value c.loop.invariant)

pub loop-preserved : goal.loop-preserved
loop-preserved c =
    rw c.in_ok-push.ensures.ok (goes_on (number_at w32) c.loop.found c.args.count c.loop.counter c.loop.rest.now c.in_ok-word.word c.in_ok-word.after.now (list_at c.args.count (number_at w32) c.args.bytes.now) c.loop-test.true c.in_ok-word.ensures.value c.loop.invariant)

pub returns : goal.returns
returns c = is_done (number_at w32) c.loop.found c.args.count c.loop.counter c.loop.rest.now (list_at c.args.count (number_at w32) c.args.bytes.now) c.loop-test.false c.loop.invariant
