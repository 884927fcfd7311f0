use Rattle.std.proofs.lemmas.Result.{err_from_is_err_and}
use Rattle.bx_base.specs.Reading.{list_at}
use Rattle.bx_rows.specs.Reading.{session_at}
use Rattle.bx_base.proofs.Lists.{goes_on, ends, is_done}
use Rattle.bx_rows.proofs.reading.session_rows.Goals as goal

pub returns-in_err-row : goal.returns-in_err-row
returns-in_err-row c =
    let total = list_at c.args.count session_at c.args.bytes.now in
    let p = err_from_is_err_and c.from_residual.result c.from_residual.ensures.1 in
    rw (p.1, p.2) (ends session_at c.loop.rows c.args.count c.loop.counter c.loop.rest.now c.in_err-row.field-0.0 total c.loop-test.true c.in_err-row.ensures c.loop.invariant)

pub loop-preserved : goal.loop-preserved
loop-preserved c =
    let total = list_at c.args.count session_at c.args.bytes.now in
    rw c.in_ok-push.ensures.ok (goes_on session_at c.loop.rows c.args.count c.loop.counter c.loop.rest.now c.in_ok-row.row c.in_ok-row.after.now total c.loop-test.true c.in_ok-row.ensures c.loop.invariant)

pub returns : goal.returns
returns c = is_done session_at c.loop.rows c.args.count c.loop.counter c.loop.rest.now (list_at c.args.count session_at c.args.bytes.now) c.loop-test.false c.loop.invariant
