use Rattle.std.proofs.lemmas.Result.{err_from_is_err_and}
use Rattle.bx_layout.specs.bx_base.specs.Reading.{list_at}
use Rattle.bx_records.specs.RecordReading.{number_of_block_at}
use Rattle.bx_layout.specs.bx_base.proofs.Lists.{goes_on, ends, is_done}
use Rattle.bx_records.proofs.record_head.numbers_of.Goals as goal

pub returns-in_err-block : goal.returns-in_err-block
returns-in_err-block c =
    let p = err_from_is_err_and c.from_residual.result c.from_residual.ensures.1 in
    rw (p.1, p.2) (ends number_of_block_at c.loop.found c.args.count c.loop.counter c.loop.rest.now c.in_err-block.field-0.0 (list_at c.args.count number_of_block_at c.args.bytes.now) c.loop-test.true c.in_err-block.ensures c.loop.invariant)

pub loop-preserved : goal.loop-preserved
loop-preserved c =
    rw c.in_ok-push.ensures.ok (goes_on number_of_block_at c.loop.found c.args.count c.loop.counter c.loop.rest.now c.in_ok-block.block c.in_ok-block.after.now (list_at c.args.count number_of_block_at c.args.bytes.now) c.loop-test.true c.in_ok-block.ensures c.loop.invariant)

pub returns : goal.returns
returns c = is_done number_of_block_at c.loop.found c.args.count c.loop.counter c.loop.rest.now (list_at c.args.count number_of_block_at c.args.bytes.now) c.loop-test.false c.loop.invariant
