use Rattle.std.proofs.Common.{ap, ◌∙◌}
use Rattle.std.proofs.lemmas.Result.{err_from_is_err_and}
use Rattle.bx_base.specs.Reading.{list_at}
use Rattle.bx_base.proofs.Lists.{goes_on, ends, is_done}
use Rattle.bx_records.specs.Runs.{KindAndRuns}
use Rattle.bx_mirror_packets.specs.Reading.{run_at}
use Rattle.bx_mirror_packets.proofs.runs.counted_runs.Goals as goal

pub returns-in_err-run-clause-value : goal.returns-in_err-run-clause-value
returns-in_err-run-clause-value c =
    let total = list_at c.args.count (run_at c.args.device) c.args.bytes.now in
    let p = err_from_is_err_and c.from_residual.result c.from_residual.ensures.1 in
    rw (p.1, p.2) (ends (run_at c.args.device) c.loop.runs.1 c.args.count c.loop.counter c.loop.rest.now c.in_err-run.field-0.0 total c.loop-test.true c.in_err-run.ensures c.loop.invariant.value)

pub loop-preserved : goal.loop-preserved
loop-preserved c =
    let total = list_at c.args.count (run_at c.args.device) c.args.bytes.now in
    let pushed = c.in_ok-push.ensures.ok in
    let next = goes_on (run_at c.args.device) c.loop.runs.1 c.args.count c.loop.counter c.loop.rest.now c.in_ok-run.run' c.in_ok-run.after.now total c.loop-test.true c.in_ok-run.ensures c.loop.invariant.value in
    record { value = rw pushed next; kind = ap (λ (all : KindAndRuns). all.0) pushed ∙ c.loop.invariant.kind }

pub returns-clause-value : goal.returns-clause-value
returns-clause-value c =
    is_done (run_at c.args.device) c.loop.runs.1 c.args.count c.loop.counter c.loop.rest.now (list_at c.args.count (run_at c.args.device) c.args.bytes.now) c.loop-test.false c.loop.invariant.value
