use Rattle.std.proofs.Common.{◌≡◌, arith}
use Rattle.bx_base.specs.declared.names.Mode.TheVariants.{Shared}
use Rattle.bx_blink.specs.declared.runs.RunEnd.TheVariants.{Broken}
use Rattle.bx_blink.specs.declared.runs.Turn.TheVariants.{Moves, Rests}
use Rattle.bx_blink.specs.Walks.{Reads, reads_with, decide, most}
use Rattle.bx_blink.specs.Runs.{follow}
use Rattle.bx_blink.proofs.RunLoops.{moves, rests, breaks}
use Rattle.bx_blink.proofs.runs.run.Goals as goal

pub loop-step-preserved : goal.loop-step-preserved
loop-step-preserved g c = λ end rest.
    let reads : Reads = reads_with (g.V.View.held c.args.view.now) (g.V.View.hints c.args.view.now) c.args.draft.now in
    let step : Moves c.in-Moves.other c.in-Moves.next ≡ follow c.loop-step.key (decide 0 Shared c.loop-step.key c.loop-step.spot c.look-found.result) = (let a = c.in-Moves.is in let b = c.in_ok-other.ensures in cc) in
    c.loop-step.invariant end (moves reads most c.loop-step.step c.loop-step.key c.in-Moves.other c.loop-step.spot c.in-Moves.next c.look-found.result end (omega arith) c.look-found.ensures step rest)

pub returns-in-Rests : goal.returns-in-Rests
returns-in-Rests g c =
    let reads : Reads = reads_with (g.V.View.held c.args.view.now) (g.V.View.hints c.args.view.now) c.args.draft.now in
    let step : Rests c.in-Rests.end ≡ follow c.loop-step.key (decide 0 Shared c.loop-step.key c.loop-step.spot c.look-found.result) = (let a = c.in-Rests.is in let b = c.in_ok-other.ensures in cc) in
    c.loop-step.invariant c.in-Rests.end (rests reads most c.loop-step.step c.loop-step.key c.loop-step.spot c.look-found.result c.in-Rests.end (omega arith) c.look-found.ensures step)

pub returns : goal.returns
returns g c =
    let reads : Reads = reads_with (g.V.View.held c.args.view.now) (g.V.View.hints c.args.view.now) c.args.draft.now in
    c.loop-step.invariant Broken (breaks reads most c.loop-step.step c.loop-step.key c.loop-step.spot (omega arith))
