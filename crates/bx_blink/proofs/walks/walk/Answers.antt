use Rattle.std.proofs.Common.{arith}
use Rattle.bx_blink.specs.declared.steps.End.TheVariants.{Lost}
use Rattle.bx_blink.specs.Walks.{Reads, reads_with, most}
use Rattle.bx_blink.proofs.Loops.{goes, stops, tires}
use Rattle.bx_blink.proofs.walks.walk.Goals as goal

pub loop-step-preserved : goal.loop-step-preserved
loop-step-preserved g c = λ end rest.
    let reads : Reads = reads_with (g.V.View.held c.args.view.now) (g.V.View.hints c.args.view.now) c.args.draft.now in
    c.loop-step.invariant end (goes reads c.args.target c.args.asked c.args.key.now most c.loop-step.step c.loop-step.spot c.in-Goes.next c.look-found.result end (omega arith) c.look-found.ensures c.in-Goes.ensures rest)

pub returns-in-Stops : goal.returns-in-Stops
returns-in-Stops g c =
    let reads : Reads = reads_with (g.V.View.held c.args.view.now) (g.V.View.hints c.args.view.now) c.args.draft.now in
    c.loop-step.invariant c.in-Stops.end (stops reads c.args.target c.args.asked c.args.key.now most c.loop-step.step c.loop-step.spot c.look-found.result c.in-Stops.end (omega arith) c.look-found.ensures c.in-Stops.ensures)

pub returns : goal.returns
returns g c =
    let reads : Reads = reads_with (g.V.View.held c.args.view.now) (g.V.View.hints c.args.view.now) c.args.draft.now in
    c.loop-step.invariant Lost (tires reads c.args.target c.args.asked c.args.key.now most c.loop-step.step c.loop-step.spot (omega arith))
