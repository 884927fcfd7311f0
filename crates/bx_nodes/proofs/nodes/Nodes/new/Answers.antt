use Rattle.bx_node_steps.specs.Ready.{WasReady}
use Rattle.std.specs.Prelude.{slice_get}
use Rattle.bx_nodes.specs.Stopping.{HasNothing}
use Rattle.bx_nodes.proofs.Machines.{if_some}
use Rattle.bx_nodes.proofs.Readying.{first_ready}
use Rattle.bx_nodes.proofs.nodes.Nodes.new.Goals as goal

pub returns-clause-ready : goal.returns-clause-ready
returns-clause-ready g c = λ node volume areas none has.
    let made = g.S.Store.made c.args.store in
    if_some (slice_get c.args.machines.items node) (HasNothing made.devices made.areas) (WasReady made (g.E.Engine.areas c.args.engine) (g.S.Store.asked c.args.store node))
    (λ machine nothing. first_ready made (g.E.Engine.areas c.args.engine) (g.S.Store.asked c.args.store node) machine volume areas none nothing) has
