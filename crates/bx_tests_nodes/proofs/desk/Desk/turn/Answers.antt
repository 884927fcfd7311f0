use Rattle.bx_node_calls.proofs.Found.{on_ok_then}
use Rattle.bx_tests_nodes.proofs.Nodes.{one_done}
use Rattle.bx_tests_nodes.proofs.desk.Desk.turn.Goals as goal

pub returns-clause-ready : goal.returns-clause-ready
returns-clause-ready g c =
    let said = c.turn.ensures in
    on_ok_then _ _ c.turn.result (one_done g.G.Register g.S.Store g.E.Engine c.args.self.now.nodes c.args.self.now.count c.requires.ready c.args.node c.turn.new.self said.count said.parts.0 said.parts.1 said.parts.2 said.others (λ other ne. (said.elsewhere other ne).2)) said.ready
