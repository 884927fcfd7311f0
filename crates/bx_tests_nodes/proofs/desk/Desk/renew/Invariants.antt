use Rattle.std.proofs.Common.{◌≡◌}
use Rattle.bx_tests_nodes.specs.Desks.{IsReady}
use Rattle.bx_tests_nodes.proofs.desk.Desk.renew.Given as goal

abbrev pub invariant-loop-node : goal.invariant-loop-node
invariant-loop-node g l = IsReady g.G.Register g.S.Store g.E.Engine l.self.nodes l.self.count × (l.self.count ≡ l.fn.self.count)
