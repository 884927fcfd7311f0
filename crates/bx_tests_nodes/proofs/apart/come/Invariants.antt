use Rattle.std.proofs.Common.{◌≡◌}
use Rattle.bx_tests_nodes.specs.Desks.{IsReady}
use Rattle.bx_tests_nodes.proofs.apart.come.Given as goal

abbrev pub invariant-loop-number : goal.invariant-loop-number
invariant-loop-number g l = IsReady g.G.Register g.S.Store g.E.Engine l.desk.nodes l.desk.count × (l.desk.count ≡ l.fn.desk.count)
