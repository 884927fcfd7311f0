use Rattle.std.proofs.Common.{◌≡◌, ◌<◌}
use Rattle.bx_tests_nodes.specs.Desks.{IsReady}
use Rattle.bx_tests_nodes.proofs.apart.Diary.rounds.Given as goal

abbrev pub invariant-loop-round : goal.invariant-loop-round
invariant-loop-round g l = IsReady g.G.Register g.S.Store g.E.Engine l.desk.nodes l.desk.count × (l.desk.count ≡ 2) × (l.self.node < 2)
