use Rattle.bx_tests_stores.specs.Benches.{IsShared}
use Rattle.bx_tests_stores.proofs.bench.Desk.all_go.Given as goal

abbrev pub invariant-loop-step : goal.invariant-loop-step
invariant-loop-step g l = IsShared (g.G.Register.nodes l.self.register) (g.O.Owners.nodes l.self.owners) (g.S.Store.made l.self.store) (g.G.Register.needs l.self.register) (g.S.Store.needs l.self.store) (g.R.Rack.state l.self.rack).sizes
