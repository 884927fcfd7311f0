use Rattle.bx_tests_stores.specs.Benches.{IsDesk}
use Rattle.bx_tests_stores.proofs.letters.Desk.all_go.Given as goal

abbrev pub invariant-loop-step : goal.invariant-loop-step
invariant-loop-step g l = IsDesk (g.S.Store.made l.self.store) (g.S.Store.needs l.self.store) (g.R.Rack.state l.self.rack).sizes l.self.known
