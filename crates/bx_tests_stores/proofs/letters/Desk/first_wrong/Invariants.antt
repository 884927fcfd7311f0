use Rattle.bx_tests_stores.specs.Benches.{IsDesk}
use Rattle.bx_tests_stores.proofs.letters.Desk.first_wrong.Given as goal

abbrev pub invariant-loop-part : goal.invariant-loop-part
invariant-loop-part g l = IsDesk (g.S.Store.made l.self.store) (g.S.Store.needs l.self.store) (g.R.Rack.state l.self.rack).sizes l.self.known

abbrev pub invariant-loop : goal.invariant-loop
invariant-loop g l = IsDesk (g.S.Store.made l.self.store) (g.S.Store.needs l.self.store) (g.R.Rack.state l.self.rack).sizes l.self.known
