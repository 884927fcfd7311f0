use Rattle.bx_ready.specs.Descents.{LeadsTo}
use Rattle.bx_ready.proofs.descents.descend.Given as goal

abbrev pub invariant-loop-step : goal.invariant-loop-step
invariant-loop-step g l = LeadsTo (g.V.View.held l.view) l.root l.key l.step l.handle
