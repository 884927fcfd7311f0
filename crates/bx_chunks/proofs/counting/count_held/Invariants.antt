use Rattle.bx_chunks.proofs.Counts.{AreHeld}
use Rattle.bx_chunks.proofs.counting.count_held.Given as goal

abbrev pub invariant-loop-area : goal.invariant-loop-area
invariant-loop-area g l = AreHeld (g.V.View.held l.view) l.area l.total
