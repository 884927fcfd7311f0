use Rattle.bx_chunks.proofs.Looks.{IsSoFar}
use Rattle.bx_chunks.proofs.allocating.choose.Given as goal

abbrev pub invariant-loop-turn : goal.invariant-loop-turn
invariant-loop-turn g l = IsSoFar (g.V.View.held l.view) l.draft l.near l.areas l.turn l.spare
