use Rattle.std.proofs.Common.{◌-◌, ◌≤◌, []}
use Rattle.bx_blink.specs.Hints.{Under}
use Rattle.bx_truth.specs.PageTrees.{PageTree, map_of}
use Rattle.bx_views.specs.Truths.{Truth}
use Rattle.bx_sizes.specs.Clearing.{HasNone}
use Rattle.bx_sizes.proofs.first_pieces.first_piece.Given as goal

abbrev pub invariant-loop-at : goal.invariant-loop-at
invariant-loop-at g l = record {
  from : l.from ≤ l.at;
  none : (truth : Truth) (tree : PageTree) → Under l.areas (g.V.View.held l.view) (g.V.View.hints l.view) truth [] l.root tree → HasNone (map_of tree) l.from l.at;
}

abbrev pub decreases-loop-at : goal.decreases-loop-at
decreases-loop-at g l = l.end - l.at
