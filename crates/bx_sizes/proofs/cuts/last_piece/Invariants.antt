use Rattle.std.proofs.Common.{◌-◌, ◌≤◌, []}
use Rattle.bx_blink.specs.Hints.{Under}
use Rattle.bx_truth.specs.PageTrees.{PageTree, map_of}
use Rattle.bx_views.specs.Truths.{Truth}
use Rattle.bx_sizes.specs.Clearing.{HasNone}
use Rattle.bx_sizes.proofs.Halves.{IsFoundBelow, IsThere}
use Rattle.bx_sizes.proofs.cuts.last_piece.Given as goal

abbrev pub invariant-loop-low : goal.invariant-loop-low
invariant-loop-low g l = record {
  low : l.from ≤ l.low;
  high : l.high ≤ l.end;
  within : IsFoundBelow l.from l.low l.end l.found;
  none : (truth : Truth) (tree : PageTree) → Under l.areas (g.V.View.held l.view) (g.V.View.hints l.view) truth [] l.root tree → HasNone (map_of tree) l.high l.end;
  there : (truth : Truth) (tree : PageTree) → Under l.areas (g.V.View.held l.view) (g.V.View.hints l.view) truth [] l.root tree → IsThere (map_of tree) l.found;
}

abbrev pub decreases-loop-low : goal.decreases-loop-low
decreases-loop-low g l = l.high - l.low
