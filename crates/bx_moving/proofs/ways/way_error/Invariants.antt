use Rattle.std.proofs.Common.{◌≡◌, ℕ, ◌-◌, true}
use Rattle.bx_inodes.specs.Stands.{Stands}
use Rattle.bx_model.specs.FileTrees.{is_directory_at}
use Rattle.bx_model.specs.Moves.{way_errors}
use Rattle.bx_model.specs.declared.tree.Tree.{Tree}
use Rattle.bx_views.specs.Truths.{IsTruth, Truth}
use Rattle.bx_moving.specs.Ways.{IsAbove}
use Rattle.bx_moving.proofs.ways.way_error.Given as goal

abbrev pub invariant-loop-moves : goal.invariant-loop-moves
invariant-loop-moves g l = record {
  done : (volume : ℕ) (truth : Truth) (tree : Tree) → IsTruth (g.V.View.held l.view) truth → Stands volume l.areas truth tree → is_directory_at tree.files l.directory ≡ true
      → (way_errors tree 512 l.directory l.handle ≡ way_errors tree (512 - l._moves) l.at l.handle) × (is_directory_at tree.files l.at ≡ true);
  reached : IsAbove (g.V.View.held l.view) (g.V.View.hints l.view) l.areas l.directory l.at;
}
