-- What a procedure rests on.
use Rattle.std.specs.Prelude.{◌≡◌, ℕ}
use Rattle.bx_blink.specs.bx_model.specs.declared.tree.Tree.{Tree}
use Rattle.bx_blink.specs.bx_model.specs.FileTrees.{IsFileTree}
use Rattle.bx_blink.specs.bx_truth.specs.Stands.{StandsFor}
use Rattle.bx_blink.specs.bx_views.specs.Truths.{Truth}

-- The truth of a volume with this number and so many areas stands for the tree, which is a file tree.
pub record Stands (volume areas : ℕ) (truth : Truth) (tree : Tree) : Type 0 where
  pub is : StandsFor areas truth tree
  pub volume_is : tree.volume ≡ volume
  pub file_tree : IsFileTree tree
