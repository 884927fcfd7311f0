-- Drafts that leave the files as they are.
use Rattle.std.specs.Prelude.{◌≡◌, ◌≢◌, ℕ, Some}
use Rattle.std.specs.Prelude.{List}
use Rattle.bx_inodes.specs.Fitting.{HintsFitAll}
use Rattle.bx_layout.specs.declared.block.Block.{Block}
use Rattle.bx_model.specs.declared.tree.Tree.{Tree}
use Rattle.bx_records.specs.Drafts.{Changed}
use Rattle.bx_truth.specs.Chunks.{chunks_of}
use Rattle.bx_truth.specs.Stands.{StandsFor}
use Rattle.bx_views.specs.Truths.{Truth, Hints, with_draft}

-- The truth with the new draft stands for the same tree. All chunks but pages stay, and all hints that fitted still fit.
pub record KeepsFiles (areas : ℕ) (truth : Truth) (old new : List Changed) (tree : Tree) : Type 0 where
  pub stands : StandsFor areas (with_draft truth new) tree
  pub kept : (handle : ℕ) (block : Block) → chunks_of areas (with_draft truth old) handle ≡ Some block → block.kind ≢ 2 → chunks_of areas (with_draft truth new) handle ≡ Some block
  pub leads : (other : Hints) → HintsFitAll areas other (with_draft truth old) → HintsFitAll areas other (with_draft truth new)
