-- Steps in which a dead file loses what it has.
use Rattle.std.specs.Prelude.{ℕ, ◌≤◌}
use Rattle.bx_inodes.specs.Fitting.{HintsFitAll}
use Rattle.bx_layout.specs.Areas.{generation_in}
use Rattle.bx_model.specs.declared.tree.Tree.{Tree}
use Rattle.bx_truth.specs.Chunks.{IsSlot, word_at}
use Rattle.bx_truth.specs.Stands.{StandsFor}
use Rattle.bx_views.specs.Truths.{Truth, Hints}

-- The truth stands for the same tree of files, no generation falls, and all hints that fitted still fit.
pub record Cleans (areas : ℕ) (truth now : Truth) (tree : Tree) : Type 0 where
  pub stands : StandsFor areas now tree
  pub given : (block : ℕ) → IsSlot areas block → generation_in (word_at truth block) ≤ generation_in (word_at now block)
  pub leads : (hints : Hints) → HintsFitAll areas hints truth → HintsFitAll areas hints now
