use Rattle.std.proofs.Common.{◌≡◌, ◌≤◌, ◌∷◌, reverse, Ok}
use Rattle.bx_truth.specs.PageTrees.{Chunks, PageTree, IsTree}
use Rattle.bx_audit_pages.specs.Leading.{AreLedTo}
use Rattle.bx_audit_pages.specs.Pages.{BeginningsRise}
use Rattle.bx_audit_pages.specs.Shown.{Shows}
use Rattle.bx_audit_pages.proofs.Descents.{Stack}
use Rattle.bx_audit_pages.specs.Reading.{ReadsChunks, StillShows}
use Rattle.bx_audit_pages.proofs.trees.tree_under.Given as goal

abbrev pub invariant-loop-level : goal.invariant-loop-level
invariant-loop-level g l = record {
  blocks : ReadsChunks {A = Unit {0}} g.B.Blocks l.fn.blocks l.blocks (Ok tt);
  shows : StillShows g.B.Blocks l.areas l.fn.blocks l.blocks;
  led : (chunks : Chunks) → Shows (g.B.Blocks.tells l.fn.blocks) l.areas (g.B.Blocks.stands l.fn.blocks) chunks → AreLedTo chunks l.root l.lowest;
  rise : BeginningsRise l.lowest;
  read : (chunks : Chunks) → Shows (g.B.Blocks.tells l.fn.blocks) l.areas (g.B.Blocks.stands l.fn.blocks) chunks → Stack chunks l.root l.level (l.lowest ∷ reverse l.levels.items);
  any : (chunks : Chunks) → Shows (g.B.Blocks.tells l.fn.blocks) l.areas (g.B.Blocks.stands l.fn.blocks) chunks → (tree : PageTree) → IsTree chunks l.root tree → (l.level ≤ tree.height) × (tree.level l.level ≡ l.lowest);
}

abbrev pub decreases-loop-level : goal.decreases-loop-level
decreases-loop-level g l = l.level
