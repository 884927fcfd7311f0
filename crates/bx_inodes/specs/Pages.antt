-- A file's pages, and what calls on its tree rest on.
use Rattle.std.specs.Prelude.{ℕ, List}
use Rattle.bx_layout.specs.declared.inode.Inode.{Inode}
use Rattle.bx_blink.specs.bx_model.specs.declared.tree.Tree.{Tree}
use Rattle.bx_blink.specs.bx_records.specs.Drafts.{Changed}
use Rattle.bx_blink.specs.bx_tree_files.specs.declared.file.File.{File}
use Rattle.bx_blink.specs.bx_truth.specs.Chunks.{chunks_of}
use Rattle.bx_blink.specs.bx_truth.specs.PageTrees.{PageTree}
use Rattle.bx_blink.specs.bx_truth.specs.Stands.{StandsFor}
use Rattle.bx_blink.specs.bx_truth.specs.Stored.{HasBody}
use Rattle.bx_blink.specs.bx_views.specs.Truths.{Truth, Held, Hints, with_draft}
use Rattle.bx_inodes.specs.Hints.{Under}

-- The file with a handle has these pages under its inode's root: calls on a tree may rest on them, and its body is what they have.
pub record HasPages (areas : ℕ) (held : Held) (hints : Hints) (truth : Truth) (draft : List Changed) (tree : Tree) (is : StandsFor areas (with_draft truth draft) tree) (handle : ℕ) (inode : Inode) (file : File) : Type 0 where
  pub pages : PageTree
  pub under : Under areas held hints truth draft inode.tree pages
  pub body : HasBody (chunks_of areas (with_draft truth draft)) is.owner handle (record { inode = inode; tree = pages }) file.body
