-- Directories of a file tree, and what a change of their entries makes of it.
use Rattle.std.specs.Prelude.{◌≡◌, ◌≢◌, ℕ, ◌≤◌, List, Some}
use Rattle.bx_layout.specs.declared.block.Block.{Block}
use Rattle.bx_layout.specs.declared.inode.Inode.{Inode}
use Rattle.bx_model.specs.declared.tree.Tree.{Tree}
use Rattle.bx_records.specs.Drafts.{Changed}
use Rattle.bx_tree_files.specs.declared.file.Body.TheVariants.{Names}
use Rattle.bx_tree_files.specs.declared.file.File.{File}
use Rattle.bx_tree_files.specs.declared.file.Name.{Name}
use Rattle.bx_tree_files.specs.Files.{file_at, with_file}
use Rattle.bx_truth.specs.Chunks.{chunks_of}
use Rattle.bx_truth.specs.Stands.{StandsFor}
use Rattle.bx_views.specs.Truths.{Truth, Held, Hints, IsTruth, with_draft}
use Rattle.bx_inodes.specs.Inodes.{HoldsInode}
use Rattle.bx_inodes.specs.Fitting.{HintsFitAll}

-- What a change of a directory rests on, for a truth that with the draft stands for a tree: the file with a handle is a directory with these
-- entries, whose inode has this root, and the hints fit all trees.
pub record IsDirectoryUnder (areas : ℕ) (held : Held) (hints : Hints) (truth : Truth) (draft : List Changed) (root : ℕ) (tree : Tree) (handle : ℕ) (file : File) (parent next : ℕ) (names : List Name) : Type 0 where
  pub few : areas ≤ 64
  pub same : IsTruth held truth
  pub is : StandsFor areas (with_draft truth draft) tree
  pub fit : HintsFitAll areas hints (with_draft truth draft)
  pub inode : Inode
  pub holds : HoldsInode areas (with_draft truth draft) handle inode
  pub root_is : inode.tree ≡ root
  pub there : file_at tree.files handle ≡ Some file
  pub body : file.body ≡ Names parent next names

-- the file with other entries
abbrev pub with_names : File → ℕ → ℕ → List Name → File
with_names file parent next names = record file { body = Names parent next names }

-- The truth with the new draft stands for the tree with the directory anew, and what a change of it rests on holds again. Of all chunks only
-- pages changed, and all other hints that fitted still fit.
pub record EditsDirectory (areas : ℕ) (held : Held) (hints : Hints) (truth : Truth) (old new : List Changed) (root : ℕ) (tree : Tree) (handle : ℕ) (file : File) (parent next : ℕ) (names : List Name) : Type 0 where
  pub directory : IsDirectoryUnder areas held hints truth new root (record tree { files = with_file tree.files (with_names file parent next names) }) handle (with_names file parent next names) parent next names
  pub kept : (other : ℕ) (block : Block) → chunks_of areas (with_draft truth old) other ≡ Some block → block.kind ≢ 2 → chunks_of areas (with_draft truth new) other ≡ Some block
  pub leads : (other : Hints) → HintsFitAll areas other (with_draft truth old) → HintsFitAll areas other (with_draft truth new)
