-- What taking a name from a file leaves.
use Rattle.std.specs.Prelude.{◌≡◌, ◌≢◌, ℕ, true, false, if◌then◌else◌, List, Some, Result, Ok, Err}
use Rattle.bx_inodes.specs.Fitting.{HintsFitAll}
use Rattle.bx_inodes.specs.Inodes.{HoldsInode}
use Rattle.bx_inodes.specs.declared.stop.Stop.{Stop}
use Rattle.bx_inodes.specs.declared.stop.Stop.TheVariants.{Need, Inner, Status, OutOfMemory}
use Rattle.bx_layout.specs.declared.inode.Inode.{Inode}
use Rattle.bx_model.specs.Opening.{root_handle}
use Rattle.bx_model.specs.Edits.{without}
use Rattle.bx_model.specs.Removing.{has_entries, without_link}
use Rattle.bx_model.specs.declared.tree.Tree.{Tree}
use Rattle.bx_records.specs.Drafts.{Changed}
use Rattle.bx_tree_files.specs.declared.file.File.{File}
use Rattle.bx_tree_files.specs.Files.{file_at, is_directory}
use Rattle.bx_tree_files.specs.Times.{Time}
use Rattle.bx_truth.specs.Stands.{StandsFor}
use Rattle.bx_truth.specs.Stored.{HasFields}
use Rattle.bx_views.specs.Truths.{Truth, Held, Hints, IsTruth, with_draft}

-- A truth that agrees with a view stands, with a draft, for a tree whose file with a handle has this inode, isn't the root, and has no entries
-- where it is a directory.
pub record IsFileOf (areas : ℕ) (held : Held) (truth : Truth) (draft : List Changed) (tree : Tree) (handle : ℕ) (inode : Inode) (file : File) : Type 0 where
  pub same : IsTruth held truth
  pub is : StandsFor areas (with_draft truth draft) tree
  pub there : file_at tree.files handle ≡ Some file
  pub handle_is : file.handle ≡ handle
  pub holds : HoldsInode areas (with_draft truth draft) handle inode
  pub fields : HasFields inode file
  pub empty : is_directory file ≡ true → has_entries file ≡ false
  pub not_root : handle ≢ root_handle

-- the tree in which a file has one name less, or is no more, as a directory then is
abbrev pub without_name_of : Time → Tree → ℕ → File → Tree
without_name_of now tree handle file = if is_directory file then without tree handle else without_link now tree handle file.nlink

-- The truth with the new draft stands for that tree; and all hints that fitted still fit.
pub record Unlinks (areas : ℕ) (truth : Truth) (old new : List Changed) (tree : Tree) (handle : ℕ) (file : File) (now : Time) : Type 0 where
  pub stands : StandsFor areas (with_draft truth new) (without_name_of now tree handle file)
  pub leads : (hints : Hints) → HintsFitAll areas hints (with_draft truth old) → HintsFitAll areas hints (with_draft truth new)

-- What it answers, by the tree. It is stopped for want of a block or of memory alone.
abbrev pub UnlinksIn : ℕ → Truth → List Changed → List Changed → Tree → ℕ → File → Time → Result (Unit {0}) Stop → Type 0
UnlinksIn areas truth old new tree handle file now (Ok done) = Unlinks areas truth old new tree handle file now
UnlinksIn areas truth old new tree handle file now (Err (Need at mode)) = Unit {0}
UnlinksIn areas truth old new tree handle file now (Err OutOfMemory) = Unit {0}
UnlinksIn areas truth old new tree handle file now (Err (Status status)) = ⊥
UnlinksIn areas truth old new tree handle file now (Err (Inner blocks)) = ⊥
