-- What taking an entry out of a directory rests on, and what it leaves.
use Rattle.std.specs.Prelude.{◌≡◌, ◌≢◌, ℕ, ◌-◌, ◌≤◌, Bool, if◌then◌else◌, List, Some, Result, Ok, Err}
use Rattle.bx_directory_reads.specs.bx_dirs.specs.Changes.{TakesAt}
use Rattle.bx_inodes.specs.Fitting.{HintsFitAll}
use Rattle.bx_inodes.specs.Inodes.{HoldsInode}
use Rattle.bx_inodes.specs.Writing.{PutsInode}
use Rattle.bx_inodes.specs.declared.stop.Stop.{Stop}
use Rattle.bx_inodes.specs.declared.stop.Stop.TheVariants.{Need, Inner, Status, OutOfMemory}
use Rattle.bx_layout.specs.declared.block.Block.{Block}
use Rattle.bx_layout.specs.declared.inode.Inode.{Inode}
use Rattle.bx_model.specs.declared.tree.Tree.{Tree}
use Rattle.bx_records.specs.Drafts.{Changed}
use Rattle.bx_tree_files.specs.declared.file.Body.TheVariants.{Names}
use Rattle.bx_tree_files.specs.declared.file.File.{File}
use Rattle.bx_tree_files.specs.declared.file.Name.{Name}
use Rattle.bx_tree_files.specs.Changes.{taken_out}
use Rattle.bx_tree_files.specs.Entries.{entry_named}
use Rattle.bx_tree_files.specs.Files.{file_at, with_file}
use Rattle.bx_tree_files.specs.Times.{Time}
use Rattle.bx_truth.specs.Chunks.{chunks_of}
use Rattle.bx_truth.specs.Stands.{StandsFor}
use Rattle.bx_truth.specs.Stored.{HasFields}
use Rattle.bx_views.specs.Truths.{Truth, Held, Hints, IsTruth, with_draft}

-- A truth that agrees with a view stands, with a draft, for a tree, whose page trees all hints fit. Its file with a handle is a directory, with
-- this inode, in which an entry has this name and this number.
pub record IsEntryOf (areas : ℕ) (held : Held) (hints : Hints) (truth : Truth) (draft : List Changed) (tree : Tree) (handle : ℕ) (inode : Inode) (file : File) (number : ℕ) (name : List ℕ) : Type 0 where
  pub few : areas ≤ 64
  pub same : IsTruth held truth
  pub is : StandsFor areas (with_draft truth draft) tree
  pub fit : HintsFitAll areas hints (with_draft truth draft)
  pub there : file_at tree.files handle ≡ Some file
  pub handle_is : file.handle ≡ handle
  pub holds : HoldsInode areas (with_draft truth draft) handle inode
  pub fields : HasFields inode file
  pub kind : inode.kind ≡ 2
  pub parent : ℕ
  pub next : ℕ
  pub names : List Name
  pub body : file.body ≡ Names parent next names
  pub entry : Name
  pub found : entry_named names name ≡ Some entry
  pub number_is : entry.number ≡ number

-- The truth with the new draft stands for another tree. Of all chunks but the inode of one file only pages changed, and all hints that fitted
-- still fit.
pub record LeavesOthers (areas : ℕ) (truth : Truth) (old new : List Changed) (next : Tree) (handle : ℕ) : Type 0 where
  pub stands : StandsFor areas (with_draft truth new) next
  pub kept : (other : ℕ) (block : Block) → other ≢ handle → chunks_of areas (with_draft truth old) other ≡ Some block → block.kind ≢ 2 → chunks_of areas (with_draft truth new) other ≡ Some block
  pub leads : (hints : Hints) → HintsFitAll areas hints (with_draft truth old) → HintsFitAll areas hints (with_draft truth new)

-- how many links a directory has after an entry of it went; the entry may be that of a directory, which counts among them
abbrev pub links_left : Bool → ℕ → ℕ
links_left counts nlink = if counts then nlink - 1 else nlink

-- the directory's inode without the entry, changed now
abbrev pub inode_without : Bool → Time → Inode → Inode
inode_without counts now inode = record inode { nlink = links_left counts inode.nlink; mtime = now; ctime = now }

-- the entry is taken out under both its keys, and then the directory's inode is put
pub record TakesOutAt (held : Held) (hints : Hints) (old new : List Changed) (directory : ℕ) (inode : Inode) (number : ℕ) (name : List ℕ) (counts : Bool) (now : Time) : Type 0 where
  pub mid : List Changed
  pub takes : TakesAt held hints old mid inode.tree number name (Ok tt)
  pub puts : PutsInode mid new directory (inode_without counts now inode)

-- the tree with the directory without the entry of a name, changed now
abbrev pub without_entry_of : Tree → File → List ℕ → Bool → Time → Tree
without_entry_of tree directory name counts now = record tree { files = with_file tree.files (taken_out now name counts directory) }

-- What taking the entry out answers, by the tree. It is stopped for want of a block or of memory alone.
abbrev pub TakesEntry : ℕ → Truth → List Changed → Tree → ℕ → File → List ℕ → Bool → Time → Result (List Changed) Stop → Type 0
TakesEntry areas truth old tree handle directory name counts now (Ok new) = LeavesOthers areas truth old new (without_entry_of tree directory name counts now) handle
TakesEntry areas truth old tree handle directory name counts now (Err (Need at mode)) = Unit {0}
TakesEntry areas truth old tree handle directory name counts now (Err OutOfMemory) = Unit {0}
TakesEntry areas truth old tree handle directory name counts now (Err (Status status)) = ⊥
TakesEntry areas truth old tree handle directory name counts now (Err (Inner blocks)) = ⊥
