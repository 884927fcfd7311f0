-- What putting an entry into a directory rests on, and what it leaves.
use Rattle.std.specs.Prelude.{◌≡◌, ◌≢◌, ℕ, ◌+◌, ◌<◌, ◌≤◌, Bool, if◌then◌else◌, List, None, Some, Result, Ok, Err}
use Rattle.bx_inodes.specs.Fitting.{HintsFitAll}
use Rattle.bx_inodes.specs.Inodes.{HoldsInode}
use Rattle.bx_changes.specs.declared.error.ChangeError.{ChangeError}
use Rattle.bx_changes.specs.declared.error.ChangeError.TheVariants.{Stopped, Full}
use Rattle.bx_directory_reads.specs.bx_dirs.specs.Changes.{AddsAt, entry_of}
use Rattle.bx_inodes.specs.Writing.{PutsInode}
use Rattle.bx_inodes.specs.declared.stop.Stop.TheVariants.{Need, Inner, Status, OutOfMemory}
use Rattle.bx_layout.specs.declared.block.Block.{Block}
use Rattle.bx_layout.specs.declared.inode.Inode.{Inode}
use Rattle.bx_model.specs.Edits.{changed}
use Rattle.bx_model.specs.declared.tree.Tree.{Tree}
use Rattle.bx_records.specs.Drafts.{Changed}
use Rattle.bx_tree_files.specs.declared.file.Body.TheVariants.{Names}
use Rattle.bx_tree_files.specs.declared.file.File.{File}
use Rattle.bx_tree_files.specs.declared.file.Name.{Name}
use Rattle.bx_tree_files.specs.Changes.{entered}
use Rattle.bx_tree_files.specs.Entries.{entry_named}
use Rattle.bx_tree_files.specs.Files.{IsNumbered, file_at}
use Rattle.bx_tree_files.specs.Times.{Time}
use Rattle.bx_truth.specs.Chunks.{chunks_of}
use Rattle.bx_truth.specs.Stands.{StandsFor}
use Rattle.bx_truth.specs.Stored.{HasFields}
use Rattle.bx_views.specs.Truths.{Truth, Held, Hints, IsTruth, with_draft}
use Rattle.bx_entries.specs.Rooms.{HasRooms}

-- A truth that agrees with a view stands, with a draft, for a tree, whose page trees all hints fit. Its file with a handle is a directory, with
-- this inode, in which no entry has this name; another one may come into it, and its tree has room for it.
pub record MayEnter (areas : ℕ) (held : Held) (hints : Hints) (truth : Truth) (draft : List Changed) (tree : Tree) (handle : ℕ) (inode : Inode) (file : File) (name : List ℕ) : Type 0 where
  pub few : areas ≤ 64
  pub same : IsTruth held truth
  pub is : StandsFor areas (with_draft truth draft) tree
  pub fit : HintsFitAll areas hints (with_draft truth draft)
  pub there : file_at tree.files handle ≡ Some file
  pub handle_is : file.handle ≡ handle
  pub holds : HoldsInode areas (with_draft truth draft) handle inode
  pub fields : HasFields inode file
  pub parent : ℕ
  pub next : ℕ
  pub names : List Name
  pub body : file.body ≡ Names parent next names
  pub absent : entry_named names name ≡ None
  pub numbered : IsNumbered file.nlink file.body
  pub number : inode.next < 4294967295
  pub rooms : HasRooms areas held truth draft inode.tree name inode.next

-- the inode of a directory with one more entry, changed now; a directory that comes in counts among its links
abbrev pub entered_inode : Inode → Time → Bool → Inode
entered_inode inode now counts = record inode { nlink = if counts then inode.nlink + 1 else inode.nlink; next = inode.next + 1; mtime = now; ctime = now }

-- a directory may have one more entry, and one more directory in it, if its numbers have room for them
abbrev pub HasNumbers : Inode → Bool → Type 0
HasNumbers inode counts = (inode.next < 4294967295) × ((if counts then inode.nlink else 0) < 4294967295)

-- The truth with the new draft stands for the tree with the entry in the directory. Of all chunks but the directory's inode only pages changed,
-- and all hints that fitted still fit.
pub record Enters (areas : ℕ) (truth : Truth) (old new : List Changed) (tree : Tree) (handle : ℕ) (inode : Inode) (name : List ℕ) (made : ℕ) (counts : Bool) (now : Time) : Type 0 where
  pub stands : StandsFor areas (with_draft truth new) (changed tree handle (entered now name made counts))
  pub holds : HoldsInode areas (with_draft truth new) handle (entered_inode inode now counts)
  pub kept : (other : ℕ) (block : Block) → other ≢ handle → chunks_of areas (with_draft truth old) other ≡ Some block → block.kind ≢ 2 → chunks_of areas (with_draft truth new) other ≡ Some block
  pub leads : (hints : Hints) → HintsFitAll areas hints (with_draft truth old) → HintsFitAll areas hints (with_draft truth new)

-- the entry is put under both its keys, and then the directory's inode is put
pub record PutsInAt (held : Held) (hints : Hints) (old new : List Changed) (directory : ℕ) (inode : Inode) (name : List ℕ) (made : ℕ) (counts : Bool) (now : Time) : Type 0 where
  pub mid : List Changed
  pub adds : AddsAt held hints old mid inode.tree (entry_of inode.next name made) (Ok tt)
  pub puts : PutsInode mid new directory (entered_inode inode now counts)

-- What it answers, by the tree. It is stopped for want of a block or of memory alone.
abbrev pub EntersIn : ℕ → Truth → List Changed → Tree → ℕ → Inode → List ℕ → ℕ → Bool → Time → Result (List Changed) ChangeError → Type 0
EntersIn areas truth old tree handle inode name made counts now (Ok new) = Enters areas truth old new tree handle inode name made counts now
EntersIn areas truth old tree handle inode name made counts now (Err (Stopped (Need at mode))) = Unit {0}
EntersIn areas truth old tree handle inode name made counts now (Err (Stopped OutOfMemory)) = Unit {0}
EntersIn areas truth old tree handle inode name made counts now (Err (Stopped (Status status))) = ⊥
EntersIn areas truth old tree handle inode name made counts now (Err (Stopped (Inner blocks))) = ⊥
EntersIn areas truth old tree handle inode name made counts now (Err (Full spare)) = ⊥
