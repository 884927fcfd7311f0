-- REMOVE and RMDIR: what they do with the directory, the entry and the file that they find.
use Rattle.std.specs.Prelude.{◌≡◌, ℕ, ◌≤◌, ◌⊎◌, true, false, if◌then◌else◌, List, [], Option, Some, None, Result, Ok, Err}
use Rattle.bx_base.specs.declared.names.Mode.{Mode}
use Rattle.bx_base.specs.declared.names.Mode.TheVariants.{Exclusive}
use Rattle.bx_directory_reads.specs.bx_dirs.specs.Changes.{OnTakePath}
use Rattle.bx_places.specs.Handles.{parts_of}
use Rattle.bx_inodes.specs.Fitting.{HintsFitAll}
use Rattle.bx_inodes.specs.Inodes.{IsInodeOf}
use Rattle.bx_inodes.specs.Stands.{Stands}
use Rattle.bx_inodes.specs.declared.stop.Stop.{Stop}
use Rattle.bx_inodes.specs.declared.stop.Stop.TheVariants.{Need, Inner, Status, OutOfMemory}
use Rattle.bx_layout.specs.declared.inode.Inode.{Inode}
use Rattle.bx_model.specs.declared.call.Call.{Call}
use Rattle.bx_model.specs.declared.permissions.Want.{Want}
use Rattle.bx_model.specs.declared.status.TheConstants.{ACCES, NOTDIR}
use Rattle.bx_model.specs.declared.tree.Tree.{Tree}
use Rattle.bx_model.specs.Permissions.{may}
use Rattle.bx_model.specs.Removing.{has_entries}
use Rattle.bx_model.specs.Renaming.{without_replaced}
use Rattle.bx_records.specs.Drafts.{Changed}
use Rattle.bx_tree_files.specs.declared.file.Body.TheVariants.{Names}
use Rattle.bx_tree_files.specs.declared.file.File.{File}
use Rattle.bx_tree_files.specs.declared.file.Name.{Name}
use Rattle.bx_tree_files.specs.Entries.{entry_named, is_bad}
use Rattle.bx_tree_files.specs.Files.{is_directory}
use Rattle.bx_tree_files.specs.Times.{Time}
use Rattle.bx_truth.specs.Chunks.{own_block}
use Rattle.bx_truth.specs.Stands.{StandsFor}
use Rattle.bx_views.specs.Truths.{Truth, Held, Hints, IsTruth, with_draft}

-- the error that a caller meets who uses a name in a file, with this right: NOTDIR where it is no directory, ACCES of a bad name and without the right
abbrev pub name_error : Want → Call → List ℕ → File → Option ℕ
name_error wanted call name file = if is_directory file then (if is_bad name then Some ACCES else if may call file wanted then None else Some ACCES) else Some NOTDIR

-- A directory of a file tree, by its inode, with an entry of a name by its number, and the file that the entry names, by its inode, which has no
-- entries where it is a directory.
pub record IsRemoval (volume areas : ℕ) (held : Held) (hints : Hints) (truth : Truth) (tree : Tree) (directory : ℕ) (inode : Inode) (number : ℕ) (name : List ℕ) (handle : ℕ) (of : Inode) : Type 0 where
  pub few : areas ≤ 64
  pub same : IsTruth held truth
  pub stands : Stands volume areas truth tree
  pub fit : HintsFitAll areas hints truth
  pub at : IsInodeOf areas truth tree directory inode
  pub kind : inode.kind ≡ 2
  pub parent : ℕ
  pub next : ℕ
  pub names : List Name
  pub body : at.file.body ≡ Names parent next names
  pub found : entry_named names name ≡ Some (record { number = number; name = name; handle = handle })
  pub file : IsInodeOf areas truth tree handle of
  pub empty : is_directory file.file ≡ true → has_entries file.file ≡ false

-- the tree in which the entry is no more, and the file has one name less or is no more, as a directory then is
abbrev pub removed : Tree → File → List ℕ → File → Time → Tree
removed tree directory name file now = without_replaced now tree directory name (Some file)

-- the truth with the draft stands for it, and all hints that fitted still fit
pub record RemovesEntry (areas : ℕ) (truth : Truth) (new : List Changed) (next : Tree) : Type 0 where
  pub stands : StandsFor areas (with_draft truth new) next
  pub leads : (hints : Hints) → HintsFitAll areas hints truth → HintsFitAll areas hints (with_draft truth new)

-- What removing answers. It is stopped for want of a block or of memory alone.
abbrev pub RemovesIn : ℕ → Truth → Tree → Result (List Changed) Stop → Type 0
RemovesIn areas truth next (Ok new) = RemovesEntry areas truth new next
RemovesIn areas truth next (Err (Need at mode)) = Unit {0}
RemovesIn areas truth next (Err OutOfMemory) = Unit {0}
RemovesIn areas truth next (Err (Status status)) = ⊥
RemovesIn areas truth next (Err (Inner blocks)) = ⊥

-- the name that a file loses is its last one: it is a directory, or has one link at most
abbrev pub IsLastName : Inode → Type 0
IsLastName inode = (inode.kind ≡ 2) ⊎ (inode.nlink ≤ 1)

-- the path of taking a name from a file: where it is the last one, the own block of the file's area, exclusively
abbrev pub OnUnlinking : ℕ → Inode → ℕ → Mode → Type 0
OnUnlinking handle of at mode = IsLastName of × (at ≡ own_block (parts_of handle).area) × (mode ≡ Exclusive)

-- the path: that of taking the entry out, and that of taking the name from the file
abbrev pub OnRemoving : Held → Hints → ℕ → ℕ → List ℕ → ℕ → Inode → ℕ → Mode → Type 0
OnRemoving held hints root number name handle of at mode = OnTakePath held hints [] root number name at mode ⊎ OnUnlinking handle of at mode
