-- What LOOKUP comes to by the directory, and what it asks for.
use Rattle.std.specs.Prelude.{◌≡◌, ℕ, ◌⊎◌, if◌then◌else◌, List, codes, Option, Some, None, Result, Ok, Err}
use Rattle.bx_base.specs.declared.names.Mode.{Mode}
use Rattle.bx_base.specs.declared.names.Mode.TheVariants.{Shared}
use Rattle.bx_reads.specs.bx_files.specs.Paths.{LandsAtValue, IsBlockOf, OnSearch}
use Rattle.bx_reads.specs.bx_inodes.specs.declared.stop.Stop.{Stop}
use Rattle.bx_reads.specs.bx_inodes.specs.declared.stop.Stop.TheVariants.{Need, Inner, Status, OutOfMemory}
use Rattle.bx_reads.specs.bx_inodes.specs.Stops.{OnInode}
use Rattle.bx_layout.specs.declared.inode.Inode.{Inode}
use Rattle.bx_model.specs.declared.call.Call.{Call}
use Rattle.bx_model.specs.declared.permissions.Want.{Want}
use Rattle.bx_model.specs.declared.status.TheConstants.{ACCES, NOTDIR}
use Rattle.bx_model.specs.declared.tree.Tree.{Tree}
use Rattle.bx_model.specs.Permissions.{may}
use Rattle.bx_model.specs.Reading.{handle_reply, meant}
use Rattle.bx_model.specs.Steps.{Outcome, must, ◌>>=◌}
use Rattle.bx_reads.specs.Files.{IsSeen}
use Rattle.bx_tree_files.specs.declared.file.File.{File}
use Rattle.bx_tree_files.specs.Files.{file_at, is_directory}
use Rattle.bx_truth.specs.Keys.{name_key, name_value}
use Rattle.bx_views.specs.Truths.{Held, Hints}

-- the error that a caller who looks into a file so, as into a directory, meets: NOTDIR where it is none, ACCES without the right
abbrev pub open_error : Want → Call → File → Option ℕ
open_error wanted call file = if is_directory file then (if may call file wanted then None else Some ACCES) else Some NOTDIR

-- What a name means in a directory: the file with a handle; 2 is NOENT, where it means none.
abbrev pub MeansIn : Tree → File → List ℕ → Result ℕ Stop → Type 0
MeansIn tree directory name (Ok handle) = meant tree directory name ≡ file_at tree.files handle
MeansIn tree directory name (Err (Status status)) = (status ≡ 2) × (meant tree directory name ≡ None)
MeansIn tree directory name (Err (Need at mode)) = Unit {0}
MeansIn tree directory name (Err (Inner blocks)) = ⊥
MeansIn tree directory name (Err OutOfMemory) = Unit {0}

-- what LOOKUP comes to by the file that the name means, if it means one
abbrev pub telling : Tree → Option File → Outcome
telling tree found = must found 2 >>= (λ file. Ok (handle_reply tree file, tree))

-- a search in the tree under a root finds that a name is that of an entry with this handle
pub record FindsName (held : Held) (hints : Hints) (root : ℕ) (name : List ℕ) (handle : ℕ) : Type 0 where
  pub number : ℕ
  pub found : LandsAtValue held hints root (name_key name) (Some (name_value number handle))

-- what a name may mean in a directory: itself, its parent, or what is found
abbrev pub MayMean : Held → Hints → ℕ → Inode → List ℕ → ℕ → Type 0
MayMean held hints directory inode name handle =
    ((name ≡ codes ".") × (handle ≡ directory)) ⊎ (((name ≡ codes "..") × (handle ≡ inode.parent)) ⊎ FindsName held hints inode.tree name handle)

-- the block of the inode of what the name means
pub record IsMeantBlock (held : Held) (hints : Hints) (directory : ℕ) (inode : Inode) (name : List ℕ) (at : ℕ) (mode : Mode) : Type 0 where
  pub handle : ℕ
  pub means : MayMean held hints directory inode name handle
  pub is : IsBlockOf handle at mode

-- the path from a directory on: that of the search for the name, and the block of what it means
pub record OnName (held : Held) (hints : Hints) (volume areas : ℕ) (bytes name : List ℕ) (at : ℕ) (mode : Mode) : Type 0 where
  pub directory : ℕ
  pub inode : Inode
  pub seen : IsSeen held hints volume areas bytes directory inode
  pub on : OnSearch held hints inode.tree (name_key name) at mode ⊎ IsMeantBlock held hints directory inode name at mode

-- the path of LOOKUP: the inode of the directory that is named, and that from there on
abbrev pub OnLooking : Held → Hints → ℕ → ℕ → List ℕ → List ℕ → ℕ → Mode → Type 0
OnLooking held hints volume areas bytes name at mode = OnInode volume bytes Shared at mode ⊎ OnName held hints volume areas bytes name at mode
