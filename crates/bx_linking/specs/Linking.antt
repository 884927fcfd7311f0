-- LINK: what it comes to by what it finds, and its path.
use Rattle.std.specs.Prelude.{◌≡◌, ℕ, ◌≤◌, ◌⊎◌, nat_le, false, List, [], Option, None, Some, Result, Ok, Err}
use Rattle.bx_entries.specs.RoomFinding.{IsReadyFor, OnRoomPath}
use Rattle.bx_entries.specs.Lacking.{FindsBoth}
use Rattle.bx_base.specs.declared.names.Mode.{Mode}
use Rattle.bx_base.specs.declared.names.Mode.TheVariants.{Exclusive}
use Rattle.bx_blink.specs.Walks.{reads_with}
use Rattle.bx_changes.specs.declared.error.ChangeError.{ChangeError}
use Rattle.bx_changes.specs.declared.error.ChangeError.TheVariants.{Stopped, Full}
use Rattle.bx_changes.specs.Growing.{IsNearlyFull, LeavesTrees}
use Rattle.bx_entries.specs.bx_dirs.specs.Changes.{OnAddPath, entry_of}
use Rattle.bx_entries.specs.Finding.{usable}
use Rattle.bx_changes.specs.bx_files.specs.Paths.{OnSearch}
use Rattle.bx_places.specs.Handles.{named, parts_of}
use Rattle.bx_inodes.specs.Fitting.{HintsFitAll}
use Rattle.bx_inodes.specs.Inodes.{IsInodeOf, LiveAt}
use Rattle.bx_inodes.specs.Stands.{Stands}
use Rattle.bx_inodes.specs.Stops.{OnInode}
use Rattle.bx_inodes.specs.declared.stop.Stop.{Stop}
use Rattle.bx_inodes.specs.declared.stop.Stop.TheVariants.{Need, Inner, Status, OutOfMemory}
use Rattle.bx_layout.specs.declared.inode.Inode.{Inode}
use Rattle.bx_model.specs.declared.call.Call.{Call}
use Rattle.bx_model.specs.declared.permissions.Want.TheVariants as want
use Rattle.bx_model.specs.declared.reply.Reply.TheVariants as reply
use Rattle.bx_model.specs.declared.status.TheConstants.{DQUOT, EXIST, NFS_OK, NOSPC, PERM}
use Rattle.bx_model.specs.declared.tree.Tree.{Tree}
use Rattle.bx_model.specs.Edits.{changed}
use Rattle.bx_model.specs.Making.{entry_errors, has_entry}
use Rattle.bx_model.specs.Steps.{Outcome, refuse, ◌>>=◌, ◌>>◌}
use Rattle.bx_tree_files.specs.declared.file.File.{File}
use Rattle.bx_tree_files.specs.declared.file.Name.{Name}
use Rattle.bx_tree_files.specs.Changes.{entered, linked}
use Rattle.bx_tree_files.specs.Entries.{entry_named}
use Rattle.bx_tree_files.specs.Files.{is_directory}
use Rattle.bx_tree_files.specs.Times.{Time}
use Rattle.bx_truth.specs.Keys.{name_key}
use Rattle.bx_records.specs.Drafts.{Changed}
use Rattle.bx_views.specs.Truths.{Held, Hints, IsTruth, Truth}
use Rattle.bx_linking.specs.Drafting.{Leaves}

-- the tree in which the file has one more name, in a directory
abbrev pub with_link : Tree → File → File → List ℕ → Time → Tree
with_link tree file directory name now = changed (changed tree directory.handle (entered now name file.handle false)) file.handle (linked now)

-- the errors of one more name for a file in a directory
abbrev pub link_errors : File → File → List ℕ → ℕ → Result (Unit {0}) ℕ
link_errors file directory name spare = do
  refuse (is_directory file) PERM
  refuse (has_entry directory name) EXIST
  refuse (nat_le 32000 file.nlink) DQUOT
  entry_errors directory spare

-- what LINK comes to with a directory, and with one if it is there
abbrev pub linking_in : Tree → File → List ℕ → Time → ℕ → File → Outcome
linking_in tree file name now spare directory = do
  link_errors file directory name spare
  Ok (reply.Status NFS_OK, with_link tree file directory name now)

abbrev pub linking : Tree → Call → File → List ℕ → Time → ℕ → Option File → Outcome
linking tree call file name now spare found = usable want.Change call name found >>= (λ directory. linking_in tree file name now spare directory)

-- A file and a directory of a file tree, by their inodes.
pub record IsLinking (volume areas : ℕ) (held : Held) (hints : Hints) (truth : Truth) (tree : Tree) (handle : ℕ) (of : Inode) (directory : ℕ) (inode : Inode) : Type 0 where
  pub few : areas ≤ 64
  pub same : IsTruth held truth
  pub stands : Stands volume areas truth tree
  pub fit : HintsFitAll areas hints truth
  pub file : IsInodeOf areas truth tree handle of
  pub at : IsInodeOf areas truth tree directory inode
  pub kind : inode.kind ≡ 2

-- the entry of a name is told, or that there is none, unless a block is needed first or memory ran out
abbrev pub TellsEntry : List Name → List ℕ → Result (Option (ℕ × ℕ)) Stop → Type 0
TellsEntry names name (Ok None) = entry_named names name ≡ None
TellsEntry names name (Ok (Some found)) = entry_named names name ≡ Some (record { number = found.0; name = name; handle = found.1 })
TellsEntry names name (Err (Need at mode)) = Unit {0}
TellsEntry names name (Err (Inner blocks)) = ⊥
TellsEntry names name (Err (Status status)) = ⊥
TellsEntry names name (Err OutOfMemory) = Unit {0}

-- What looking for an error answers, with 8 blocks free: the error that there is, or that there is none.
abbrev pub LinkErrorIn : File → File → List ℕ → Result (Option ℕ) Stop → Type 0
LinkErrorIn file directory name (Ok None) = link_errors file directory name 8 ≡ Ok tt
LinkErrorIn file directory name (Ok (Some status)) = link_errors file directory name 8 ≡ Err status
LinkErrorIn file directory name (Err (Need at mode)) = Unit {0}
LinkErrorIn file directory name (Err (Inner blocks)) = ⊥
LinkErrorIn file directory name (Err (Status status)) = ⊥
LinkErrorIn file directory name (Err OutOfMemory) = Unit {0}

-- The file may have one more name, in the directory, whose tree has room for it.
pub record MayLink (areas : ℕ) (held : Held) (truth : Truth) (file directory : File) (inode : Inode) (name : List ℕ) : Type 0 where
  pub none : link_errors file directory name 8 ≡ Ok tt
  pub ready : IsReadyFor areas held truth inode.tree name inode.next

-- What testing for that answers. Blocks are to be written first only where there is no error with 8 blocks free; and it is full only where there is
-- none either, and room is lacking.
abbrev pub MayLinkIn : ℕ → Held → Truth → File → File → Inode → List ℕ → Result (Unit {0}) ChangeError → Type 0
MayLinkIn areas held truth file directory inode name (Ok done) = MayLink areas held truth file directory inode name
MayLinkIn areas held truth file directory inode name (Err (Stopped (Status status))) = link_errors file directory name 8 ≡ Err status
MayLinkIn areas held truth file directory inode name (Err (Stopped (Need at mode))) = Unit {0}
MayLinkIn areas held truth file directory inode name (Err (Stopped (Inner blocks))) = LeavesTrees areas truth blocks × (link_errors file directory name 8 ≡ Ok tt)
MayLinkIn areas held truth file directory inode name (Err (Stopped OutOfMemory)) = Unit {0}
MayLinkIn areas held truth file directory inode name (Err (Full spare)) =
    IsNearlyFull areas truth spare × (link_errors file directory name spare ≡ Err NOSPC) × (FindsBoth areas truth inode.tree name inode.next → ⊥)

-- What giving the name to the file answers. It is stopped for want of a block or of memory alone.
abbrev pub LinksIn : ℕ → Truth → Tree → Result (List Changed) ChangeError → Type 0
LinksIn areas truth next (Ok new) = Leaves areas truth new next
LinksIn areas truth next (Err (Stopped (Need at mode))) = Unit {0}
LinksIn areas truth next (Err (Stopped OutOfMemory)) = Unit {0}
LinksIn areas truth next (Err (Stopped (Status status))) = ⊥
LinksIn areas truth next (Err (Stopped (Inner blocks))) = ⊥
LinksIn areas truth next (Err (Full spare)) = ⊥

-- ---- the path

-- that of testing: the search for the name, and that to room for it
abbrev pub OnTest : ℕ → Held → Hints → ℕ → Inode → List ℕ → ℕ → Mode → Type 0
OnTest areas held hints directory inode name at mode = OnSearch held hints inode.tree (name_key name) at mode ⊎ OnRoomPath (parts_of directory).area areas held hints inode.tree name inode.next at mode

-- from a directory's inode on: that, and that of putting the entry
abbrev pub OnPlace : ℕ → Held → Hints → ℕ → Inode → List ℕ → ℕ → ℕ → Mode → Type 0
OnPlace areas held hints directory inode name handle at mode = OnTest areas held hints directory inode name at mode ⊎ OnAddPath held hints [] inode.tree (entry_of inode.next name handle) at mode

-- from the directory that is named, and held, on
pub record OnLinkDirectory (held : Held) (hints : Hints) (volume areas handle : ℕ) (bytes name : List ℕ) (at : ℕ) (mode : Mode) : Type 0 where
  pub directory : ℕ
  pub inode : Inode
  pub is_named : named volume bytes ≡ Some directory
  pub live : LiveAt (reads_with held hints []) areas directory Exclusive inode
  pub on : OnPlace areas held hints directory inode name handle at mode

-- from the file that is named on: the inode of the directory that is named, exclusively, and that from there on
abbrev pub OnInto : Held → Hints → ℕ → ℕ → ℕ → List ℕ → List ℕ → ℕ → Mode → Type 0
OnInto held hints volume areas handle bytes name at mode = OnInode volume bytes Exclusive at mode ⊎ OnLinkDirectory held hints volume areas handle bytes name at mode

pub record OnLinkFile (held : Held) (hints : Hints) (volume areas : ℕ) (from bytes name : List ℕ) (at : ℕ) (mode : Mode) : Type 0 where
  pub handle : ℕ
  pub inode : Inode
  pub is_named : named volume from ≡ Some handle
  pub live : LiveAt (reads_with held hints []) areas handle Exclusive inode
  pub on : OnInto held hints volume areas handle bytes name at mode

-- The path of LINK: the inode of the file that is named, exclusively, and that from there on.
abbrev pub OnLink : Held → Hints → ℕ → ℕ → List ℕ → List ℕ → List ℕ → ℕ → Mode → Type 0
OnLink held hints volume areas from bytes name at mode = OnInode volume from Exclusive at mode ⊎ OnLinkFile held hints volume areas from bytes name at mode
