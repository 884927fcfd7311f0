-- What REMOVE and RMDIR find: the directory, the entry of a name, and the file that it names; and their paths.
use Rattle.std.specs.Prelude.{◌≡◌, ℕ, ◌≤◌, ◌⊎◌, not, if◌then◌else◌, List, [], Option, Some, None, Result, Ok, Err}
use Rattle.bx_base.specs.declared.names.Mode.{Mode}
use Rattle.bx_base.specs.declared.names.Mode.TheVariants.{Exclusive}
use Rattle.bx_blink.specs.Walks.{reads_with}
use Rattle.bx_changes.specs.bx_files.specs.Paths.{LandsAtValue, OnSearch}
use Rattle.bx_places.specs.Handles.{named}
use Rattle.bx_inodes.specs.Fitting.{HintsFitAll}
use Rattle.bx_inodes.specs.Inodes.{IsInodeOf, LiveAt}
use Rattle.bx_inodes.specs.Stands.{Stands}
use Rattle.bx_inodes.specs.Stops.{OnInode}
use Rattle.bx_inodes.specs.declared.stop.Stop.{Stop}
use Rattle.bx_inodes.specs.declared.stop.Stop.TheVariants.{Need, Inner, Status, OutOfMemory}
use Rattle.bx_layout.specs.declared.inode.Inode.{Inode}
use Rattle.bx_model.specs.declared.call.Call.{Call}
use Rattle.bx_model.specs.declared.permissions.Want.{Want}
use Rattle.bx_model.specs.declared.status.TheConstants.{ACCES, NOTDIR, STALE}
use Rattle.bx_model.specs.declared.reply.Reply.TheVariants as reply
use Rattle.bx_model.specs.declared.tree.Tree.{Tree}
use Rattle.bx_model.specs.Permissions.{may}
use Rattle.bx_model.specs.Removing.{has_entries, remove, rmdir}
use Rattle.bx_model.specs.Steps.{Outcome, must, refuse, ◌>>=◌, ◌>>◌}
use Rattle.bx_records.specs.Drafts.{Changed}
use Rattle.bx_tree_files.specs.declared.file.File.{File}
use Rattle.bx_tree_files.specs.declared.file.Name.{Name}
use Rattle.bx_tree_files.specs.Entries.{entry_named, is_bad}
use Rattle.bx_tree_files.specs.Files.{file_at, is_directory}
use Rattle.bx_tree_files.specs.Times.{Time}
use Rattle.bx_truth.specs.Chunks.{block_at}
use Rattle.bx_truth.specs.Keys.{name_key, name_value}
use Rattle.bx_views.specs.Truths.{Truth, Held, Hints, IsTruth}
use Rattle.bx_directory_reads.specs.Listings.{OnBehind}
use Rattle.bx_entries.specs.declared.finding.Removable.{Removable}
use Rattle.bx_entries.specs.declared.finding.Removable.TheVariants as of
use Rattle.bx_entries.specs.Removing.{OnRemoving, RemovesEntry, name_error, removed}

-- the directory in which a caller may use a name, with a right, if a file is found
abbrev pub usable : Want → Call → List ℕ → Option File → Result File ℕ
usable wanted call name found = do
  directory ← must found STALE
  refuse (not (is_directory directory)) NOTDIR
  refuse (is_bad name) ACCES
  refuse (not (may call directory wanted)) ACCES
  Ok directory

-- what a call comes to that removes a file of one sort or the other: REMOVE, or RMDIR
abbrev pub removal : Removable → Tree → Call → List ℕ → List ℕ → Time → Outcome
removal of.Plain tree call at name now = remove tree call at name now
removal of.Directory tree call at name now = rmdir tree call at name now

-- the error that a file is to its removal: of a file that is no directory, ISDIR (21) where it is one; of a directory without entries, NOTDIR (20)
-- where it is none, and NOTEMPTY (66) where it has entries
abbrev pub removal_error : Removable → File → Option ℕ
removal_error of.Plain file = if is_directory file then Some 21 else None
removal_error of.Directory file = if is_directory file then (if has_entries file then Some 66 else None) else Some 20

-- the error, if there is one, or else what comes
abbrev pub unless : Option ℕ → Outcome → Outcome
unless None next = next
unless (Some status) next = Err status

-- what the call comes to with a file that the entry names, if it is there
abbrev pub removing : Removable → Tree → File → List ℕ → Time → Option File → Outcome
removing sort tree directory name now found = must found 70 >>= (λ file. unless (removal_error sort file) (Ok (reply.Status 0, removed tree directory name file now)))

-- what it comes to with an entry of the name, if there is one: 2 is NOENT
abbrev pub removing_entry : Removable → Tree → File → List ℕ → Time → Option Name → Outcome
removing_entry sort tree directory name now found = must found 2 >>= (λ entry. removing sort tree directory name now (file_at tree.files entry.handle))

-- the directory is there, and the caller has the right
pub record MayUse (wanted : Want) (areas : ℕ) (truth : Truth) (tree : Tree) (call : Call) (name : List ℕ) (handle : ℕ) (inode : Inode) : Type 0 where
  pub at : IsInodeOf areas truth tree handle inode
  pub may : name_error wanted call name at.file ≡ None

abbrev pub DirectoryFor : Want → ℕ → Truth → Tree → Call → List ℕ → ℕ → Result Inode Stop → Type 0
DirectoryFor wanted areas truth tree call name handle (Ok inode) = MayUse wanted areas truth tree call name handle inode
DirectoryFor wanted areas truth tree call name handle (Err (Status status)) = usable wanted call name (file_at tree.files handle) ≡ Err status
DirectoryFor wanted areas truth tree call name handle (Err (Need at mode)) = Unit {0}
DirectoryFor wanted areas truth tree call name handle (Err (Inner blocks)) = ⊥
DirectoryFor wanted areas truth tree call name handle (Err OutOfMemory) = Unit {0}

-- what looking for an entry of a name answers, by the list of entries
abbrev pub EntryFor : List Name → List ℕ → Result (ℕ × ℕ) Stop → Type 0
EntryFor names name (Ok found) = entry_named names name ≡ Some (record { number = found.0; name = name; handle = found.1 })
EntryFor names name (Err (Status status)) = (status ≡ 2) × (entry_named names name ≡ None)
EntryFor names name (Err (Need at mode)) = Unit {0}
EntryFor names name (Err (Inner blocks)) = ⊥
EntryFor names name (Err OutOfMemory) = Unit {0}

-- the file is there, and nothing is against its removal
pub record MayRemove (sort : Removable) (areas : ℕ) (truth : Truth) (tree : Tree) (handle : ℕ) (inode : Inode) : Type 0 where
  pub at : IsInodeOf areas truth tree handle inode
  pub may : removal_error sort at.file ≡ None

abbrev pub FileFor : Removable → ℕ → Truth → Tree → File → List ℕ → Time → ℕ → Result Inode Stop → Type 0
FileFor sort areas truth tree directory name now handle (Ok inode) = MayRemove sort areas truth tree handle inode
FileFor sort areas truth tree directory name now handle (Err (Status status)) = removing sort tree directory name now (file_at tree.files handle) ≡ Err status
FileFor sort areas truth tree directory name now handle (Err (Need at mode)) = Unit {0}
FileFor sort areas truth tree directory name now handle (Err (Inner blocks)) = ⊥
FileFor sort areas truth tree directory name now handle (Err OutOfMemory) = Unit {0}

-- a file of a file tree, by its inode
pub record IsKnownFile (volume areas : ℕ) (held : Held) (hints : Hints) (truth : Truth) (tree : Tree) (handle : ℕ) (inode : Inode) : Type 0 where
  pub few : areas ≤ 64
  pub same : IsTruth held truth
  pub stands : Stands volume areas truth tree
  pub fit : HintsFitAll areas hints truth
  pub at : IsInodeOf areas truth tree handle inode

-- a directory of a file tree, by its inode
pub record IsDirectoryOf (volume areas : ℕ) (held : Held) (hints : Hints) (truth : Truth) (tree : Tree) (handle : ℕ) (inode : Inode) : Type 0 where
  pub few : areas ≤ 64
  pub same : IsTruth held truth
  pub stands : Stands volume areas truth tree
  pub fit : HintsFitAll areas hints truth
  pub at : IsInodeOf areas truth tree handle inode
  pub kind : inode.kind ≡ 2

-- what the call comes to is what the draft leaves
pub record RemovesSo (areas : ℕ) (truth : Truth) (outcome : Outcome) (new : List Changed) : Type 0 where
  pub next : Tree
  pub comes_to : outcome ≡ Ok (reply.Status 0, next)
  pub removes : RemovesEntry areas truth new next

abbrev pub RemovesFrom : ℕ → Truth → Outcome → Result (List Changed) Stop → Type 0
RemovesFrom areas truth outcome (Ok new) = RemovesSo areas truth outcome new
RemovesFrom areas truth outcome (Err (Status status)) = outcome ≡ Err status
RemovesFrom areas truth outcome (Err (Need at mode)) = Unit {0}
RemovesFrom areas truth outcome (Err (Inner blocks)) = ⊥
RemovesFrom areas truth outcome (Err OutOfMemory) = Unit {0}

-- ---- the paths

-- the block of a handle, exclusively
abbrev pub IsOwnBlock : ℕ → ℕ → Mode → Type 0
IsOwnBlock handle at mode = (at ≡ block_at handle) × (mode ≡ Exclusive)

-- the way to the first entry of the directory whose tree is under a root, where a directory is to be removed
abbrev pub OnEmptiness : Removable → Held → Hints → ℕ → ℕ → Mode → Type 0
OnEmptiness of.Plain held hints root at mode = ⊥
OnEmptiness of.Directory held hints root at mode = OnBehind held hints root 0 at mode

-- the same of the directory with a handle, by the inode that is held
pub record OnFirst (sort : Removable) (held : Held) (hints : Hints) (areas handle at : ℕ) (mode : Mode) : Type 0 where
  pub inode : Inode
  pub live : LiveAt (reads_with held hints []) areas handle Exclusive inode
  pub on : OnEmptiness sort held hints inode.tree at mode

-- the block of the file to remove; of a directory the way to its first entry besides
abbrev pub OnFile : Removable → Held → Hints → ℕ → ℕ → ℕ → Mode → Type 0
OnFile sort held hints areas handle at mode = IsOwnBlock handle at mode ⊎ OnFirst sort held hints areas handle at mode

-- the path of removing the entry of the file with a handle, by the inode that is held
pub record OnRemoved (held : Held) (hints : Hints) (areas root number : ℕ) (name : List ℕ) (handle at : ℕ) (mode : Mode) : Type 0 where
  pub inode : Inode
  pub live : LiveAt (reads_with held hints []) areas handle Exclusive inode
  pub on : OnRemoving held hints root number name handle inode at mode

-- from an entry that a search finds on: that of what it names, and the path of removing it
pub record OnFound (sort : Removable) (held : Held) (hints : Hints) (areas root : ℕ) (name : List ℕ) (at : ℕ) (mode : Mode) : Type 0 where
  pub number : ℕ
  pub handle : ℕ
  pub found : LandsAtValue held hints root (name_key name) (Some (name_value number handle))
  pub on : OnFile sort held hints areas handle at mode ⊎ OnRemoved held hints areas root number name handle at mode

-- from a directory's root on: the search for the name, and that from the entry on
abbrev pub OnNamed : Removable → Held → Hints → ℕ → ℕ → List ℕ → ℕ → Mode → Type 0
OnNamed sort held hints areas root name at mode = OnSearch held hints root (name_key name) at mode ⊎ OnFound sort held hints areas root name at mode

-- from the directory that is named, and held, on
pub record OnDirectory (sort : Removable) (held : Held) (hints : Hints) (volume areas : ℕ) (bytes name : List ℕ) (at : ℕ) (mode : Mode) : Type 0 where
  pub directory : ℕ
  pub inode : Inode
  pub is_named : named volume bytes ≡ Some directory
  pub live : LiveAt (reads_with held hints []) areas directory Exclusive inode
  pub on : OnNamed sort held hints areas inode.tree name at mode

-- The path of a removal: the inode of the directory that is named, exclusively, and that from there on.
abbrev pub OnRemoval : Removable → Held → Hints → ℕ → ℕ → List ℕ → List ℕ → ℕ → Mode → Type 0
OnRemoval sort held hints volume areas bytes name at mode = OnInode volume bytes Exclusive at mode ⊎ OnDirectory sort held hints volume areas bytes name at mode
