-- The directory that a new entry of a name comes into.
use Rattle.std.specs.Prelude.{◌≡◌, ℕ, ◌<◌, ◌⊎◌, List, [], None, Some, IsSome, Result, Ok, Err}
use Rattle.bx_base.specs.declared.names.Mode.{Mode}
use Rattle.bx_base.specs.declared.names.Mode.TheVariants.{Exclusive}
use Rattle.bx_blink.specs.Walks.{reads_with}
use Rattle.bx_entries.specs.Finding.{IsDirectoryOf}
use Rattle.bx_entries.specs.declared.taking.Known.{Known}
use Rattle.bx_files.specs.Paths.{OnSearch}
use Rattle.bx_places.specs.Handles.{named}
use Rattle.bx_inodes.specs.Inodes.{LiveAt}
use Rattle.bx_inodes.specs.Stops.{OnInode}
use Rattle.bx_inodes.specs.declared.stop.Stop.{Stop}
use Rattle.bx_inodes.specs.declared.stop.Stop.TheVariants.{Need, Inner, Status, OutOfMemory}
use Rattle.bx_layout.specs.declared.inode.Inode.{Inode}
use Rattle.bx_model.specs.declared.call.Call.{Call}
use Rattle.bx_model.specs.declared.tree.Tree.{Tree}
use Rattle.bx_model.specs.Making.{new_place}
use Rattle.bx_tree_files.specs.declared.file.Name.{Name}
use Rattle.bx_tree_files.specs.Entries.{entry_named}
use Rattle.bx_tree_files.specs.Names.{names_of}
use Rattle.bx_truth.specs.Keys.{name_key}
use Rattle.bx_views.specs.Truths.{Held, Hints, Truth}

-- what is answered of a name that no entry may have: 17 is EXIST
abbrev pub AbsentIn : List Name → List ℕ → Result (Unit {0}) Stop → Type 0
AbsentIn names name (Ok done) = entry_named names name ≡ None
AbsentIn names name (Err (Status status)) = (status ≡ 17) × IsSome (entry_named names name)
AbsentIn names name (Err (Need at mode)) = Unit {0}
AbsentIn names name (Err (Inner blocks)) = ⊥
AbsentIn names name (Err OutOfMemory) = Unit {0}

-- a directory of a file tree, by its inode, in which no entry has a name and which has a number left for one
pub record IsPlaceFor (volume areas : ℕ) (held : Held) (hints : Hints) (truth : Truth) (tree : Tree) (handle : ℕ) (inode : Inode) (name : List ℕ) : Type 0 where
  pub directory : IsDirectoryOf volume areas held hints truth tree handle inode
  pub absent : entry_named (names_of directory.at.file.body) name ≡ None
  pub number : inode.next < 4294967295

-- It is the one that the call names; with 8 blocks free, which stand for enough, the call meets no error, and with fewer NOSPC (28).
pub record FindsPlace (volume areas : ℕ) (held : Held) (hints : Hints) (truth : Truth) (tree : Tree) (call : Call) (at name : List ℕ) (known : Known) : Type 0 where
  pub place : IsPlaceFor volume areas held hints truth tree known.handle known.inode name
  pub enough : new_place tree call at name 8 ≡ Ok place.directory.at.file
  pub full : (spare : ℕ) → spare < 8 → new_place tree call at name spare ≡ Err 28

abbrev pub PlaceIn : ℕ → ℕ → Held → Hints → Truth → Tree → Call → List ℕ → List ℕ → Result Known Stop → Type 0
PlaceIn volume areas held hints truth tree call at name (Ok known) = FindsPlace volume areas held hints truth tree call at name known
PlaceIn volume areas held hints truth tree call at name (Err (Status status)) = new_place tree call at name 8 ≡ Err status
PlaceIn volume areas held hints truth tree call at name (Err (Need at' mode)) = Unit {0}
PlaceIn volume areas held hints truth tree call at name (Err (Inner blocks)) = ⊥
PlaceIn volume areas held hints truth tree call at name (Err OutOfMemory) = Unit {0}

-- the directory that a call names, whose inode is held exclusively
pub record IsHeldAt (held : Held) (hints : Hints) (volume areas : ℕ) (bytes : List ℕ) (handle : ℕ) (inode : Inode) : Type 0 where
  pub is_named : named volume bytes ≡ Some handle
  pub live : LiveAt (reads_with held hints []) areas handle Exclusive inode

-- the search for a name in it
pub record OnNameSearch (held : Held) (hints : Hints) (volume areas : ℕ) (bytes name : List ℕ) (at : ℕ) (mode : Mode) : Type 0 where
  pub handle : ℕ
  pub inode : Inode
  pub is : IsHeldAt held hints volume areas bytes handle inode
  pub on : OnSearch held hints inode.tree (name_key name) at mode

-- the path: the block of the directory's inode, exclusively, and that of the search for the name
abbrev pub OnFinding : Held → Hints → ℕ → ℕ → List ℕ → List ℕ → ℕ → Mode → Type 0
OnFinding held hints volume areas bytes name at mode = OnInode volume bytes Exclusive at mode ⊎ OnNameSearch held hints volume areas bytes name at mode
