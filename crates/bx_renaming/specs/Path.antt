-- The path of RENAME.
use Rattle.std.specs.Prelude.{◌≡◌, ◌≢◌, ℕ, ◌⊎◌, List, [], Option, None, Some}
use Rattle.bx_linking.specs.RoomFinding.{OnRoomPath}
use Rattle.bx_base.specs.declared.names.Mode.{Mode}
use Rattle.bx_base.specs.declared.names.Mode.TheVariants.{Exclusive}
use Rattle.bx_blink.specs.Walks.{reads_with}
use Rattle.bx_linking.specs.bx_directory_reads.specs.Listings.{OnBehind}
use Rattle.bx_linking.specs.bx_entries.specs.declared.taking.Known.{Known}
use Rattle.bx_changes.specs.bx_files.specs.Paths.{LandsAtValue}
use Rattle.bx_places.specs.Handles.{named, parts_of}
use Rattle.bx_inodes.specs.Inodes.{LiveAt}
use Rattle.bx_inodes.specs.Stops.{OnInode}
use Rattle.bx_layout.specs.declared.inode.Inode.{Inode}
use Rattle.bx_moving.specs.declared.moves.Moving.{Moving}
use Rattle.bx_moving.specs.declared.moves.Replaced.{Replaced}
use Rattle.bx_moving.specs.Moves.{OnMoving}
use Rattle.bx_truth.specs.Keys.{name_key, name_value}
use Rattle.bx_views.specs.Truths.{Held, Hints}
use Rattle.bx_moving.specs.Ways.{OnWay}
use Rattle.bx_renaming.specs.declared.places.Places.{Places}
use Rattle.bx_renaming.specs.Found.{OnEntry}
use Rattle.bx_renaming.specs.Renaming.{move_of, replaced_by}

-- the source is named, and held
pub record OnTarget (held : Held) (hints : Hints) (volume areas : ℕ) (from to : List ℕ) (at : ℕ) (mode : Mode) : Type 0 where
  pub source : ℕ
  pub inode : Inode
  pub is_named : named volume from ≡ Some source
  pub live : LiveAt (reads_with held hints []) areas source Exclusive inode
  pub on : OnInode volume to Exclusive at mode

-- both directories are named, and held
pub record AreHeld (held : Held) (hints : Hints) (volume areas : ℕ) (from to : List ℕ) (source target : ℕ) (inode other : Inode) : Type 0 where
  pub source_named : named volume from ≡ Some source
  pub source_live : LiveAt (reads_with held hints []) areas source Exclusive inode
  pub target_named : named volume to ≡ Some target
  pub target_live : LiveAt (reads_with held hints []) areas target Exclusive other

-- what an entry of a name is, in the directory whose tree is under a root: a file that is held
pub record IsFoundAs (held : Held) (hints : Hints) (areas root : ℕ) (name : List ℕ) (number : ℕ) (known : Known) : Type 0 where
  pub found : LandsAtValue held hints root (name_key name) (Some (name_value number known.handle))
  pub live : LiveAt (reads_with held hints []) areas known.handle Exclusive known.inode

-- where a move meets no error: room for the new name in the directory that it goes to, near that, and the move
abbrev pub OnMove : Held → Hints → ℕ → Known → Moving → List ℕ → List ℕ → Option Replaced → ℕ → Mode → Type 0
OnMove held hints areas target moving name new_name replaced at mode =
    OnRoomPath (parts_of target.handle).area areas held hints target.inode.tree new_name target.inode.next at mode ⊎ OnMoving held hints areas moving name new_name replaced at mode

-- the way up from the target, where a directory moves into another one
abbrev pub OnUp : Held → Hints → ℕ → Places → Known → ℕ → Mode → Type 0
OnUp held hints areas places moved at mode = (moved.inode.kind ≡ 2) × (places.source.handle ≢ places.target.handle) × OnWay held hints areas places.target.handle at mode

-- that, and then the move of the file, by the number of its entry, and with the one whose name it takes
abbrev pub OnTested : Held → Hints → ℕ → Places → ℕ → Known → List ℕ → List ℕ → Option Replaced → ℕ → Mode → Type 0
OnTested held hints areas places number moved name new_name replaced at mode =
    OnUp held hints areas places moved at mode ⊎ OnMove held hints areas places.target (move_of places number moved) name new_name replaced at mode

-- the way to the first entry of a directory whose name another one takes
abbrev pub OnEmptiness : Held → Hints → Known → Known → ℕ → Mode → Type 0
OnEmptiness held hints moved other at mode = (moved.inode.kind ≡ 2) × (other.inode.kind ≡ 2) × OnBehind held hints other.inode.tree 0 at mode

-- what a move asks for that takes another file's name, by the numbers of both entries
abbrev pub OnReplacing : Held → Hints → ℕ → Places → ℕ → Known → ℕ → Known → List ℕ → List ℕ → ℕ → Mode → Type 0
OnReplacing held hints areas places number moved second other name new_name at mode =
    OnEmptiness held hints moved other at mode ⊎ OnTested held hints areas places number moved name new_name (Some (replaced_by second other)) at mode

-- the same of the file that is found under the new name
pub record OnOther (held : Held) (hints : Hints) (areas : ℕ) (places : Places) (number : ℕ) (moved : Known) (name new_name : List ℕ) (at : ℕ) (mode : Mode) : Type 0 where
  pub second : ℕ
  pub other : Known
  pub found : IsFoundAs held hints areas places.target.inode.tree new_name second other
  pub on : OnReplacing held hints areas places number moved second other name new_name at mode

-- from the search for the new name on: that, and the move, by what has the name
abbrev pub OnOnto : Held → Hints → ℕ → Places → ℕ → Known → List ℕ → List ℕ → ℕ → Mode → Type 0
OnOnto held hints areas places number moved name new_name at mode = OnEntry held hints places.target.inode.tree new_name at mode
    ⊎ (OnTested held hints areas places number moved name new_name None at mode ⊎ OnOther held hints areas places number moved name new_name at mode)

-- the same of the file that is found under the name
pub record OnMoved (held : Held) (hints : Hints) (areas : ℕ) (places : Places) (name new_name : List ℕ) (at : ℕ) (mode : Mode) : Type 0 where
  pub number : ℕ
  pub moved : Known
  pub found : IsFoundAs held hints areas places.source.inode.tree name number moved
  pub on : OnOnto held hints areas places number moved name new_name at mode

-- from both directories on: the search for the name, and that
abbrev pub OnPlaces : Held → Hints → ℕ → Places → List ℕ → List ℕ → ℕ → Mode → Type 0
OnPlaces held hints areas places name new_name at mode = OnEntry held hints places.source.inode.tree name at mode ⊎ OnMoved held hints areas places name new_name at mode

pub record OnBetween (held : Held) (hints : Hints) (volume areas : ℕ) (from name to new_name : List ℕ) (at : ℕ) (mode : Mode) : Type 0 where
  pub places : Places
  pub held_so : AreHeld held hints volume areas from to places.source.handle places.target.handle places.source.inode places.target.inode
  pub on : OnPlaces held hints areas places name new_name at mode

-- The path of RENAME: the inode of the first directory that is named, then that of the second, exclusively, and that from both on.
abbrev pub OnRename : Held → Hints → ℕ → ℕ → List ℕ → List ℕ → List ℕ → List ℕ → ℕ → Mode → Type 0
OnRename held hints volume areas from name to new_name at mode =
    OnInode volume from Exclusive at mode ⊎ (OnTarget held hints volume areas from to at mode ⊎ OnBetween held hints volume areas from name to new_name at mode)
