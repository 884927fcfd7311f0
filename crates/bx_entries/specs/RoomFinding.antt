-- What looking for room for an entry answers, and what it asks for.
use Rattle.std.specs.Prelude.{ℕ, ◌⊎◌, List, [], Result, Ok, Err}
use Rattle.bx_base.specs.declared.names.Mode.{Mode}
use Rattle.bx_changes.specs.Growing.{IsNearlyFull, LeavesTrees}
use Rattle.bx_changes.specs.declared.error.ChangeError.{ChangeError}
use Rattle.bx_changes.specs.declared.error.ChangeError.TheVariants.{Stopped, Full}
use Rattle.bx_inodes.specs.declared.stop.Stop.TheVariants.{Need, Inner, Status, OutOfMemory}
use Rattle.bx_ready.specs.Lacking.{FindsRoom}
use Rattle.bx_ready.specs.Ready.{IsReady, OnReadyPath}
use Rattle.bx_truth.specs.Keys.{entry_key, name_key}
use Rattle.bx_views.specs.Truths.{Truth, Held, Hints}
use Rattle.bx_entries.specs.Lacking.{FindsBoth}
use Rattle.bx_entries.specs.Rooms.{HasRooms}

-- an entry finds room under the key of a name and under that of a number, below no missing separator
pub record IsReadyFor (areas : ℕ) (held : Held) (truth : Truth) (root : ℕ) (name : List ℕ) (number : ℕ) : Type 0 where
  pub rooms : HasRooms areas held truth [] root name number
  pub by_name : IsReady rooms.pages (name_key name)
  pub by_number : IsReady rooms.pages (entry_key number)

-- The same of one key, under the root of the tree of an inode that a truth has.
abbrev pub ReadyIn : ℕ → Truth → ℕ → List ℕ → Result (Unit {0}) ChangeError → Type 0
ReadyIn areas truth root key (Ok done) = FindsRoom areas truth root key
ReadyIn areas truth root key (Err (Stopped (Inner blocks))) = LeavesTrees areas truth blocks
ReadyIn areas truth root key (Err (Full spare)) = IsNearlyFull areas truth spare × (FindsRoom areas truth root key → ⊥)
ReadyIn areas truth root key (Err (Stopped (Need at mode))) = Unit {0}
ReadyIn areas truth root key (Err (Stopped OutOfMemory)) = Unit {0}
ReadyIn areas truth root key (Err (Stopped (Status status))) = ⊥

-- What is answered of a directory, by its inode: the blocks to be written first leave each tree, and fewer than 8 blocks are free where it is
-- full, and room is lacking. The status never comes.
abbrev pub RoomIn : ℕ → Held → Truth → ℕ → List ℕ → ℕ → Result (Unit {0}) ChangeError → Type 0
RoomIn areas held truth root name number (Ok done) = IsReadyFor areas held truth root name number
RoomIn areas held truth root name number (Err (Stopped (Inner blocks))) = LeavesTrees areas truth blocks
RoomIn areas held truth root name number (Err (Full spare)) = IsNearlyFull areas truth spare × (FindsBoth areas truth root name number → ⊥)
RoomIn areas held truth root name number (Err (Stopped (Need at mode))) = Unit {0}
RoomIn areas held truth root name number (Err (Stopped OutOfMemory)) = Unit {0}
RoomIn areas held truth root name number (Err (Stopped (Status status))) = ⊥

-- the path, near an area: that of each key
abbrev pub OnRoomPath : ℕ → ℕ → Held → Hints → ℕ → List ℕ → ℕ → ℕ → Mode → Type 0
OnRoomPath near areas held hints root name number at mode = OnReadyPath near areas held hints root (name_key name) at mode ⊎ OnReadyPath near areas held hints root (entry_key number) at mode
