-- A new file, and the entry of a directory that names it.
use Rattle.std.specs.Prelude.{◌≡◌, ℕ, ◌⊎◌, true, List, [], Some, Result, Ok, Err}
use Rattle.bx_entries.specs.RoomFinding.{OnRoomPath}
use Rattle.bx_base.specs.declared.names.Mode.{Mode}
use Rattle.bx_changes.specs.Growing.{IsNearlyFull, LeavesTrees}
use Rattle.bx_changes.specs.declared.error.ChangeError.{ChangeError}
use Rattle.bx_changes.specs.declared.error.ChangeError.TheVariants.{Stopped, Full}
use Rattle.bx_chunks.specs.Allocating.{AllocatesAt}
use Rattle.bx_chunks.specs.Taking.{OnSlots}
use Rattle.bx_chunks.specs.declared.error.ChunkError.{ChunkError}
use Rattle.bx_entries.specs.bx_dirs.specs.Changes.{OnAddPath, entry_of}
use Rattle.bx_places.specs.Handles.{named, parts_of}
use Rattle.bx_inodes.specs.Fitting.{HintsFitAll}
use Rattle.bx_inodes.specs.declared.stop.Stop.TheVariants.{Need, Inner, Status, OutOfMemory}
use Rattle.bx_layout.specs.declared.inode.Inode.{Inode}
use Rattle.bx_entries.specs.bx_making.specs.Links.{LinksAt}
use Rattle.bx_entries.specs.bx_making.specs.Made.{MakesFile, file_of}
use Rattle.bx_entries.specs.bx_making.specs.Making.{MakesAt}
use Rattle.bx_model.specs.Edits.{is_unused}
use Rattle.bx_model.specs.Making.{with_made}
use Rattle.bx_model.specs.declared.tree.Tree.{Tree}
use Rattle.bx_records.specs.Drafts.{Changed}
use Rattle.bx_tree_files.specs.declared.file.Body.{Body}
use Rattle.bx_tree_files.specs.Times.{Time}
use Rattle.bx_truth.specs.Stands.{StandsFor}
use Rattle.bx_views.specs.Truths.{Held, Hints, Truth, with_draft}

-- ---- a file is made

-- What making a file answers, for a truth: it is full where fewer than 8 blocks are free, and the status never comes.
abbrev pub MakesNew : ℕ → Truth → Tree → Inode → Body → Result (List Changed × ℕ) ChangeError → Type 0
MakesNew areas truth tree inode body (Ok made) = MakesFile areas truth [] made.0 tree inode body made.1
MakesNew areas truth tree inode body (Err (Full spare)) = IsNearlyFull areas truth spare
MakesNew areas truth tree inode body (Err (Stopped (Need at mode))) = Unit {0}
MakesNew areas truth tree inode body (Err (Stopped OutOfMemory)) = Unit {0}
MakesNew areas truth tree inode body (Err (Stopped (Status status))) = ⊥
MakesNew areas truth tree inode body (Err (Stopped (Inner blocks))) = ⊥

-- a change of a draft makes a file with a tree near an area, or a link
abbrev pub MadeAt : Held → List Changed → List Changed → Inode → ℕ → ℕ → Result ℕ ChunkError → Type 0
MadeAt held old new inode near areas result = MakesAt held old new inode near areas result ⊎ LinksAt held old new inode near areas result

-- a draft of its own makes a file near an area, or a link, which then has this handle
abbrev pub IsMade : Held → ℕ → ℕ → List Changed → ℕ → Type 0
IsMade held near areas draft made = (inode : Inode) × MadeAt held [] draft inode near areas (Ok made)

-- the handle is that of the first slot that is taken near an area
abbrev pub IsFirstNear : Held → ℕ → ℕ → ℕ → Type 0
IsFirstNear held near areas made = (draft : List Changed) × AllocatesAt held [] draft near areas (Ok made)

-- near the directory that a file handle names
pub record IsMadeNear (volume areas : ℕ) (held : Held) (bytes : List ℕ) (made : ℕ) : Type 0 where
  pub handle : ℕ
  pub is_named : named volume bytes ≡ Some handle
  pub first : IsFirstNear held (parts_of handle).area areas made

-- ---- and the entry that names it

-- The handle was never given out. The truth with the draft stands for the tree with the file and the entry that names it, and all hints that
-- fitted still fit.
pub record Places (areas : ℕ) (truth : Truth) (tree : Tree) (handle : ℕ) (name : List ℕ) (now : Time) (inode : Inode) (body : Body) (draft : List Changed) (made : ℕ) : Type 0 where
  pub unused : is_unused tree made ≡ true
  pub stands : StandsFor areas (with_draft truth draft) (with_made tree handle name now (file_of inode made body))
  pub leads : (hints : Hints) → HintsFitAll areas hints truth → HintsFitAll areas hints (with_draft truth draft)

-- What placing a new file in a directory answers, by the tree.
abbrev pub PlacesIn : ℕ → Truth → Tree → ℕ → List ℕ → Time → Inode → Body → Result (List Changed × ℕ) ChangeError → Type 0
PlacesIn areas truth tree handle name now inode body (Ok made) = Places areas truth tree handle name now inode body made.0 made.1
PlacesIn areas truth tree handle name now inode body (Err (Full spare)) = IsNearlyFull areas truth spare
PlacesIn areas truth tree handle name now inode body (Err (Stopped (Inner blocks))) = LeavesTrees areas truth blocks
PlacesIn areas truth tree handle name now inode body (Err (Stopped (Need at mode))) = Unit {0}
PlacesIn areas truth tree handle name now inode body (Err (Stopped OutOfMemory)) = Unit {0}
PlacesIn areas truth tree handle name now inode body (Err (Stopped (Status status))) = ⊥

-- the path of the entry that names the file, once that is made
pub record OnEntering (held : Held) (hints : Hints) (near areas : ℕ) (inode : Inode) (name : List ℕ) (at : ℕ) (mode : Mode) : Type 0 where
  pub draft : List Changed
  pub made : ℕ
  pub is : IsMade held near areas draft made
  pub on : OnAddPath held hints draft inode.tree (entry_of inode.next name made) at mode

-- The path, from a directory on by its inode: that of the room for the entry, the slots of the file near the directory, and the entry.
abbrev pub OnPlacing : ℕ → Held → Hints → ℕ → Inode → List ℕ → ℕ → Mode → Type 0
OnPlacing areas held hints handle inode name at mode =
    OnRoomPath (parts_of handle).area areas held hints inode.tree name inode.next at mode
    ⊎ (OnSlots held (parts_of handle).area areas [] at mode ⊎ OnEntering held hints (parts_of handle).area areas inode name at mode)
