-- The clearing of what is behind the end of a file: how the last piece there is found, and what a step clears.
use Rattle.std.specs.Prelude.{◌≡◌, ℕ, ◌+◌, ◌/◌, ◌<◌, ◌≤◌, ◌⊎◌, min, List, Option, Some, None, Result, Ok, Err}
use Rattle.std.specs.Int.{div_ceil}
use Rattle.bx_base.specs.declared.names.Mode.{Mode}
use Rattle.bx_base.specs.declared.names.Mode.TheVariants.{Exclusive}
use Rattle.bx_changes.specs.bx_files.specs.Paths.{LandsAtValue, OnSearch}
use Rattle.bx_inodes.specs.declared.stop.Stop.{Stop}
use Rattle.bx_inodes.specs.declared.stop.Stop.TheVariants.{Need, Inner, Status, OutOfMemory}
use Rattle.bx_layout.specs.declared.inode.Inode.{Inode}
use Rattle.bx_page.specs.declared.entry.Entry.{Entry}
use Rattle.bx_page.specs.Contents.{value_of}
use Rattle.bx_truth.specs.Chunks.{block_at}
use Rattle.bx_truth.specs.Keys.{content_key}
use Rattle.bx_truth.specs.PageTrees.{handle_in}
use Rattle.bx_views.specs.Truths.{Held, Hints}

-- no piece has an index from one on, below another
abbrev pub HasNone : List Entry → ℕ → ℕ → Type 0
HasNone map from end = (index : ℕ) → from ≤ index → index < end → value_of map (content_key index) ≡ None

-- of the pieces with an index from one on, below another, this one is the last, and its block has this handle
pub record IsLastPiece (map : List Entry) (from end index names : ℕ) : Type 0 where
  pub above : from ≤ index
  pub below : index < end
  pub value : List ℕ
  pub is : value_of map (content_key index) ≡ Some value
  pub names_is : names ≡ handle_in value
  pub behind : HasNone map (index + 1) end

-- what looking for the last piece answers, by the map of the file's tree
abbrev pub FindsLast : List Entry → ℕ → ℕ → Result (Option (ℕ × ℕ)) Stop → Type 0
FindsLast map from end (Ok (Some found)) = IsLastPiece map from end found.0 found.1
FindsLast map from end (Ok None) = HasNone map from end
FindsLast map from end (Err (Need at mode)) = Unit {0}
FindsLast map from end (Err (Inner blocks)) = ⊥
FindsLast map from end (Err (Status status)) = ⊥
FindsLast map from end (Err OutOfMemory) = Unit {0}

-- ---- the path

-- the path of a search for a piece with an index from one on, below another
pub record OnIndexes (held : Held) (hints : Hints) (root from end at : ℕ) (mode : Mode) : Type 0 where
  pub index : ℕ
  pub above : from ≤ index
  pub below : index < end
  pub on : OnSearch held hints root (content_key index) at mode

-- a search for the piece that is found with an index from one on, below another, finds its block's handle
pub record IsFoundBy (held : Held) (hints : Hints) (root from end index names : ℕ) : Type 0 where
  pub above : from ≤ index
  pub below : index < end
  pub value : List ℕ
  pub found : LandsAtValue held hints root (content_key index) (Some value)
  pub names_is : names ≡ handle_in value

-- the same of what is answered
abbrev pub FoundBy : Held → Hints → ℕ → ℕ → ℕ → Result (Option (ℕ × ℕ)) Stop → Type 0
FoundBy held hints root from end (Ok (Some found)) = IsFoundBy held hints root from end found.0 found.1
FoundBy held hints root from end (Ok None) = Unit {0}
FoundBy held hints root from end (Err stop) = Unit {0}

-- where the pieces begin, and end, that may have bytes between a file's size and its tail
abbrev pub first_cut : Inode → ℕ
first_cut inode = inode.size / 4096

abbrev pub end_cut : Inode → ℕ
end_cut inode = min (div_ceil inode.tail 4096) 4294967296

-- the block of a piece that such a search finds, exclusively
pub record IsClearedBlock (held : Held) (hints : Hints) (root from end at : ℕ) (mode : Mode) : Type 0 where
  pub index : ℕ
  pub names : ℕ
  pub found : IsFoundBy held hints root from end index names
  pub at_is : at ≡ block_at names
  pub mode_is : mode ≡ Exclusive

-- The path of clearing: the searches for the pieces between a file's size and its tail, and their blocks, exclusively.
abbrev pub OnClearing : Held → Hints → Inode → ℕ → Mode → Type 0
OnClearing held hints inode at mode =
    OnIndexes held hints inode.tree (first_cut inode) (end_cut inode) at mode ⊎ IsClearedBlock held hints inode.tree (first_cut inode) (end_cut inode) at mode
