-- What a read of a file may ask for, over any view.
use Rattle.std.specs.Prelude.{◌≡◌, ℕ, ◌+◌, ◌/◌, ◌<◌, ◌≤◌, ◌⊎◌, true, false, List, [], Option, Some}
use Rattle.bx_base.specs.declared.names.Mode.{Mode}
use Rattle.bx_base.specs.declared.names.Mode.TheVariants.{Shared}
use Rattle.bx_inodes.specs.bx_blink.specs.Answers.{LandsWith}
use Rattle.bx_inodes.specs.bx_blink.specs.declared.steps.End.{End}
use Rattle.bx_inodes.specs.bx_blink.specs.Walks.{Ends, OnPath, most, reads_with, start}
use Rattle.bx_inodes.specs.declared.stop.Stop.{Stop}
use Rattle.bx_inodes.specs.declared.stop.Stop.TheVariants.{Need, Status}
use Rattle.bx_layout.specs.declared.inode.Inode.{Inode}
use Rattle.bx_places.specs.Places.{is_block}
use Rattle.bx_chunks.specs.bx_truth.specs.Chunks.{block_at}
use Rattle.bx_chunks.specs.bx_truth.specs.Keys.{content_key}
use Rattle.bx_chunks.specs.bx_truth.specs.PageTrees.{handle_in}
use Rattle.bx_views.specs.Truths.{Held, Hints}

-- a search for a key in the tree under a root ends so
abbrev pub SearchEnds : Held → Hints → ℕ → List ℕ → End → Type 0
SearchEnds held hints root key end = Ends (reads_with held hints []) 0 Shared key most (start root Shared) end

-- it lands at a page that has this for the key
abbrev pub LandsAtValue : Held → Hints → ℕ → List ℕ → Option (List ℕ) → Type 0
LandsAtValue held hints root key found = LandsWith (SearchEnds held hints root key) key found

-- the blocks on its path, shared
pub record OnSearch (held : Held) (hints : Hints) (root : ℕ) (key : List ℕ) (at : ℕ) (mode : Mode) : Type 0 where
  pub asked : Mode
  pub on : OnPath (reads_with held hints []) 0 Shared key most (start root Shared) at asked
  pub mode_is : mode ≡ Shared

-- the block of a handle, shared
pub record IsBlockOf (handle at : ℕ) (mode : Mode) : Type 0 where
  pub at_is : at ≡ block_at handle
  pub mode_is : mode ≡ Shared

-- a search for the piece with an index finds this block's handle
pub record IsPieceBlock (held : Held) (hints : Hints) (root index at : ℕ) (mode : Mode) : Type 0 where
  pub value : List ℕ
  pub found : LandsAtValue held hints root (content_key index) (Some value)
  pub is : IsBlockOf (handle_in value) at mode

-- the path to the piece with an index: that of the search, and the piece's block
abbrev pub OnPiece : Held → Hints → ℕ → ℕ → ℕ → Mode → Type 0
OnPiece held hints root index at mode = OnSearch held hints root (content_key index) at mode ⊎ IsPieceBlock held hints root index at mode

-- the paths to pieces, as many as so many bytes are in
pub record OnPieces (held : Held) (hints : Hints) (root first len at : ℕ) (mode : Mode) : Type 0 where
  pub place : ℕ
  pub within : place < len
  pub on : OnPiece held hints root (first + place / 4096) at mode

-- The path of a read of so many bytes from an offset on, by the inode: those to the pieces that these bytes are in, as far as the
-- file goes.
pub record OnRead (held : Held) (hints : Hints) (inode : Inode) (offset count at : ℕ) (mode : Mode) : Type 0 where
  pub place : ℕ
  pub from : offset ≤ place
  pub to : place < offset + count
  pub within : place < inode.size
  pub on : OnPiece held hints inode.tree (place / 4096) at mode

-- what stops an attempt that needs a block, shared; 70 is STALE, where the volume has no such block
abbrev pub IsNeed : ℕ → ℕ → Stop → Type 0
IsNeed areas at stop = ((is_block areas at ≡ true) × (stop ≡ Need at Shared)) ⊎ ((is_block areas at ≡ false) × (stop ≡ Status 70))
