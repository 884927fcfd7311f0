-- The path of WRITE.
use Rattle.std.specs.Prelude.{◌≡◌, ℕ, ◌+◌, ◌/◌, ◌%◌, ◌<◌, ◌≤◌, ◌⊎◌, [], List, Some}
use Rattle.bx_base.specs.declared.names.Mode.{Mode}
use Rattle.bx_base.specs.declared.names.Mode.TheVariants.{Exclusive}
use Rattle.bx_blink.specs.Walks.{reads_with}
use Rattle.bx_files.specs.Paths.{LandsAtValue, OnSearch}
use Rattle.bx_places.specs.Handles.{named, parts_of}
use Rattle.bx_inodes.specs.Inodes.{LiveAt}
use Rattle.bx_inodes.specs.Stops.{OnInode}
use Rattle.bx_layout.specs.declared.inode.Inode.{Inode}
use Rattle.bx_entries.specs.bx_ready.specs.Ready.{OnReadyPath}
use Rattle.bx_sizes.specs.Clearing.{OnClearing}
use Rattle.bx_truth.specs.Chunks.{block_at}
use Rattle.bx_truth.specs.Keys.{content_key}
use Rattle.bx_truth.specs.PageTrees.{handle_in}
use Rattle.bx_views.specs.Truths.{Held, Hints}
use Rattle.bx_writes.specs.Laid.{LacksSlot, OnAnew}
use Rattle.bx_writes.specs.Laying.{pieces_of}

-- a search for the piece with an index finds this block's handle, exclusively
pub record IsWrittenBlock (held : Held) (hints : Hints) (root index at : ℕ) (mode : Mode) : Type 0 where
  pub value : List ℕ
  pub found : LandsAtValue held hints root (content_key index) (Some value)
  pub at_is : at ≡ block_at (handle_in value)
  pub mode_is : mode ≡ Exclusive

-- The path of a piece, before any is written: the search for it; its block; where it isn't there, what makes room for its entry, near an area.
abbrev pub OnPrepared : ℕ → ℕ → Held → Hints → ℕ → ℕ → ℕ → Mode → Type 0
OnPrepared near areas held hints root index at mode =
    OnSearch held hints root (content_key index) at mode ⊎ (IsWrittenBlock held hints root index at mode ⊎ OnReadyPath near areas held hints root (content_key index) at mode)

-- The path of a piece of the file with a handle: that, and where it isn't there, its slot near the file and its entry.
abbrev pub OnWrittenPiece : ℕ → Held → Hints → ℕ → ℕ → ℕ → ℕ → Mode → Type 0
OnWrittenPiece areas held hints handle root index at mode =
    OnPrepared (parts_of handle).area areas held hints root index at mode ⊎ OnAnew held hints (parts_of handle).area areas handle root index at mode

-- the paths of pieces from one on, below another
pub record OnWrittenPieces (areas : ℕ) (held : Held) (hints : Hints) (handle root from end at : ℕ) (mode : Mode) : Type 0 where
  pub index : ℕ
  pub above : from ≤ index
  pub below : index < end
  pub on : OnWrittenPiece areas held hints handle root index at mode

-- The path from a file's inode on: that of clearing, and those of the pieces that bytes from an offset on are in.
abbrev pub OnFileWritten : ℕ → Held → Hints → ℕ → Inode → ℕ → List ℕ → ℕ → Mode → Type 0
OnFileWritten areas held hints handle inode offset written at mode =
    OnClearing held hints inode at mode ⊎ OnWrittenPieces areas held hints handle inode.tree (offset / 4096) (offset / 4096 + pieces_of (offset % 4096) written) at mode

-- the same from the inode that is named, and held, on
pub record OnNamedWritten (held : Held) (hints : Hints) (volume areas : ℕ) (bytes : List ℕ) (offset : ℕ) (written : List ℕ) (at : ℕ) (mode : Mode) : Type 0 where
  pub handle : ℕ
  pub inode : Inode
  pub is_named : named volume bytes ≡ Some handle
  pub live : LiveAt (reads_with held hints []) areas handle Exclusive inode
  pub on : OnFileWritten areas held hints handle inode offset written at mode

-- The path of WRITE: the inode of the file that is named, exclusively, and that from there on.
abbrev pub OnWriting : Held → Hints → ℕ → ℕ → List ℕ → ℕ → List ℕ → ℕ → Mode → Type 0
OnWriting held hints volume areas bytes offset written at mode = OnInode volume bytes Exclusive at mode ⊎ OnNamedWritten held hints volume areas bytes offset written at mode

-- WRITE is full only where a piece that the bytes are in isn't there, and no slot is left near the file: from its inode on,
abbrev pub LacksSlots : ℕ → Held → Hints → ℕ → Inode → ℕ → List ℕ → ℕ → Type 0
LacksSlots areas held hints handle inode offset written spare =
    LacksSlot held hints (parts_of handle).area areas handle inode.tree (offset / 4096) (offset / 4096 + pieces_of (offset % 4096) written) spare

-- and from the file that is named, and held, on
pub record IsFullWriting (held : Held) (hints : Hints) (volume areas : ℕ) (bytes : List ℕ) (offset : ℕ) (written : List ℕ) (spare : ℕ) : Type 0 where
  pub handle : ℕ
  pub inode : Inode
  pub is_named : named volume bytes ≡ Some handle
  pub live : LiveAt (reads_with held hints []) areas handle Exclusive inode
  pub lacks : LacksSlots areas held hints handle inode offset written spare
