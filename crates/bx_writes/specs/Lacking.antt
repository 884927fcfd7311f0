-- What WRITE has written first, and where nothing is wanted: bytes to be cleared, or room for the entry of a piece.
use Rattle.std.specs.Prelude.{◌≡◌, ℕ, ◌+◌, ◌/◌, ◌%◌, ◌<◌, ◌≤◌, ◌⊎◌, false, List, length, None, Some}
use Rattle.bx_places.specs.Handles.{named}
use Rattle.bx_inodes.specs.Inodes.{HoldsInode}
use Rattle.bx_layout.specs.declared.inode.Inode.{Inode}
use Rattle.bx_page.specs.Contents.{value_of}
use Rattle.bx_entries.specs.bx_ready.specs.Lacking.{MakesRoom}
use Rattle.bx_entries.specs.bx_ready.specs.Ready.{IsReady}
use Rattle.bx_records.specs.Drafts.{Changed}
use Rattle.bx_sizes.specs.Cuts.{ClearsFirst, ReadyToGrow}
use Rattle.bx_sizes.specs.Lengths.{grows_over}
use Rattle.bx_truth.specs.Chunks.{chunks_of}
use Rattle.bx_truth.specs.Keys.{content_key}
use Rattle.bx_truth.specs.PageTrees.{IsTree, PageTree, map_of}
use Rattle.bx_views.specs.Truths.{Truth, Held, Hints}
use Rattle.bx_writes.specs.Laying.{pieces_of}

-- ---- what is written first

-- A piece with an index isn't there, and a draft makes room for its entry in the tree of its file's root.
pub record MakesEntry (areas : ℕ) (held : Held) (hints : Hints) (truth : Truth) (root index : ℕ) (new : List Changed) : Type 0 where
  pub room : MakesRoom areas held hints truth root (content_key index) new
  pub none : value_of (map_of room.pages) (content_key index) ≡ None

-- So it is of a piece with an index from one on, below another.
pub record MakesEntries (areas : ℕ) (held : Held) (hints : Hints) (truth : Truth) (root from end : ℕ) (new : List Changed) : Type 0 where
  pub index : ℕ
  pub above : from ≤ index
  pub below : index < end
  pub makes : MakesEntry areas held hints truth root index new

-- the same of the pieces that bytes are in which are written into the file with a handle from an offset on, and grow it over none that was cut
pub record MakesPieces (areas : ℕ) (held : Held) (hints : Hints) (truth : Truth) (handle offset : ℕ) (written : List ℕ) (new : List Changed) : Type 0 where
  pub inode : Inode
  pub holds : HoldsInode areas truth handle inode
  pub cleared : grows_over inode (offset + length written) ≡ false
  pub makes : MakesEntries areas held hints truth inode.tree (offset / 4096) (offset / 4096 + pieces_of (offset % 4096) written) new

-- Bytes are written into the file with a handle from an offset on, and a draft clears bytes over which they would grow it, or makes room for a piece.
pub record PreparesWritten (areas : ℕ) (held : Held) (hints : Hints) (truth : Truth) (handle offset : ℕ) (written : List ℕ) (new : List Changed) : Type 0 where
  pub some : 0 < length written
  pub prepares : ClearsFirst areas truth handle (offset + length written) new ⊎ MakesPieces areas held hints truth handle offset written new

-- the same of the file that a file handle names
pub record PreparesWriting (volume areas : ℕ) (held : Held) (hints : Hints) (truth : Truth) (bytes : List ℕ) (offset : ℕ) (written : List ℕ) (new : List Changed) : Type 0 where
  pub handle : ℕ
  pub is_named : named volume bytes ≡ Some handle
  pub prepares : PreparesWritten areas held hints truth handle offset written new

-- ---- where nothing is wanted

-- A piece with an index that isn't there finds room for its entry in the tree of its file's root.
abbrev pub FindsEntry : ℕ → Truth → ℕ → ℕ → Type 0
FindsEntry areas truth root index =
    (pages : PageTree) → IsTree (chunks_of areas truth) root pages → value_of (map_of pages) (content_key index) ≡ None → IsReady pages (content_key index)

-- So it is of each with an index from one on, below another.
abbrev pub FindEntries : ℕ → Truth → ℕ → ℕ → ℕ → Type 0
FindEntries areas truth root from end = (index : ℕ) → from ≤ index → index < end → FindsEntry areas truth root index

-- Bytes may be written into the file with a handle from an offset on, if there are any: they grow it over none that was cut, and the pieces that they are in find room.
pub record ReadyToLay (areas : ℕ) (truth : Truth) (handle offset : ℕ) (written : List ℕ) : Type 0 where
  pub grows : ReadyToGrow areas truth handle (offset + length written)
  pub pieces : (inode : Inode) → HoldsInode areas truth handle inode → FindEntries areas truth inode.tree (offset / 4096) (offset / 4096 + pieces_of (offset % 4096) written)

-- the same of the file that a file handle names
abbrev pub ReadyToWrite : ℕ → ℕ → Truth → List ℕ → ℕ → List ℕ → Type 0
ReadyToWrite volume areas truth bytes offset written = 0 < length written → (handle : ℕ) → named volume bytes ≡ Some handle → ReadyToLay areas truth handle offset written
