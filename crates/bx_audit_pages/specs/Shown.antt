-- The chunks that blocks are by their headers, as something that gives blocks shows them.
use Rattle.std.specs.Prelude.{◌≡◌, ◌≢◌, ◌<◌, ℕ, Some, None}
use Rattle.bx_places.specs.Handles.{parts_of}
use Rattle.bx_layout.specs.declared.block.Block.{Block}
use Rattle.bx_truth.specs.Chunks.{block_at}
use Rattle.bx_truth.specs.PageTrees.{Chunks}

-- the handle is of a slot of the volume
abbrev pub IsOfSlot : ℕ → ℕ → Type 0
IsOfSlot areas handle = ((parts_of handle).area < areas) × ((parts_of handle).slot < 960)

-- The handle is of a slot of the volume, and the block that stands there has it in its header.
pub record NamesBlock (areas : ℕ) (stands : ℕ → Block → Type 0) (handle : ℕ) (block : Block) : Type 0 where
  pub slot : IsOfSlot areas handle
  pub some : handle ≢ 0
  pub there : stands (block_at handle) block
  pub header : block.handle ≡ handle

-- Each handle names the block with this header, and no other handle names any. Where slots are right, these are the chunks of the volume.
pub record Shows (is_told : Type 0) (areas : ℕ) (stands : ℕ → Block → Type 0) (chunks : Chunks) : Type 0 where
  pub told : is_told
  pub each : (handle : ℕ) (block : Block) → chunks handle ≡ Some block → NamesBlock areas stands handle block
  pub all : (handle : ℕ) (block : Block) → NamesBlock areas stands handle block → chunks handle ≡ Some block
  pub none : chunks 0 ≡ None
