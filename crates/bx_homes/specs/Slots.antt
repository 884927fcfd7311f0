-- The slots of areas, and the first block that is not as they ask.
use Rattle.std.specs.Prelude.{◌≡◌, ℕ, ◌+◌, ◌*◌, ◌<◌, ◌⊎◌, ◌↔◌, ◌==◌, if◌then◌else◌, true, false}
use Rattle.bx_places.specs.Handles.{number_of, own_handle}
use Rattle.bx_layout.specs.declared.block.Block.{Block}
use Rattle.bx_layout.specs.Areas.{in_use, generation_in}
use Rattle.bx_places.specs.Places.{IsBlock, block_area, block_slot}
use Rattle.bx_volume.specs.bx_truth.specs.Chunks.{IsAreaBlock, handle_of, own_block, word_at}
use Rattle.bx_volume.specs.bx_views.specs.Truths.{Truth}

-- each block of the volume stands there as the truth has it
abbrev pub AreBlocks : ℕ → (ℕ → Block → Type 0) → Truth → Type 0
AreBlocks areas stands truth = (at : ℕ) → IsBlock areas at → stands at (truth at)

-- some block stands there
pub record HasBlock (stands : ℕ → Block → Type 0) (at : ℕ) : Type 0 where
  pub block : Block
  pub is : stands at block

-- the own block of an area stands there, and so do the blocks of its slots
pub record HasArea (stands : ℕ → Block → Type 0) (area : ℕ) : Type 0 where
  pub own : HasBlock stands (own_block area)
  pub slots : (slot : ℕ) → slot < 960 → HasBlock stands (1024 * area + slot)

-- the same blocks stand there
abbrev pub StaysSo : (ℕ → Block → Type 0) → (ℕ → Block → Type 0) → Type 0
StaysSo before now = (at : ℕ) (block : Block) → before at block ↔ now at block

-- the header of a slot's block agrees with the slot's word
pub record HasHeader (truth : Truth) (block : ℕ) : Type 0 where
  pub used : in_use (word_at truth block) ≡ true → (truth block).handle ≡ handle_of block (generation_in (word_at truth block))
  pub unused : in_use (word_at truth block) ≡ false → (truth block).handle ≡ 0

-- the handle in the header of the block that stands there, 0 where none does
pub record HasHandle (stands : ℕ → Block → Type 0) (at handle : ℕ) : Type 0 where
  pub there : (block : Block) → stands at block → block.handle ≡ handle
  pub absent : ((block : Block) → stands at block → ⊥) → handle ≡ 0

-- the handle that the header of a block is to have: an area's own for its own block; that of the slot of any other, 0 where it isn't in use
abbrev pub wanted_handle : Truth → ℕ → ℕ
wanted_handle truth block =
    if block_slot block == 960 then number_of (own_handle (block_area block))
    else (if in_use (word_at truth block) then handle_of block (generation_in (word_at truth block)) else 0)

-- the area's own block is right, and so are the headers of its slots
pub record IsAreaChunked (truth : Truth) (area : ℕ) : Type 0 where
  pub own : IsAreaBlock area (truth (own_block area))
  pub slots : (slot : ℕ) → slot < 960 → HasHeader truth (1024 * area + slot)

-- the area's own block is wrong
pub record IsOwnFault (truth : Truth) (area at : ℕ) : Type 0 where
  pub at_is : at ≡ own_block area
  pub wrong : IsAreaBlock area (truth (own_block area)) → ⊥

-- the area's own block is right, and this is the block of its first slot whose header is wrong
pub record IsSlotFault (truth : Truth) (area at : ℕ) : Type 0 where
  pub slot : ℕ
  pub there : slot < 960
  pub at_is : at ≡ 1024 * area + slot
  pub own : IsAreaBlock area (truth (own_block area))
  pub before : (other : ℕ) → other < slot → HasHeader truth (1024 * area + other)
  pub wrong : HasHeader truth (1024 * area + slot) → ⊥

-- the first wrong block of an area
abbrev pub IsAreaFault : Truth → ℕ → ℕ → Type 0
IsAreaFault truth area at = IsOwnFault truth area at ⊎ IsSlotFault truth area at

-- the first wrong block of a volume, area by area
pub record IsFirstFault (areas : ℕ) (truth : Truth) (at : ℕ) : Type 0 where
  pub area : ℕ
  pub there : area < areas
  pub before : (other : ℕ) → other < area → IsAreaChunked truth other
  pub fault : IsAreaFault truth area at
