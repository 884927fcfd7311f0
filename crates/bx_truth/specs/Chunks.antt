-- The chunks of a volume: which block each handle in use names. Handles are numbers here, of 16 bits of area, 16 of slot and 32 of
-- generation.
use Rattle.std.specs.Prelude.{◌≡◌, ℕ, ◌+◌, ◌*◌, ◌/◌, ◌%◌, ◌<◌, Bool, true, false, ◌&&◌, ◌==◌, nat_lt, if◌then◌else◌, List, take, drop, Some, None, slice_index}
use Rattle.std.specs.Int.{w32, from_be_bytes}
use Rattle.bx_places.specs.Handles.{block_of, number_of, own_handle, parts_of}
use Rattle.bx_views.specs.bx_layout.specs.declared.area.AreaBlock.{AreaBlock}
use Rattle.bx_views.specs.bx_layout.specs.declared.block.Block.{Block}
use Rattle.bx_views.specs.bx_layout.specs.Areas.{SpellsArea, in_use, generation_in, is_free, bit}
use Rattle.bx_places.specs.Places.{block_area, block_slot}
use Rattle.bx_views.specs.Truths.{Truth}
use Rattle.bx_truth.specs.PageTrees.{Chunks}

-- the number of the block that a handle is in
abbrev pub block_at : ℕ → ℕ
block_at handle = block_of (parts_of handle)

-- the handle of a block in a generation
abbrev pub handle_of : ℕ → ℕ → ℕ
handle_of block generation = number_of (record { area = block_area block; slot = block_slot block; generation = generation })

-- a slot of a volume with so many areas
pub record IsSlot (areas block : ℕ) : Type 0 where
  pub area : block_area block < areas
  pub slot : block_slot block < 960

abbrev pub is_slot : ℕ → ℕ → Bool
is_slot areas block = nat_lt (block_area block) areas && nat_lt (block_slot block) 960

-- the own block of an area
abbrev pub own_block : ℕ → ℕ
own_block area = block_of (own_handle area)

-- the word of a slot in its area's payload
unfoldable pub word_in : List ℕ → ℕ → ℕ
word_in payload slot = from_be_bytes w32 (take 4 (drop (4 * slot) payload))

-- the bit of a slot behind the words
unfoldable pub dead_in : List ℕ → ℕ → Bool
dead_in payload slot = bit (slice_index payload (3840 + slot / 8)) (slot % 8)

-- the word of a block's slot, and whether it is marked as a dead inode
abbrev pub word_at : Truth → ℕ → ℕ
word_at truth block = word_in (truth (own_block (block_area block))).payload (block_slot block)

abbrev pub dead_at : Truth → ℕ → Bool
dead_at truth block = dead_in (truth (own_block (block_area block))).payload (block_slot block)

-- a handle is in use: the word of its slot is marked in use with its generation
abbrev pub is_used : ℕ → Truth → ℕ → Bool
is_used areas truth handle =
    is_slot areas (block_at handle) && (in_use (word_at truth (block_at handle)) && (handle == handle_of (block_at handle) (generation_in (word_at truth (block_at handle)))))

-- The chunk map: the handles in use, with their blocks.
abbrev pub chunks_of : ℕ → Truth → Chunks
chunks_of areas truth handle = if is_used areas truth handle then Some (truth (block_at handle)) else None

-- the own block of an area
pub record IsAreaBlock (area : ℕ) (block : Block) : Type 0 where
  pub handle : block.handle ≡ number_of (own_handle area)
  pub kind : block.kind ≡ 4
  pub slots : AreaBlock
  pub spells : SpellsArea slots block.payload

-- Each area has its own block. The header of a slot in use names its handle, and that of any other slot names none.
pub record IsChunked (areas : ℕ) (truth : Truth) : Type 0 where
  pub own : (area : ℕ) → area < areas → IsAreaBlock area (truth (own_block area))
  pub used : (block : ℕ) → IsSlot areas block → in_use (word_at truth block) ≡ true → (truth block).handle ≡ handle_of block (generation_in (word_at truth block))
  pub unused : (block : ℕ) → IsSlot areas block → in_use (word_at truth block) ≡ false → (truth block).handle ≡ 0

-- a slot is free
abbrev pub is_free_at : Truth → ℕ → Bool
is_free_at truth block = is_free (word_at truth block)

-- a handle that may be in use: of a slot of the volume, and not 0
pub record IsName (areas handle : ℕ) : Type 0 where
  pub slot : IsSlot areas (block_at handle)
  pub some : handle ≡ 0 → ⊥
