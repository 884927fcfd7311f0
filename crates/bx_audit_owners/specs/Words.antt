-- The words of the slots of chunks that the walk from the root meets.
use Rattle.std.specs.Prelude.{◌≡◌, ◌≢◌, ◌⊎◌, ◌<◌, ◌≤◌, ℕ, true, false, List, slice_get, slice_index, Contains, Some, None}
use Rattle.bx_audit_bodies.specs.declared.claims.Claim.{Claim}
use Rattle.bx_audit_bodies.specs.Reading.{IsReadAs}
use Rattle.bx_audit_slots.specs.declared.own_blocks.OwnBlock.{OwnBlock}
use Rattle.bx_audit_slots.specs.declared.own_blocks.OwnBlock.TheVariants.{Slots, Wrong}
use Rattle.bx_audit_owners.specs.Holding.{Holdings}
use Rattle.bx_audit_owners.specs.Walks.{IsMet}
use Rattle.bx_audit_pages.specs.Shown.{IsOfSlot}
use Rattle.bx_places.specs.declared.chunk_handle.ChunkHandle.{ChunkHandle}
use Rattle.bx_places.specs.Handles.{number_of, own_handle, parts_of}
use Rattle.bx_homes.specs.Slots.{HasHandle}
use Rattle.bx_layout.specs.declared.area.AreaBlock.{AreaBlock}
use Rattle.bx_layout.specs.declared.block.Block.{Block}
use Rattle.bx_layout.specs.Areas.{generation_in, in_use, is_dead}
use Rattle.bx_tree_files.specs.declared.file.File.{File}
use Rattle.bx_truth.specs.Chunks.{IsAreaBlock, block_at, dead_in, own_block, word_in}
use Rattle.bx_truth.specs.PageTrees.{Chunks}

-- The walk from the root meets a chunk: the inode of a file that it meets, or a page or a piece that such a file has.
pub record IsMetChunk (chunks : Chunks) (handle : ℕ) : Type 0 where
  pub inode : ℕ
  pub met : IsMet chunks inode
  pub file : File
  pub claims : List Claim
  pub read : IsReadAs chunks inode (Some file) claims
  pub part : (handle ≡ inode) ⊎ ((claim : Claim) × Contains claims claim × (handle ≡ claim.handle))

-- The own block of a handle's area is one, and says that the handle's slot is in use in its generation, and isn't marked as a dead inode's.
pub record HasWord (areas : ℕ) (stands : ℕ → Block → Type 0) (handle : ℕ) : Type 0 where
  pub slot : IsOfSlot areas handle
  pub own : Block
  pub there : stands (own_block (parts_of handle).area) own
  pub is : IsAreaBlock (parts_of handle).area own
  pub used : in_use (word_in own.payload (parts_of handle).slot) ≡ true
  pub generation : generation_in (word_in own.payload (parts_of handle).slot) ≡ (parts_of handle).generation
  pub unmarked : dead_in own.payload (parts_of handle).slot ≡ false

-- ---- what is told of a slot that isn't as its chunk asks

-- The own block of the area isn't one: it is told of by the handle in its header, and its own is wanted.
pub record IsWrongOwn (stands : ℕ → Block → Type 0) (area at found wanted : ℕ) : Type 0 where
  pub at_is : at ≡ own_block area
  pub found_is : HasHandle stands at found
  pub wanted_is : wanted ≡ number_of (own_handle area)
  pub wrong : (own : Block) → stands at own → IsAreaBlock area own → ⊥

-- The own block of the area is one, with another word or a mark for the slot: the chunk is told of, and its handle is found and wanted.
pub record IsWrongWord (stands : ℕ → Block → Type 0) (handle at found wanted : ℕ) : Type 0 where
  pub at_is : at ≡ block_at handle
  pub found_is : found ≡ handle
  pub wanted_is : wanted ≡ handle
  pub own : Block
  pub there : stands (own_block (parts_of handle).area) own
  pub is : IsAreaBlock (parts_of handle).area own

-- The slot of a handle isn't as the chunk asks, and this is told of it; of a handle of no slot of the volume, that it is found in block 0.
pub record IsWrongAt (areas : ℕ) (stands : ℕ → Block → Type 0) (handle at found wanted : ℕ) : Type 0 where
  pub wrong : HasWord areas stands handle → ⊥
  pub slot : IsOfSlot areas handle → IsWrongOwn stands (parts_of handle).area at found wanted ⊎ IsWrongWord stands handle at found wanted
  pub no_slot : (IsOfSlot areas handle → ⊥) → (at ≡ 0) × (found ≡ handle) × (wanted ≡ handle)

-- Of the chunks that have a holder, this one is the first whose slot isn't as it asks, in the order of their handles, and so it is told.
pub record IsFirstWrongAt (areas : ℕ) (stands : ℕ → Block → Type 0) (holdings : Holdings) (at found wanted : ℕ) : Type 0 where
  pub handle : ℕ
  pub held : holdings handle ≢ None
  pub wrong : IsWrongAt areas stands handle at found wanted
  pub first : (other : ℕ) → holdings other ≢ None → other < handle → HasWord areas stands other

-- the slots of all chunks that have a holder are as these ask
abbrev pub AreWorded : ℕ → (ℕ → Block → Type 0) → Holdings → Type 0
AreWorded areas stands holdings = (handle : ℕ) → holdings handle ≢ None → HasWord areas stands handle

-- ---- by own blocks that were read

-- by these slots a handle's slot is in use in its generation, and isn't marked
pub record IsIn (slots : AreaBlock) (name : ChunkHandle) : Type 0 where
  pub used : in_use (slice_index slots.words name.slot) ≡ true
  pub generation : generation_in (slice_index slots.words name.slot) ≡ name.generation
  pub unmarked : is_dead slots name.slot ≡ false

abbrev pub IsRightOwn : OwnBlock → ℕ → Type 0
IsRightOwn (Slots slots) handle = IsIn slots (parts_of handle)
IsRightOwn (Wrong found) handle = ⊥

-- so it is by the own blocks of areas
pub record IsInOwn (owns : List OwnBlock) (handle : ℕ) : Type 0 where
  pub slot : (parts_of handle).slot < 960
  pub own : OwnBlock
  pub there : slice_get owns (parts_of handle).area ≡ Some own
  pub is : IsRightOwn own handle

-- it isn't, and this is told
pub record IsNotIn (slots : AreaBlock) (handle at found wanted : ℕ) : Type 0 where
  pub wrong : IsIn slots (parts_of handle) → ⊥
  pub at_is : at ≡ block_at handle
  pub found_is : found ≡ handle
  pub wanted_is : wanted ≡ handle

abbrev pub IsTornOwn : OwnBlock → ℕ → ℕ → ℕ → ℕ → Type 0
IsTornOwn (Slots slots) handle at found wanted = IsNotIn slots handle at found wanted
IsTornOwn (Wrong held) handle at found wanted = (at ≡ own_block (parts_of handle).area) × (found ≡ held) × (wanted ≡ number_of (own_handle (parts_of handle).area))

pub record IsTornIn (owns : List OwnBlock) (handle at found wanted : ℕ) : Type 0 where
  pub there : (own : OwnBlock) → (parts_of handle).slot < 960 → slice_get owns (parts_of handle).area ≡ Some own → IsTornOwn own handle at found wanted
  pub none : slice_get owns (parts_of handle).area ≡ None → (at ≡ 0) × (found ≡ handle) × (wanted ≡ handle)
  pub no_slot : 960 ≤ (parts_of handle).slot → (at ≡ 0) × (found ≡ handle) × (wanted ≡ handle)

-- of these handles
pub record IsFirstTornIn (owns : List OwnBlock) (holdings : Holdings) (at found wanted : ℕ) : Type 0 where
  pub handle : ℕ
  pub held : holdings handle ≢ None
  pub torn : IsTornIn owns handle at found wanted
  pub first : (other : ℕ) → holdings other ≢ None → other < handle → IsInOwn owns other
