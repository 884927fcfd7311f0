-- What freeing answers.
use Rattle.std.specs.Prelude.{◌≡◌, ℕ, ◌<◌, ◌≤◌, ◌==◌, if◌then◌else◌, true, List, length, slice_index, None, Some, Result, Ok, Err}
use Rattle.bx_base.specs.declared.names.Mode.TheVariants.{Exclusive}
use Rattle.bx_places.specs.declared.chunk_handle.ChunkHandle.{ChunkHandle}
use Rattle.bx_places.specs.Handles.{parts_of}
use Rattle.bx_layout.specs.declared.area.AreaBlock.{AreaBlock}
use Rattle.bx_layout.specs.declared.block.Block.{Block}
use Rattle.bx_layout.specs.Areas.{in_use, generation_in, freed_word, with_word}
use Rattle.bx_records.specs.Drafts.{Changed}
use Rattle.bx_truth.specs.Chunks.{IsChunked, IsSlot, block_at, chunks_of, own_block}
use Rattle.bx_truth.specs.Slots.{FreesSlot}
use Rattle.bx_truth.specs.bx_views.specs.Truths.{Truth, Held, with_draft}
use Rattle.bx_chunks.specs.Areas.{seen_in, HasSlots}
use Rattle.bx_chunks.specs.Putting.{empty_of, slot_put}
use Rattle.bx_chunks.specs.Reading.{NamesAnother}
use Rattle.bx_chunks.specs.declared.error.ChunkError.{ChunkError}
use Rattle.bx_chunks.specs.declared.error.ChunkError.TheVariants.{Need, Stale, Full, OutOfMemory, Crowded}

-- the own block of the area that a handle is in
abbrev pub own_at : ℕ → ℕ
own_at handle = own_block (parts_of handle).area

-- the word of the handle's slot is in use, in the handle's generation
pub record IsGiven (slots : AreaBlock) (handle : ChunkHandle) : Type 0 where
  pub used : in_use (slice_index slots.words handle.slot) ≡ true
  pub generation : generation_in (slice_index slots.words handle.slot) ≡ handle.generation

-- a handle is one of a slot, whose block is held exclusively, and as the draft leaves it its header names the handle
pub record IsNamed (held : Held) (draft : List Changed) (handle : ℕ) : Type 0 where
  pub slot : (parts_of handle).slot < 960
  pub block : Block
  pub there : seen_in held draft (block_at handle) Exclusive ≡ Some block
  pub header : block.handle ≡ handle

-- the area of a handle is held exclusively, and as the draft leaves it has these slots, which give the handle
pub record GivenIn (held : Held) (draft : List Changed) (handle : ℕ) (slots : AreaBlock) : Type 0 where
  pub own : Block
  pub there : seen_in held draft (own_at handle) Exclusive ≡ Some own
  pub has : HasSlots (parts_of handle).area slots own
  pub given : IsGiven slots (parts_of handle)

-- the handle is in use, in an area with these slots
pub record IsInUse (held : Held) (draft : List Changed) (handle : ℕ) (slots : AreaBlock) : Type 0 where
  pub named : IsNamed held draft handle
  pub area : GivenIn held draft handle slots

-- the area of a handle is held exclusively, and as the draft leaves it the handle isn't given
pub record IsNotGiven (held : Held) (draft : List Changed) (handle : ℕ) : Type 0 where
  pub own : Block
  pub there : seen_in held draft (own_at handle) Exclusive ≡ Some own
  pub no : (slots : AreaBlock) → HasSlots (parts_of handle).area slots own → IsGiven slots (parts_of handle) → ⊥

-- a handle names no chunk: it is none of a slot, or its block's header names another, or it isn't given
pub data NamesNone (held : Held) (draft : List Changed) (handle : ℕ) : Type 0 where
  no_slot : 960 ≤ (parts_of handle).slot → NamesNone held draft handle
  another : (parts_of handle).slot < 960 → NamesAnother (seen_in held draft (block_at handle) Exclusive) handle → NamesNone held draft handle
  not_given : IsNamed held draft handle → IsNotGiven held draft handle → NamesNone held draft handle

-- the first block that isn't held exclusively: the handle's, or the own block of its area
pub data LacksBlock (held : Held) (draft : List Changed) (handle : ℕ) : ℕ → Type 0 where
  its_block : (parts_of handle).slot < 960 → held (block_at handle) Exclusive ≡ None → LacksBlock held draft handle (block_at handle)
  its_area : IsNamed held draft handle → held (own_at handle) Exclusive ≡ None → LacksBlock held draft handle (own_at handle)

-- the draft in which the handle's slot is free again, in the same generation, and its block is empty
abbrev pub slot_freed : List Changed → ℕ → AreaBlock → List Changed
slot_freed draft handle slots =
    slot_put draft (parts_of handle).area (with_word slots (parts_of handle).slot (freed_word (slice_index slots.words (parts_of handle).slot))) (block_at handle) 0 0

-- a slot is freed
pub record Frees (held : Held) (old new : List Changed) (handle : ℕ) : Type 0 where
  pub slots : AreaBlock
  pub is : IsInUse held old handle slots
  pub now : new ≡ slot_freed old handle slots
  pub room : length new ≤ 16

-- a slot can't be freed, since the draft would have more than sixteen blocks
pub record IsCrowded (held : Held) (old : List Changed) (handle : ℕ) : Type 0 where
  pub slots : AreaBlock
  pub is : IsInUse held old handle slots
  pub no_room : 16 < length (slot_freed old handle slots)

-- what freeing answers, by what is held and the draft
abbrev pub FreesAt : Held → List Changed → List Changed → ℕ → Result (Unit {0}) ChunkError → Type 0
FreesAt held old new handle (Ok done) = Frees held old new handle
FreesAt held old new handle (Err (Need at mode)) = LacksBlock held old handle at × (mode ≡ Exclusive)
FreesAt held old new handle (Err Stale) = NamesNone held old handle
FreesAt held old new handle (Err Crowded) = IsCrowded held old handle
FreesAt held old new handle (Err OutOfMemory) = Unit {0}
FreesAt held old new handle (Err (Full spare)) = ⊥

-- what looking for the slots of a handle's area answers, where its block names it
abbrev pub GivesAt : Held → List Changed → ℕ → Result AreaBlock ChunkError → Type 0
GivesAt held draft handle (Ok slots) = GivenIn held draft handle slots
GivesAt held draft handle (Err (Need at mode)) = (held (own_at handle) Exclusive ≡ None) × (at ≡ own_at handle) × (mode ≡ Exclusive)
GivesAt held draft handle (Err Stale) = IsNotGiven held draft handle
GivesAt held draft handle (Err OutOfMemory) = Unit {0}
GivesAt held draft handle (Err (Full spare)) = ⊥
GivesAt held draft handle (Err Crowded) = ⊥

-- and whether or not it does
abbrev pub UsesAt : Held → List Changed → ℕ → Result AreaBlock ChunkError → Type 0
UsesAt held draft handle (Ok slots) = IsInUse held draft handle slots
UsesAt held draft handle (Err (Need at mode)) = LacksBlock held draft handle at × (mode ≡ Exclusive)
UsesAt held draft handle (Err Stale) = NamesNone held draft handle
UsesAt held draft handle (Err OutOfMemory) = Unit {0}
UsesAt held draft handle (Err (Full spare)) = ⊥
UsesAt held draft handle (Err Crowded) = ⊥

-- The chunk map loses one handle, and all other chunks stay.
pub record RemovesChunk (areas : ℕ) (before after : Truth) (handle : ℕ) : Type 0 where
  pub slots : AreaBlock
  pub slot : IsSlot areas (block_at handle)
  pub frees : FreesSlot before after (block_at handle) slots
  pub here : after (block_at handle) ≡ empty_of 0 0
  pub was : chunks_of areas before handle ≡ Some (before (block_at handle))
  pub chunks : (other : ℕ) → chunks_of areas after other ≡ (if other == handle then None else chunks_of areas before other)
  pub chunked : IsChunked areas after

-- What freeing answers, by the truth: it is Stale of a handle that names nothing.
abbrev pub FreesIn : ℕ → Truth → List Changed → List Changed → ℕ → Result (Unit {0}) ChunkError → Type 0
FreesIn areas truth old new handle (Ok done) = RemovesChunk areas (with_draft truth old) (with_draft truth new) handle
FreesIn areas truth old new handle (Err Stale) = chunks_of areas (with_draft truth old) handle ≡ None
FreesIn areas truth old new handle (Err (Need at mode)) = Unit {0}
FreesIn areas truth old new handle (Err Crowded) = Unit {0}
FreesIn areas truth old new handle (Err OutOfMemory) = Unit {0}
FreesIn areas truth old new handle (Err (Full spare)) = ⊥
