-- What allocating answers.
use Rattle.std.specs.Prelude.{◌≡◌, ℕ, ◌+◌, ◌*◌, ◌%◌, ◌^◌, ◌<◌, ◌≤◌, ◌==◌, if◌then◌else◌, ◌⊎◌, true, false, List, length, slice_index, None, Some, IsSome, Result, Ok, Err}
use Rattle.bx_base.specs.declared.names.Mode.TheVariants.{Shared, Exclusive}
use Rattle.bx_places.specs.Handles.{number_of}
use Rattle.bx_layout.specs.declared.area.AreaBlock.{AreaBlock}
use Rattle.bx_layout.specs.Areas.{generation_in, taken_word, with_word}
use Rattle.bx_places.specs.Places.{is_block}
use Rattle.bx_records.specs.Drafts.{Changed}
use Rattle.bx_truth.specs.Chunks.{IsChunked, IsName, IsSlot, block_at, chunks_of, is_free_at, own_block, word_at}
use Rattle.bx_truth.specs.Slots.{TakesSlot}
use Rattle.bx_truth.specs.bx_views.specs.Truths.{Truth, Held, with_draft}
use Rattle.bx_chunks.specs.Areas.{IsFull, HasFree, area_in_turn}
use Rattle.bx_chunks.specs.Counting.{HoldsFree, Sums, free_slots}
use Rattle.bx_chunks.specs.Putting.{empty_of, slot_put}
use Rattle.bx_chunks.specs.declared.error.ChunkError.{ChunkError}
use Rattle.bx_chunks.specs.declared.error.ChunkError.TheVariants.{Need, Stale, Full, OutOfMemory, Crowded}

-- the first areas in turn are held and full
abbrev pub PassesFull : Held → List Changed → ℕ → ℕ → ℕ → Type 0
PassesFull held draft near areas turns = (turn : ℕ) → turn < turns → IsFull held draft (area_in_turn near areas turn)

-- the first area in turn with a free slot, its slots, and the lowest free one
pub record IsNext (held : Held) (draft : List Changed) (near areas area : ℕ) (slots : AreaBlock) (slot : ℕ) : Type 0 where
  pub turn : ℕ
  pub within : turn < areas
  pub area_is : area ≡ area_in_turn near areas turn
  pub passes : PassesFull held draft near areas turn
  pub free : HasFree held draft area slots slot

-- the next area in turn, behind those that are held and full, isn't held
pub record LacksNext (held : Held) (draft : List Changed) (near areas at : ℕ) : Type 0 where
  pub turn : ℕ
  pub within : turn < areas
  pub passes : PassesFull held draft near areas turn
  pub missing : held (own_block (area_in_turn near areas turn)) Shared ≡ None
  pub at_is : at ≡ own_block (area_in_turn near areas turn)

-- the number of the block of a slot
abbrev pub slot_block : ℕ → ℕ → ℕ
slot_block area slot = 1024 * area + slot

-- the handle of a slot that is taken, one generation above the one before
abbrev pub next_handle : ℕ → AreaBlock → ℕ → ℕ
next_handle area slots slot = number_of (record { area = area; slot = slot; generation = generation_in (slice_index slots.words slot) + 1 })

-- the draft in which a slot is taken, and its block is empty
abbrev pub slot_taken : List Changed → ℕ → AreaBlock → ℕ → List Changed
slot_taken draft area slots slot =
    slot_put draft area (with_word slots slot (taken_word (slice_index slots.words slot))) (slot_block area slot) (next_handle area slots slot) 3

-- both blocks that taking a slot writes are held exclusively
pub record HoldsBoth (held : Held) (own at : ℕ) : Type 0 where
  pub own_held : IsSome (held own Exclusive)
  pub at_held : IsSome (held at Exclusive)

-- of two blocks this one isn't held exclusively, and none before it
pub data LacksOneOf (held : Held) (own at : ℕ) : ℕ → Type 0 where
  first : held own Exclusive ≡ None → LacksOneOf held own at own
  second : IsSome (held own Exclusive) → held at Exclusive ≡ None → LacksOneOf held own at at

-- what taking this slot of an area answers
abbrev pub TakesAt : Held → List Changed → List Changed → ℕ → AreaBlock → ℕ → Result ℕ ChunkError → Type 0
TakesAt held old new area slots slot (Ok handle) =
    HoldsBoth held (own_block area) (slot_block area slot) × (handle ≡ next_handle area slots slot) × (new ≡ slot_taken old area slots slot) × (length new ≤ 16)
TakesAt held old new area slots slot (Err (Need at mode)) = LacksOneOf held (own_block area) (slot_block area slot) at × (mode ≡ Exclusive)
TakesAt held old new area slots slot (Err Crowded) = HoldsBoth held (own_block area) (slot_block area slot) × (16 < length (slot_taken old area slots slot))
TakesAt held old new area slots slot (Err OutOfMemory) = Unit {0}
TakesAt held old new area slots slot (Err Stale) = ⊥
TakesAt held old new area slots slot (Err (Full spare)) = ⊥

-- the lowest free slot of the first area in turn that has one is what the answer is of
pub record TakesNext (held : Held) (old new : List Changed) (near areas : ℕ) (answer : Result ℕ ChunkError) : Type 0 where
  pub area : ℕ
  pub slots : AreaBlock
  pub slot : ℕ
  pub next : IsNext held old near areas area slots slot
  pub takes : TakesAt held old new area slots slot answer

-- every area is held and full, and so many slots were free in the view
pub record IsFullVolume (held : Held) (draft : List Changed) (near areas spare : ℕ) : Type 0 where
  pub passes : PassesFull held draft near areas areas
  pub spare_is : Sums (λ turn. HoldsFree held (area_in_turn near areas turn)) areas spare

-- what allocating answers, by what is held and the draft
abbrev pub AllocatesAt : Held → List Changed → List Changed → ℕ → ℕ → Result ℕ ChunkError → Type 0
AllocatesAt held old new near areas (Ok handle) = TakesNext held old new near areas (Ok handle)
AllocatesAt held old new near areas (Err (Need at mode)) = (LacksNext held old near areas at × (mode ≡ Exclusive)) ⊎ TakesNext held old new near areas (Err (Need at mode))
AllocatesAt held old new near areas (Err (Full spare)) = IsFullVolume held old near areas spare
AllocatesAt held old new near areas (Err Crowded) = TakesNext held old new near areas (Err Crowded)
AllocatesAt held old new near areas (Err OutOfMemory) = Unit {0}
AllocatesAt held old new near areas (Err Stale) = ⊥

-- The chunk map gets one handle more, whose generation is above the one that its slot had, so that it was never given out. It names an
-- empty block, and all other chunks stay.
pub record AddsChunk (areas : ℕ) (before after : Truth) (handle : ℕ) : Type 0 where
  pub block : ℕ
  pub slots : AreaBlock
  pub slot : IsSlot areas block
  pub takes : TakesSlot before after block slots
  pub at : block_at handle ≡ block
  pub name : IsName areas handle
  pub never : generation_in (word_at before block) < handle % 2 ^ 32
  pub here : after block ≡ empty_of handle 3
  pub fresh : chunks_of areas before handle ≡ None
  pub chunks : (other : ℕ) → chunks_of areas after other ≡ (if other == handle then Some (empty_of handle 3) else chunks_of areas before other)
  pub chunked : IsChunked areas after

-- What allocating answers, by the truth.
abbrev pub AllocatesIn : ℕ → Truth → List Changed → List Changed → Result ℕ ChunkError → Type 0
AllocatesIn areas truth old new (Ok handle) = AddsChunk areas (with_draft truth old) (with_draft truth new) handle
AllocatesIn areas truth old new (Err (Full spare)) =
    (IsChunked areas truth → spare ≡ free_slots areas truth) × ((block : ℕ) → IsSlot areas block → is_free_at (with_draft truth old) block ≡ false)
AllocatesIn areas truth old new (Err (Need at mode)) = Unit {0}
AllocatesIn areas truth old new (Err Crowded) = Unit {0}
AllocatesIn areas truth old new (Err OutOfMemory) = Unit {0}
AllocatesIn areas truth old new (Err Stale) = ⊥

-- what is needed is a block of the volume that isn't held so
abbrev pub NeedsFairly : {X : Type 0} → ℕ → Held → Result X ChunkError → Type 0
NeedsFairly areas held (Err (Need at mode)) = (is_block areas at ≡ true) × (held at mode ≡ None)
NeedsFairly areas held (Ok x) = Unit {0}
NeedsFairly areas held (Err Stale) = Unit {0}
NeedsFairly areas held (Err (Full spare)) = Unit {0}
NeedsFairly areas held (Err OutOfMemory) = Unit {0}
NeedsFairly areas held (Err Crowded) = Unit {0}
