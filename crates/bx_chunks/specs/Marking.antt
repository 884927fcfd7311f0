-- Marks of dead inodes in the own blocks of areas.
use Rattle.std.specs.Prelude.{◌≡◌, ℕ, ◌+◌, ◌*◌, ◌<◌, ◌≤◌, ◌⊎◌, Bool, true, false, List, length, None, Some, Option, Result, Ok, Err, slice_index}
use Rattle.bx_base.specs.declared.names.Mode.TheVariants.{Shared, Exclusive}
use Rattle.bx_places.specs.Handles.{number_of, parts_of}
use Rattle.bx_layout.specs.declared.area.AreaBlock.{AreaBlock}
use Rattle.bx_layout.specs.declared.block.Block.{Block}
use Rattle.bx_layout.specs.Areas.{MarksDead, generation_in, is_dead}
use Rattle.bx_records.specs.Drafts.{Changed, with_block}
use Rattle.bx_truth.specs.Chunks.{block_at, chunks_of, dead_at, handle_of, own_block, word_at}
use Rattle.bx_truth.specs.Dying.{MarksSlot}
use Rattle.bx_truth.specs.Slots.{SetsMark}
use Rattle.bx_truth.specs.bx_views.specs.Truths.{Truth, Held, with_draft}
use Rattle.bx_chunks.specs.Areas.{HasSlots}
use Rattle.bx_chunks.specs.Freeing.{GivenIn, IsNotGiven, own_at}
use Rattle.bx_chunks.specs.Putting.{own_of}
use Rattle.bx_chunks.specs.declared.error.ChunkError.{ChunkError}
use Rattle.bx_chunks.specs.declared.error.ChunkError.TheVariants.{Need, Stale, Full, OutOfMemory, Crowded}

-- the draft in which the area of a handle has these slots
abbrev pub area_put : List Changed → ℕ → AreaBlock → List Changed
area_put draft handle slots = with_block draft (own_at handle) (own_of (parts_of handle).area slots)

-- the slots of a handle that is given, and the same with its slot's mark set or cleared
pub record Marked (held : Held) (old : List Changed) (handle : ℕ) (dead : Bool) : Type 0 where
  pub slot : (parts_of handle).slot < 960
  pub slots : AreaBlock
  pub given : GivenIn held old handle slots
  pub slots_now : AreaBlock
  pub marks : MarksDead slots slots_now (parts_of handle).slot dead

-- a slot is marked
pub record MarksAs (held : Held) (old new : List Changed) (handle : ℕ) (dead : Bool) : Type 0 where
  pub marked : Marked held old handle dead
  pub now : new ≡ area_put old handle marked.slots_now

-- a slot can't be marked, since the draft would have more than sixteen blocks
pub record NoRoomToMark (held : Held) (old : List Changed) (handle : ℕ) (dead : Bool) : Type 0 where
  pub marked : Marked held old handle dead
  pub no_room : 16 < length (area_put old handle marked.slots_now)

-- the own block of a handle's area isn't held exclusively
pub record LacksOwn (held : Held) (handle at : ℕ) : Type 0 where
  pub slot : (parts_of handle).slot < 960
  pub missing : held (own_at handle) Exclusive ≡ None
  pub at_is : at ≡ own_at handle

-- what marking answers, by what is held and the draft
abbrev pub MarksAt : Held → List Changed → List Changed → ℕ → Bool → Result (Unit {0}) ChunkError → Type 0
MarksAt held old new handle dead (Ok done) = MarksAs held old new handle dead
MarksAt held old new handle dead (Err (Need at mode)) = LacksOwn held handle at × (mode ≡ Exclusive)
MarksAt held old new handle dead (Err Stale) = (960 ≤ (parts_of handle).slot) ⊎ (((parts_of handle).slot < 960) × IsNotGiven held old handle)
MarksAt held old new handle dead (Err Crowded) = NoRoomToMark held old handle dead
MarksAt held old new handle dead (Err OutOfMemory) = Unit {0}
MarksAt held old new handle dead (Err (Full spare)) = ⊥

-- The slot of a handle has this mark, no other mark changes, and all chunks stay.
pub record Marks (areas : ℕ) (before after : Truth) (handle : ℕ) (dead : Bool) : Type 0 where
  pub slots : AreaBlock
  pub slots_now : AreaBlock
  pub sets : SetsMark before after (block_at handle) slots slots_now dead
  pub marks : MarksSlot areas before after handle dead
  pub chunks : (other : ℕ) → chunks_of areas after other ≡ chunks_of areas before other

-- What marking answers, by the truth: it is Stale of a handle that names nothing.
abbrev pub MarksIn : ℕ → Truth → List Changed → List Changed → ℕ → Bool → Result (Unit {0}) ChunkError → Type 0
MarksIn areas truth old new handle dead (Ok done) = Marks areas (with_draft truth old) (with_draft truth new) handle dead
MarksIn areas truth old new handle dead (Err Stale) = chunks_of areas (with_draft truth old) handle ≡ None
MarksIn areas truth old new handle dead (Err (Need at mode)) = Unit {0}
MarksIn areas truth old new handle dead (Err Crowded) = Unit {0}
MarksIn areas truth old new handle dead (Err OutOfMemory) = Unit {0}
MarksIn areas truth old new handle dead (Err (Full spare)) = ⊥

-- the lowest slot of an area that is marked
pub record IsLowestDead (slots : AreaBlock) (slot : ℕ) : Type 0 where
  pub there : slot < 960
  pub dead : is_dead slots slot ≡ true
  pub lowest : (lower : ℕ) → lower < slot → is_dead slots lower ≡ false

-- an area is held with these slots
pub record HoldsSlots (held : Held) (area : ℕ) (P : AreaBlock → Type 0) : Type 0 where
  pub block : Block
  pub there : held (own_block area) Shared ≡ Some block
  pub slots : AreaBlock
  pub has : HasSlots area slots block
  pub is : P slots

-- the block that is held in the place of an area's own one isn't that
pub record HoldsNoArea (held : Held) (area : ℕ) : Type 0 where
  pub block : Block
  pub there : held (own_block area) Shared ≡ Some block
  pub none : (slots : AreaBlock) → HasSlots area slots block → ⊥

-- the handle of an area's lowest slot that is marked
pub record NamesLowestDead (area handle : ℕ) (slots : AreaBlock) : Type 0 where
  pub slot : ℕ
  pub is : IsLowestDead slots slot
  pub handle_is : handle ≡ number_of (record { area = area; slot = slot; generation = generation_in (slice_index slots.words slot) })

-- what looking for a dead inode answers, by what is held
abbrev pub FindsDeadAt : Held → ℕ → Result (Option ℕ) ChunkError → Type 0
FindsDeadAt held area (Ok (Some handle)) = HoldsSlots held area (NamesLowestDead area handle)
FindsDeadAt held area (Ok None) = HoldsSlots held area (λ slots. (slot : ℕ) → slot < 960 → is_dead slots slot ≡ false)
FindsDeadAt held area (Err (Need at mode)) = (held (own_block area) Shared ≡ None) × (at ≡ own_block area) × (mode ≡ Shared)
FindsDeadAt held area (Err Stale) = HoldsNoArea held area
FindsDeadAt held area (Err OutOfMemory) = Unit {0}
FindsDeadAt held area (Err (Full spare)) = ⊥
FindsDeadAt held area (Err Crowded) = ⊥

-- the handle of the lowest block of an area that is marked
pub record IsFirstDead (truth : Truth) (area handle : ℕ) : Type 0 where
  pub slot : ℕ
  pub there : slot < 960
  pub dead : dead_at truth (1024 * area + slot) ≡ true
  pub lowest : (lower : ℕ) → lower < slot → dead_at truth (1024 * area + lower) ≡ false
  pub handle_is : handle ≡ handle_of (1024 * area + slot) (generation_in (word_at truth (1024 * area + slot)))

-- What looking for a dead inode answers, by the truth.
abbrev pub FindsDeadIn : ℕ → Truth → Result (Option ℕ) ChunkError → Type 0
FindsDeadIn area truth (Ok (Some handle)) = IsFirstDead truth area handle
FindsDeadIn area truth (Ok None) = (slot : ℕ) → slot < 960 → dead_at truth (1024 * area + slot) ≡ false
FindsDeadIn area truth (Err (Need at mode)) = Unit {0}
FindsDeadIn area truth (Err OutOfMemory) = Unit {0}
FindsDeadIn area truth (Err Stale) = ⊥
FindsDeadIn area truth (Err (Full spare)) = ⊥
FindsDeadIn area truth (Err Crowded) = ⊥
