-- Blocks and areas over a view with a draft.
use Rattle.std.specs.Prelude.{◌≡◌, ℕ, ◌+◌, ◌<◌, ◌%◌, false, List, Option, option_map, unwrap_or, Some, slice_index}
use Rattle.bx_base.specs.declared.names.Mode.{Mode}
use Rattle.bx_base.specs.declared.names.Mode.TheVariants.{Shared}
use Rattle.bx_places.specs.Handles.{number_of, own_handle}
use Rattle.bx_layout.specs.declared.area.AreaBlock.{AreaBlock}
use Rattle.bx_layout.specs.declared.block.Block.{Block}
use Rattle.bx_layout.specs.Areas.{SpellsArea, IsLowestFree, is_free}
use Rattle.bx_records.specs.Drafts.{Changed, block_in}
use Rattle.bx_truth.specs.Chunks.{own_block}
use Rattle.bx_truth.specs.bx_views.specs.Truths.{Held}

-- what is held, as a draft leaves it
abbrev pub seen_in : Held → List Changed → ℕ → Mode → Option Block
seen_in held draft at mode = option_map (unwrap_or (block_in draft at)) (held at mode)

-- the block is an area's own, and its payload is these slots
pub record HasSlots (area : ℕ) (slots : AreaBlock) (block : Block) : Type 0 where
  pub handle : block.handle ≡ number_of (own_handle area)
  pub kind : block.kind ≡ 4
  pub spells : SpellsArea slots block.payload

-- the areas from one on, in turn: behind the last comes the first
abbrev pub area_in_turn : ℕ → ℕ → ℕ → ℕ
area_in_turn near areas turn = (near + turn) % areas

-- no slot of the block's is free; where it isn't the area's own block, it has none
abbrev pub HasNoFree : ℕ → Block → Type 0
HasNoFree area block = (slots : AreaBlock) → HasSlots area slots block → (slot : ℕ) → slot < 960 → is_free (slice_index slots.words slot) ≡ false

-- an area is held, and as the draft leaves it no slot is free
pub record IsFull (held : Held) (draft : List Changed) (area : ℕ) : Type 0 where
  pub block : Block
  pub there : seen_in held draft (own_block area) Shared ≡ Some block
  pub none : HasNoFree area block

-- an area is held, and as the draft leaves it has these slots, of which this is the lowest free one
pub record HasFree (held : Held) (draft : List Changed) (area : ℕ) (slots : AreaBlock) (slot : ℕ) : Type 0 where
  pub block : Block
  pub there : seen_in held draft (own_block area) Shared ≡ Some block
  pub has : HasSlots area slots block
  pub lowest : IsLowestFree slots slot
