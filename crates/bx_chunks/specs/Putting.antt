-- A slot's word and its block put into a draft.
use Rattle.std.specs.Prelude.{◌≡◌, ℕ, ◌<◌, List, length, replicate, Option, None, Some, Result, Ok, Err}
use Rattle.bx_base.specs.Writing.{padded}
use Rattle.bx_places.specs.Handles.{number_of, own_handle}
use Rattle.bx_layout.specs.declared.area.AreaBlock.{AreaBlock}
use Rattle.bx_layout.specs.declared.block.Block.{Block}
use Rattle.bx_layout.specs.Areas.{area_text}
use Rattle.bx_records.specs.Drafts.{Changed, block_in, with_block}
use Rattle.bx_truth.specs.Chunks.{own_block}
use Rattle.bx_chunks.specs.declared.error.ChunkError.{ChunkError}
use Rattle.bx_chunks.specs.declared.error.ChunkError.TheVariants.{Need, Stale, Full, OutOfMemory, Crowded}

-- the own block of an area with these slots
abbrev pub own_of : ℕ → AreaBlock → Block
own_of area slots = record { handle = number_of (own_handle area); kind = 4; payload = padded 4096 (area_text slots) }

-- a block of zeros
abbrev pub empty_of : ℕ → ℕ → Block
empty_of handle kind = record { handle = handle; kind = kind; payload = replicate 4096 0 }

-- the draft in which an area has these slots, and one block is empty under this handle
abbrev pub slot_put : List Changed → ℕ → AreaBlock → ℕ → ℕ → ℕ → List Changed
slot_put draft area slots at handle kind = with_block (with_block draft (own_block area) (own_of area slots)) at (empty_of handle kind)

-- what putting blocks into a draft answers: the draft is this one then, and it is crowded where it would have more than sixteen
abbrev pub PutsAs : {X : Type 0} → List Changed → List Changed → Result X ChunkError → Type 0
PutsAs new after (Ok x) = new ≡ after
PutsAs new after (Err Crowded) = 16 < length after
PutsAs new after (Err OutOfMemory) = Unit {0}
PutsAs new after (Err (Need at mode)) = ⊥
PutsAs new after (Err Stale) = ⊥
PutsAs new after (Err (Full spare)) = ⊥

-- how many blocks more a draft has once one with a number is put, by what it has there
abbrev pub missing_of : Option Block → ℕ
missing_of None = 1
missing_of (Some block) = 0

abbrev pub missing : List Changed → ℕ → ℕ
missing draft at = missing_of (block_in draft at)
