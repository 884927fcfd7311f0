-- How the area is chosen in which a slot is taken.
use Rattle.std.specs.Prelude.{◌≡◌, ℕ, ◌≤◌, List, None, Result, Ok, Err}
use Rattle.bx_base.specs.declared.names.Mode.TheVariants.{Shared, Exclusive}
use Rattle.bx_layout.specs.declared.block.Block.{Block}
use Rattle.bx_layout.specs.Areas.{IsLowestFree}
use Rattle.bx_records.specs.Drafts.{Changed}
use Rattle.bx_truth.specs.Chunks.{own_block}
use Rattle.bx_truth.specs.bx_views.specs.Truths.{Held}
use Rattle.bx_chunks.specs.Allocating.{IsNext, LacksNext, IsFullVolume}
use Rattle.bx_chunks.specs.Areas.{HasFree, HasNoFree, HasSlots, IsFull}
use Rattle.bx_chunks.specs.Counting.{HasFreeCount, HoldsFree}
use Rattle.bx_chunks.specs.declared.allocating.Choice.{Choice}
use Rattle.bx_chunks.specs.declared.allocating.Choice.TheVariants.{Slot, Nowhere}
use Rattle.bx_chunks.specs.declared.allocating.Found.{Found}
use Rattle.bx_chunks.specs.declared.allocating.Found.TheVariants.{Free, NoneFree}
use Rattle.bx_chunks.specs.declared.error.ChunkError.{ChunkError}
use Rattle.bx_chunks.specs.declared.error.ChunkError.TheVariants.{Need, Stale, Full, OutOfMemory, Crowded}

-- what is found in the own block of an area, as a draft leaves it and as it is held
abbrev pub LooksIn : ℕ → Block → Block → Found → Type 0
LooksIn area seen held (Free slots slot) = HasSlots area slots seen × IsLowestFree slots slot
LooksIn area seen held (NoneFree count) = HasNoFree area seen × HasFreeCount area held count × (count ≤ 960)

-- what is found in an area, over what is held and a draft
abbrev pub LooksAt : Held → List Changed → ℕ → Result Found ChunkError → Type 0
LooksAt held draft area (Ok (Free slots slot)) = HasFree held draft area slots slot
LooksAt held draft area (Ok (NoneFree count)) = IsFull held draft area × HoldsFree held area count × (count ≤ 960)
LooksAt held draft area (Err (Need at mode)) = (held (own_block area) Shared ≡ None) × (at ≡ own_block area) × (mode ≡ Exclusive)
LooksAt held draft area (Err OutOfMemory) = Unit {0}
LooksAt held draft area (Err Stale) = ⊥
LooksAt held draft area (Err (Full spare)) = ⊥
LooksAt held draft area (Err Crowded) = ⊥

-- what is found in all areas in turn
abbrev pub ChoosesAt : Held → List Changed → ℕ → ℕ → Result Choice ChunkError → Type 0
ChoosesAt held draft near areas (Ok (Slot area slots slot)) = IsNext held draft near areas area slots slot
ChoosesAt held draft near areas (Ok (Nowhere spare)) = IsFullVolume held draft near areas spare
ChoosesAt held draft near areas (Err (Need at mode)) = LacksNext held draft near areas at × (mode ≡ Exclusive)
ChoosesAt held draft near areas (Err OutOfMemory) = Unit {0}
ChoosesAt held draft near areas (Err Stale) = ⊥
ChoosesAt held draft near areas (Err (Full spare)) = ⊥
ChoosesAt held draft near areas (Err Crowded) = ⊥
