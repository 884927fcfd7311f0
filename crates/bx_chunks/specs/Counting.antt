-- How many slots are free.
use Rattle.std.specs.Prelude.{◌≡◌, ℕ, zero, suc, ◌+◌, ◌<◌, ◌⊎◌, List, count_by, None, Some, Result, Ok, Err}
use Rattle.std.specs.List.{range_with_len, sum_by}
use Rattle.bx_base.specs.declared.names.Mode.TheVariants.{Shared}
use Rattle.bx_layout.specs.declared.area.AreaBlock.{AreaBlock}
use Rattle.bx_layout.specs.declared.block.Block.{Block}
use Rattle.bx_layout.specs.Areas.{is_free}
use Rattle.bx_truth.specs.Chunks.{own_block, word_in}
use Rattle.bx_truth.specs.bx_views.specs.Truths.{Truth, Held}
use Rattle.bx_chunks.specs.Areas.{HasSlots}
use Rattle.bx_chunks.specs.declared.error.ChunkError.{ChunkError}
use Rattle.bx_chunks.specs.declared.error.ChunkError.TheVariants.{Need, Stale, Full, OutOfMemory, Crowded}

-- how many of an area's slots are free, by the payload of its own block
unfoldable pub free_in : List ℕ → ℕ
free_in payload = count_by (λ slot. is_free (word_in payload slot)) (range_with_len 0 960)

-- How many slots of a volume are free.
abbrev pub free_slots : ℕ → Truth → ℕ
free_slots areas truth = sum_by (λ area. free_in (truth (own_block area)).payload) (range_with_len 0 areas)

-- how many slots of a block's are free; where it isn't the area's own block, it has none
abbrev pub HasFreeCount : ℕ → Block → ℕ → Type 0
HasFreeCount area block count =
    ((slots : AreaBlock) × HasSlots area slots block × (count ≡ count_by is_free slots.words))
    ⊎ (((slots : AreaBlock) → HasSlots area slots block → ⊥) × (count ≡ 0))

-- an area is held, with so many free slots
pub record HoldsFree (held : Held) (area count : ℕ) : Type 0 where
  pub block : Block
  pub there : held (own_block area) Shared ≡ Some block
  pub counts : HasFreeCount area block count

-- the sum of so many numbers, each of which is the number at its place
unfoldable pub Sums : (ℕ → ℕ → Type 0) → ℕ → ℕ → Type 0
Sums Is zero total = total ≡ 0
Sums Is (suc more) total = (rest : ℕ) × (last : ℕ) × Sums Is more rest × Is more last × (total ≡ rest + last)

-- this is the first area that isn't held
pub record LacksArea (held : Held) (areas at : ℕ) : Type 0 where
  pub area : ℕ
  pub there : area < areas
  pub before : (other : ℕ) → other < area → held (own_block other) Shared ≡ None → ⊥
  pub missing : held (own_block area) Shared ≡ None
  pub at_is : at ≡ own_block area

-- what counting the free slots answers, by what is held
abbrev pub CountsAt : Held → ℕ → Result ℕ ChunkError → Type 0
CountsAt held areas (Ok count) = Sums (HoldsFree held) areas count
CountsAt held areas (Err (Need at mode)) = LacksArea held areas at × (mode ≡ Shared)
CountsAt held areas (Err OutOfMemory) = Unit {0}
CountsAt held areas (Err Stale) = ⊥
CountsAt held areas (Err (Full spare)) = ⊥
CountsAt held areas (Err Crowded) = ⊥

-- What counting the free slots answers, by the truth.
abbrev pub CountsIn : ℕ → Truth → Result ℕ ChunkError → Type 0
CountsIn areas truth (Ok count) = count ≡ free_slots areas truth
CountsIn areas truth (Err (Need at mode)) = Unit {0}
CountsIn areas truth (Err OutOfMemory) = Unit {0}
CountsIn areas truth (Err Stale) = ⊥
CountsIn areas truth (Err (Full spare)) = ⊥
CountsIn areas truth (Err Crowded) = ⊥
