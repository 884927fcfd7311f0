-- Drafts: the blocks that a call changes, in the order in which they were first put, each with its number.
use Rattle.std.specs.Prelude.{ℕ, suc, ◌≤◌, Bool, ◌==◌, if◌then◌else◌, List, [], ◌∷◌, length, Option, Some, None, option_map}
use Rattle.std.specs.List.{IsDistinct}
pub use Rattle.bx_layout.specs.declared.block.Block.{Block}

-- a block with its number
abbrev pub Changed : Type 0
Changed = ℕ × Block

-- the block with a number
abbrev pub block_in : List Changed → ℕ → Option Block
block_in [] at = None
block_in (first ∷ others) at = if first.0 == at then Some first.1 else block_in others at

-- the blocks once one is put: in the place of the one with its number, or at the end
abbrev pub with_block : List Changed → ℕ → Block → List Changed
with_block [] at block = (at, block) ∷ []
with_block (first ∷ others) at block = if first.0 == at then (at, block) ∷ others else first ∷ with_block others at block

-- the place of the block with a number, counted from 0
abbrev pub place_in : List Changed → ℕ → Option ℕ
place_in [] at = None
place_in (first ∷ others) at = if first.0 == at then Some 0 else option_map suc (place_in others at)

-- whether two have one number
abbrev pub same_number : Changed → Changed → Bool
same_number a b = a.0 == b.0

-- what every draft has: at most 16 blocks, and no two with one number
pub record IsDraft (blocks : List Changed) : Type 0 where
  pub most : length blocks ≤ 16
  pub apart : IsDistinct same_number blocks
