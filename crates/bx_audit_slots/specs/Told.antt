-- What the blocks of a volume are told to be.
use Rattle.std.specs.Prelude.{ℕ}
use Rattle.bx_homes.specs.Slots.{AreBlocks}
use Rattle.bx_layout.specs.declared.block.Block.{Block}
use Rattle.bx_truth.specs.Chunks.{IsChunked}
use Rattle.bx_views.specs.Truths.{Truth}

-- The blocks are told, they are this truth, and its slots are right.
pub record IsTold (is_told : Type 0) (areas : ℕ) (stands : ℕ → Block → Type 0) (truth : Truth) : Type 0 where
  pub told : is_told
  pub blocks : AreBlocks areas stands truth
  pub chunked : IsChunked areas truth
