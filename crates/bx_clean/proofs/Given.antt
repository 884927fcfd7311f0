-- What was given out stays so.
use Rattle.std.proofs.Common.{ℕ, arith}
use Rattle.bx_truth.specs.Chunks.{block_at}
use Rattle.bx_truth.specs.Shown.{KeepsSlots}
use Rattle.bx_truth.specs.Stands.{WasGiven}
use Rattle.bx_views.specs.Truths.{Truth}

pub given_now : (areas : ℕ) (truth now : Truth) → KeepsSlots areas truth now → (handle : ℕ) → WasGiven areas truth handle → WasGiven areas now handle
given_now areas truth now slots handle was = record { slot = was.slot; generation = let a = was.generation in let b = slots.given (block_at handle) was.slot in omega (arith, a, b) }
