-- Slots that are freed, and steps one after the other.
use Rattle.std.proofs.Common.{ℕ, ◌≤◌, arith, ◌∙◌}
use Rattle.bx_truth.specs.Chunks.{IsChunked, block_at}
use Rattle.bx_truth.specs.Shown.{KeepsSlots}
use Rattle.bx_truth.proofs.Freed.{freed_keeps}
use Rattle.bx_views.specs.Truths.{Truth}
use Rattle.bx_chunks.specs.Freeing.{RemovesChunk}

pub slots_steps : (areas : ℕ) (a b c : Truth) → KeepsSlots areas a b → KeepsSlots areas b c → KeepsSlots areas a c
slots_steps areas a b c one two = record {
  chunked = two.chunked;
  given = λ block slot. let x = one.given block slot in let y = two.given block slot in omega (arith, x, y);
  dead = λ block slot. two.dead block slot ∙ one.dead block slot;
}

pub removes_keeps : (areas : ℕ) (truth now : Truth) (handle : ℕ) → areas ≤ 64 → IsChunked areas truth → RemovesChunk areas truth now handle → KeepsSlots areas truth now
removes_keeps areas truth now handle few chunked r = freed_keeps areas few truth now (block_at handle) r.slots r.slot r.frees chunked
