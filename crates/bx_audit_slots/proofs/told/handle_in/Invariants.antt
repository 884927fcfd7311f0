use Rattle.std.proofs.Common.{◌≡◌, ℕ, ◌<◌}
use Rattle.std.specs.Prelude.{◌≢◌, slice_index_or}
use Rattle.bx_audit_slots.specs.declared.slots.UsedSlot.{UsedSlot}
use Rattle.bx_truth.specs.Chunks.{block_at}
use Rattle.bx_audit_slots.proofs.told.handle_in.Given as goal

abbrev pub invariant-loop-slot : goal.invariant-loop-slot
invariant-loop-slot l = record { none : (k : ℕ) (slot : UsedSlot) → k < l.slot-index → slice_index_or l.slots k slot ≡ slot → block_at slot.handle ≢ l.block }
