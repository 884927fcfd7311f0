use Rattle.std.proofs.Common.{◌≡◌, ℕ, ◌<◌}
use Rattle.std.specs.Prelude.{slice_index_or}
use Rattle.bx_audit_slots.specs.declared.slots.UsedSlot.{UsedSlot}
use Rattle.bx_audit_owners.specs.Holding.{IsHeld, holdings_of}
use Rattle.bx_audit_owners.proofs.holders.check_slots.Given as goal

abbrev pub invariant-loop-slot : goal.invariant-loop-slot
invariant-loop-slot l = record { held : (k : ℕ) (slot : UsedSlot) → k < l.slot-index → slice_index_or l.slots k slot ≡ slot → IsHeld (holdings_of l.holders) slot }
