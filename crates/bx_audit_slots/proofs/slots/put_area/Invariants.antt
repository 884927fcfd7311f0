use Rattle.std.proofs.Common.{◌+◌, ◌*◌, ◌<◌, ℕ}
use Rattle.bx_audit_slots.specs.UsedSlots.{AreUsedBelow}
use Rattle.bx_layout.specs.Areas.{SpellsArea}
use Rattle.bx_truth.specs.Chunks.{own_block}
use Rattle.bx_views.specs.Truths.{Truth}
use Rattle.bx_audit_slots.proofs.slots.put_area.Given as goal

abbrev pub invariant-loop-slot : goal.invariant-loop-slot
invariant-loop-slot l = record {
  done : (areas : ℕ) (truth : Truth) → l.area < areas → SpellsArea l.slots (truth (own_block l.area)).payload → AreUsedBelow areas truth (1024 * l.area) l.fn.used.items
      → AreUsedBelow areas truth (1024 * l.area + l.slot) l.used.items;
}
