use Rattle.std.proofs.Common.{◌*◌, Ok}
use Rattle.bx_audit_slots.specs.Told.{IsTold}
use Rattle.bx_audit_slots.specs.UsedSlots.{AreUsedBelow}
use Rattle.bx_views.specs.Truths.{Truth}
use Rattle.bx_audit_pages.specs.Reading.{ReadsChunks}
use Rattle.bx_audit_slots.proofs.slots.used_slots.Given as goal

abbrev pub invariant-loop-area : goal.invariant-loop-area
invariant-loop-area g l = record {
  blocks : ReadsChunks {A = Unit {0}} g.B.Blocks l.fn.blocks l.blocks (Ok tt);
  told : (truth : Truth) → IsTold (g.B.Blocks.tells l.fn.blocks) l.areas (g.B.Blocks.stands l.fn.blocks) truth → IsTold (g.B.Blocks.tells l.blocks) l.areas (g.B.Blocks.stands l.blocks) truth;
  done : (truth : Truth) → IsTold (g.B.Blocks.tells l.fn.blocks) l.areas (g.B.Blocks.stands l.fn.blocks) truth → AreUsedBelow l.areas truth (1024 * l.area) l.used.items;
}
