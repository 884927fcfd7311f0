use Rattle.std.proofs.Common.{Ok}
use Rattle.std.specs.Prelude.{All}
use Rattle.bx_audit_slots.specs.OwnBlocks.{AreOwn, HasArea}
use Rattle.bx_homes.specs.Slots.{StaysSo}
use Rattle.bx_audit_pages.specs.Reading.{ReadsChunks}
use Rattle.bx_audit_slots.proofs.own_blocks.read_own_blocks.Given as goal

abbrev pub invariant-loop-area : goal.invariant-loop-area
invariant-loop-area g l = record {
  tells : g.B.Blocks.tells l.fn.blocks → AreOwn (g.B.Blocks.stands l.fn.blocks) l.area l.owns.items;
  blocks : ReadsChunks {A = Unit {0}} g.B.Blocks l.fn.blocks l.blocks (Ok tt);
  stays : g.B.Blocks.tells l.fn.blocks → StaysSo (g.B.Blocks.stands l.fn.blocks) (g.B.Blocks.stands l.blocks);
  are : All HasArea l.owns.items;
}
