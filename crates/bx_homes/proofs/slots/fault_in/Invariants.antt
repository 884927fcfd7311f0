use Rattle.std.proofs.Common.{ℕ, ◌+◌, ◌*◌, ◌<◌, Ok}
use Rattle.bx_layout.specs.Areas.{IsArea, SpellsArea}
use Rattle.bx_volume.specs.bx_truth.specs.Chunks.{IsAreaBlock, own_block}
use Rattle.bx_volume.specs.bx_views.specs.Truths.{Truth}
use Rattle.bx_homes.specs.Slots.{AreBlocks, HasBlock, StaysSo, HasHeader}
use Rattle.bx_homes.specs.Reading.{ReadsBlocks}
use Rattle.bx_homes.proofs.slots.fault_in.Given as goal

abbrev pub invariant-loop-slot : goal.invariant-loop-slot
invariant-loop-slot g l = record {
  blocks : ReadsBlocks {A = Unit {0}} g.B.Blocks l.fn.blocks l.blocks (Ok tt);
  stays : g.B.Blocks.tells l.fn.blocks → StaysSo (g.B.Blocks.stands l.fn.blocks) (g.B.Blocks.stands l.blocks);
  is : IsArea l.slots;
  own : g.B.Blocks.tells l.fn.blocks → (truth : Truth) → AreBlocks (g.B.Blocks.areas l.fn.blocks) (g.B.Blocks.stands l.fn.blocks) truth → IsAreaBlock l.area (truth (own_block l.area));
  spells : g.B.Blocks.tells l.fn.blocks → (truth : Truth) → AreBlocks (g.B.Blocks.areas l.fn.blocks) (g.B.Blocks.stands l.fn.blocks) truth → SpellsArea l.slots (truth (own_block l.area)).payload;
  own_there : g.B.Blocks.tells l.fn.blocks → HasBlock (g.B.Blocks.stands l.fn.blocks) (own_block l.area);
  there : g.B.Blocks.tells l.fn.blocks → (slot : ℕ) → slot < l.slot → HasBlock (g.B.Blocks.stands l.fn.blocks) (1024 * l.area + slot);
  done : g.B.Blocks.tells l.fn.blocks → (truth : Truth) → AreBlocks (g.B.Blocks.areas l.fn.blocks) (g.B.Blocks.stands l.fn.blocks) truth → (slot : ℕ) → slot < l.slot → HasHeader truth (1024 * l.area + slot);
}
