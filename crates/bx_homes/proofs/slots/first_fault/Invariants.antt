use Rattle.std.proofs.Common.{ℕ, ◌<◌, Ok}
use Rattle.bx_volume.specs.bx_views.specs.Truths.{Truth}
use Rattle.bx_homes.specs.Slots.{AreBlocks, HasArea, StaysSo, IsAreaChunked}
use Rattle.bx_homes.specs.Reading.{ReadsBlocks}
use Rattle.bx_homes.proofs.slots.first_fault.Given as goal

abbrev pub invariant-loop-area : goal.invariant-loop-area
invariant-loop-area g l = record {
  blocks : ReadsBlocks {A = Unit {0}} g.B.Blocks l.fn.blocks l.blocks (Ok tt);
  stays : g.B.Blocks.tells l.fn.blocks → StaysSo (g.B.Blocks.stands l.fn.blocks) (g.B.Blocks.stands l.blocks);
  there : g.B.Blocks.tells l.fn.blocks → (other : ℕ) → other < l.area → HasArea (g.B.Blocks.stands l.fn.blocks) other;
  done : g.B.Blocks.tells l.fn.blocks → (truth : Truth) → AreBlocks l.areas (g.B.Blocks.stands l.fn.blocks) truth → (other : ℕ) → other < l.area → IsAreaChunked truth other;
}
