use Rattle.std.proofs.Common.{◌≡◌}
use Rattle.bx_tests_images.proofs.blocks.tell_blocks.Given as goal

abbrev pub invariant-loop-number : goal.invariant-loop-number
invariant-loop-number g l = record {
  ready : g.B.Blocks.ready l.blocks;
  areas : g.B.Blocks.areas l.blocks ≡ l.areas;
}
