use Rattle.std.proofs.Common.{take}
use Rattle.bx_page.specs.Contents.{Rises}
use Rattle.bx_page.proofs.checks.rise.Given as goal

abbrev pub invariant-loop-i : goal.invariant-loop-i
invariant-loop-i l = Rises (take l.i l.entries)
