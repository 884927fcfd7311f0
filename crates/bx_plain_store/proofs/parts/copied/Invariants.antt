use Rattle.std.proofs.Common.{◌≡◌, take}
use Rattle.bx_plain_store.proofs.parts.copied.Given as goal

abbrev pub invariant-loop-i : goal.invariant-loop-i
invariant-loop-i l = l.copy ≡ take l.i l.runs.1
