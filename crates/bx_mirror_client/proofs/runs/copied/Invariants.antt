use Rattle.std.proofs.Common.{◌≡◌, take}
use Rattle.bx_mirror_client.proofs.runs.copied.Given as goal

abbrev pub invariant-loop-i : goal.invariant-loop-i
invariant-loop-i l = l.copy ≡ (l.runs.0, take l.i l.runs.1)
