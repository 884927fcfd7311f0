use Rattle.std.proofs.Common.{◌≡◌, false, take}
use Rattle.bx_mirror_client.specs.Sends.{has_runs}
use Rattle.bx_mirror_client.proofs.sending.has_runs.Given as goal

abbrev pub invariant-loop-i : goal.invariant-loop-i
invariant-loop-i l = has_runs l.device (take l.i l.runs.1) ≡ false
