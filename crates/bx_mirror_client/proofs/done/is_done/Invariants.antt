use Rattle.std.proofs.Common.{◌≡◌, drop}
use Rattle.bx_mirror_client.specs.Sends.{is_done, is_done_from}
use Rattle.bx_mirror_client.proofs.done.is_done.Given as goal

abbrev pub invariant-loop-device : goal.invariant-loop-device
invariant-loop-device l = is_done_from l.sending.acks l.sending.runs.1 l.device (drop l.device l.rows) ≡ is_done l.sending l.rows
