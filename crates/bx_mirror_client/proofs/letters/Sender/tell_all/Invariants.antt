use Rattle.std.proofs.Common.{◌≡◌, ◌++◌, drop}
use Rattle.bx_mirror_client.specs.Letters.{letters_from}
use Rattle.bx_mirror_client.proofs.letters.Sender.tell_all.Given as goal

abbrev pub invariant-loop-device : goal.invariant-loop-device
invariant-loop-device l = l.out ++ letters_from l.before l.self.node l.sending l.device (drop l.device l.rows) ≡ l.initial.out ++ letters_from l.before l.self.node l.sending 0 l.rows
