use Rattle.std.proofs.Common.{◌≡◌, ◌++◌, take}
use Rattle.bx_master.specs.Events.{revokes_again}
use Rattle.bx_master.proofs.master.Master.revoke_again.Given as goal

abbrev pub invariant-loop-want : goal.invariant-loop-want
invariant-loop-want l = l.words.items ≡ l.initial.words.items ++ revokes_again l.known l.self.accounts (take l.want-index l.wants)
