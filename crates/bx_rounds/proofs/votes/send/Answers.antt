use Rattle.std.proofs.Common.{refl}
use Rattle.bx_rounds.proofs.votes.send.Goals as goal

pub returns : goal.returns
returns c = λ n. ((rw c.in-Some.is (c.in_ok-state.ensures c.in-Some.first.replica n), refl), refl)
