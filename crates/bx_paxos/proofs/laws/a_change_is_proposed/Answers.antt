use Rattle.bx_paxos.proofs.Starts.{proposed}
use Rattle.bx_paxos.proofs.laws.a_change_is_proposed.Goals as goal

pub returns : goal.returns
returns c = proposed
