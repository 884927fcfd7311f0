use Rattle.bx_paxos.proofs.Starts.{told}
use Rattle.bx_paxos.proofs.laws.a_machine_is_told.Goals as goal

pub returns : goal.returns
returns c = told
