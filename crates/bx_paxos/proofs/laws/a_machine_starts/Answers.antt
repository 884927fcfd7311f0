use Rattle.bx_paxos.proofs.Starts.{restarted}
use Rattle.bx_paxos.proofs.laws.a_machine_starts.Goals as goal

pub returns : goal.returns
returns c = restarted
