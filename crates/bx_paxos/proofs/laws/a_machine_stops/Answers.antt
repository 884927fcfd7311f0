use Rattle.bx_paxos.proofs.Starts.{crashed}
use Rattle.bx_paxos.proofs.laws.a_machine_stops.Goals as goal

pub returns : goal.returns
returns c = crashed
