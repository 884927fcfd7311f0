use Rattle.bx_paxos.proofs.Starts.{begun}
use Rattle.bx_paxos.proofs.laws.the_beginning_fits.Goals as goal

pub returns : goal.returns
returns c = begun
