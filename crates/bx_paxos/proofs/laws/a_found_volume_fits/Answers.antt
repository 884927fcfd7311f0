use Rattle.bx_paxos.proofs.Starts.{found_begun}
use Rattle.bx_paxos.proofs.laws.a_found_volume_fits.Goals as goal

pub returns : goal.returns
returns c = found_begun
