use Rattle.std.proofs.Common.{refl}
use Rattle.bx_paxos_found.proofs.Threes.{made_origins}
use Rattle.bx_paxos_found.proofs.origins.Origins.made.Goals as goal

pub returns : goal.returns
returns c = made_origins _ refl refl refl
