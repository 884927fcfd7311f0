use Rattle.bx_mirror_client.proofs.Leaving.{leaves}
use Rattle.bx_mirror_client.proofs.laws.an_event_leaves.Goals as goal

pub returns : goal.returns
returns c = λ d new known input before after does. leaves d known input new before after does
