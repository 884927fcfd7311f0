use Rattle.bx_mirror_client.proofs.Telling.{done_is}
use Rattle.bx_mirror_client.proofs.laws.done_is.Goals as goal

pub returns : goal.returns
returns c = done_is
