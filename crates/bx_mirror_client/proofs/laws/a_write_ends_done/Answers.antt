use Rattle.bx_mirror_client.proofs.Leaving.{ends}
use Rattle.bx_mirror_client.proofs.laws.a_write_ends_done.Goals as goal

pub returns : goal.returns
returns c = λ d new known input before after s does is none own. ends d known input new before after s does is none own
