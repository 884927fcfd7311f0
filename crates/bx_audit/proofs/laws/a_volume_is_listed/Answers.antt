use Rattle.bx_audit.proofs.Volumes.{stands}
use Rattle.bx_audit.proofs.laws.a_volume_is_listed.Goals as goal

pub returns : goal.returns
returns c = stands
