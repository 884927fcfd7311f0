use Rattle.bx_mirror_packets.proofs.Spelled.{one_message}
use Rattle.bx_mirror_packets.proofs.laws.one_message.Goals as goal

pub returns : goal.returns
returns c = one_message
