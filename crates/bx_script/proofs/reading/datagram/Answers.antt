use Rattle.std.proofs.Common.{rules}
use Rattle.bx_script.specs.Reading.{datagram_of}
use Rattle.bx_script.proofs.reading.datagram.Goals as goal

pub returns-in-Ok : goal.returns-in-Ok
unfolding datagram_of
returns-in-Ok c = search rules
