use Rattle.bx_nfs.proofs.Reading.{reads_once}
use Rattle.bx_nfs.proofs.laws.one_reading.Goals as goal

pub returns : goal.returns
returns c = reads_once
