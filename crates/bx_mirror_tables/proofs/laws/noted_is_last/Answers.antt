use Rattle.bx_mirror_tables.proofs.Noting.{noted_last}
use Rattle.bx_mirror_tables.proofs.laws.noted_is_last.Goals as goal

pub returns : goal.returns
returns c = noted_last
