use Rattle.bx_base.proofs.Written.{written_is}
use Rattle.bx_base.proofs.field_laws.writes_are_whole.Goals as goal

pub returns : goal.returns
returns c = λ old new bytes at end written. written_is old new bytes at end written
