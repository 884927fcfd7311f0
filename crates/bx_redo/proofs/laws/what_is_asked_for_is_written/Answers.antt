use Rattle.bx_redo.proofs.Asked.{one_asked, as_many}
use Rattle.bx_redo.proofs.laws.what_is_asked_for_is_written.Goals as goal

pub returns-clause-run : goal.returns-clause-run
returns-clause-run c = one_asked

pub returns-clause-sectors : goal.returns-clause-sectors
returns-clause-sectors c = as_many
