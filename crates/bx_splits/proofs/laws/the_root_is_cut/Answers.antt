use Rattle.bx_splits.proofs.RaiseLaw.{law_root}
use Rattle.bx_splits.proofs.laws.the_root_is_cut.Goals as goal

pub returns : goal.returns
returns c = law_root
