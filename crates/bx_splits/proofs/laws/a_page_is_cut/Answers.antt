use Rattle.bx_splits.proofs.CutLaw.{law_cut}
use Rattle.bx_splits.proofs.laws.a_page_is_cut.Goals as goal

pub returns : goal.returns
returns c = law_cut
