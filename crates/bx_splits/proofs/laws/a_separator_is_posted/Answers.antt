use Rattle.bx_splits.proofs.Posted.{posted}
use Rattle.bx_splits.proofs.laws.a_separator_is_posted.Goals as goal

pub returns : goal.returns
returns c = λ areas held hints truth old new root tree level node high handle page u lt i high_is p puts. posted areas held hints truth old new root tree u level lt node i high high_is handle page p puts
