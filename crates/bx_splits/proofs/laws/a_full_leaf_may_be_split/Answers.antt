use Rattle.bx_splits.proofs.Refused.{refused_full}
use Rattle.bx_splits.proofs.laws.a_full_leaf_may_be_split.Goals as goal

pub returns : goal.returns
returns c = refused_full
