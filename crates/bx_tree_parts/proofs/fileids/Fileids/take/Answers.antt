use Rattle.std.proofs.Common.{Bool, false, cond, ap, ◌∙◌}
use Rattle.bx_tree_parts.specs.Fileids.{has_pair}
use Rattle.bx_tree_parts.proofs.Paired.{same_pair}
use Rattle.bx_tree_parts.proofs.fileids.Fileids.take.Goals as goal

pub returns : goal.returns
returns c = λ other at.
    c.remove.ensures.updates.0 (other, at)
    ∙ ap (λ (same : Bool). cond same false (has_pair c.args.self.now other at)) (same_pair c.args.fileid c.args.handle other at)
