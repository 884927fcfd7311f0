use Rattle.std.proofs.Common.{Bool, true, cond, ap, ◌∙◌}
use Rattle.bx_tree_parts.specs.Fileids.{has_pair}
use Rattle.bx_tree_parts.proofs.Paired.{same_pair}
use Rattle.bx_tree_parts.proofs.fileids.Fileids.put.Goals as goal

pub returns-clause-ok : goal.returns-clause-ok
returns-clause-ok c = λ other at.
    c.in_ok-insert.ensures.updates.0 (other, at)
    ∙ ap (λ (same : Bool). cond same true (has_pair c.args.self.now other at)) (same_pair c.args.fileid c.args.handle other at)
