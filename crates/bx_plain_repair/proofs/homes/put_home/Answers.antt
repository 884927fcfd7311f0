use Rattle.std.proofs.Common.{◌+◌, [], ◌∷◌, ◌++◌, ap, sym, subst, ◌∙◌}
use Rattle.bx_records.specs.declared.runs.Run.{Run}
use Rattle.bx_plain_repair.specs.HomesOf.{AreHomesBelow}
use Rattle.bx_plain_repair.proofs.HomesOf.{none_more, one_more}
use Rattle.bx_plain_repair.proofs.homes.put_home.Goals as goal

pub returns-clause-more : goal.returns-clause-more
returns-clause-more c = λ are same.
    let pushed = c.in_ok-push.ensures.ok ∙ ap (λ (r : Run). c.args.runs.now ++ r ∷ []) c.in_ok-home_of.ensures in
    subst (AreHomesBelow c.args.newest.now (c.args.at + 1)) (sym pushed)
    (one_more c.args.newest.now c.args.at c.in-Some.block.now c.args.runs.now (sym c.in-Some.ensures.value) (c.has_parts.ensures.0 c.if-not-has_parts.false) are)

pub returns-in_default-clause-more : goal.returns-in_default-clause-more
returns-in_default-clause-more c = λ are same. none_more c.args.newest.now c.args.at c.args.runs.now (sym c.in_default.ensures.value) are
