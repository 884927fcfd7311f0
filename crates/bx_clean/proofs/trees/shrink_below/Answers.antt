use Rattle.std.proofs.Common.{ap, arith, length, sym, ◌∙◌}
use Rattle.bx_clean.specs.Trees.{absorbs, cuts_child, lowers}
use Rattle.bx_clean.proofs.Firsts.{none_there}
use Rattle.bx_clean.proofs.trees.shrink_below.Goals.{else-level-eq0-via-then-level-eq0+else-len-gt0, else-level-eq0-via-else-level-eq0}
use Rattle.bx_clean.proofs.trees.shrink_below.Goals as goal

pub returns-then-right-eq0 : goal.returns-then-right-eq0
returns-then-right-eq0 g c = lowers (sym c.right.ensures ∙ c.if-right-eq0.true) c.put_and_free.ensures

pub returns-then-len-gt0 : goal.returns-then-len-gt0
returns-then-len-gt0 g c =
    cuts_child (λ e. let r = c.right.ensures in let f = c.if-right-eq0.false in absurd (omega (arith, e, r, f))) (sym c.level.ensures ∙ c.if-level-eq0.true)
    (λ e. let n = c.len.ensures in let f = c.if-len-gt0.true in let m = ap length e in absurd (omega (arith, n, f, m))) c.cut.ensures

pub returns : goal.returns
returns g c =
    absorbs (λ e. let r = c.right.ensures in let f = c.if-right-eq0.false in absurd (omega (arith, e, r, f)))
    (λ leaf. elim c.else-level-eq0.branch [
      | else-level-eq0-via-then-level-eq0+else-len-gt0 w ↦ none_there c.args.below.entries (let n = w.len.ensures in let f = w.if-len-gt0.false in omega (arith, n, f))
      | else-level-eq0-via-else-level-eq0 w ↦ (let l = c.level.ensures in let f = w.if-level-eq0.false in absurd (omega (arith, leaf, l, f)))
    ]) c.absorb.ensures
