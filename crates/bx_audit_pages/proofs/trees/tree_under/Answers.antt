use Rattle.std.proofs.Common.{◌≡◌, ℕ, suc, ◌+◌, ◌-◌, List, [], ◌∷◌, reverse, Err, sym, ap, subst, ◌∙◌, arith}
use Rattle.std.proofs.lemmas.Result.{err_from_is_err_and}
use Rattle.std.proofs.lemmas.List.{reverse-append}
use Rattle.bx_truth.specs.PageTrees.{Node, IsLevel}
use Rattle.bx_audit_pages.specs.Leading.{AreLedTo, IsLedTo, Itself}
use Rattle.bx_audit_pages.specs.Trees.{LiesBelow}
use Rattle.bx_audit_pages.proofs.Ends.{if_torn}
use Rattle.bx_audit_pages.proofs.Descents.{Stack, lowest_level, lies_below, one_top, tree_is}
use Rattle.bx_audit_pages.proofs.Torn.{are_under}
use Rattle.bx_audit_pages.specs.Torn.{AreUnder}
use Rattle.bx_audit_pages.proofs.trees.tree_under.Goals as goal

pub returns-in_err-top-clause-torn : goal.returns-in_err-top-clause-torn
returns-in_err-top-clause-torn g c = λ chunks shows.
    let p = err_from_is_err_and c.from_residual.result c.from_residual.ensures.1 in
    if_torn _ _ c.in_err-top.field-0.0 c.from_residual.result (p.1 ∙ ap Err p.2) (λ at found wanted never. never) (c.in_err-top.ensures.torn chunks shows)

pub loop-level-init : goal.loop-level-init
loop-level-init g c = record {
  blocks = grind arith;
  shows = c.in_ok-top.ensures.shows;
  rise = c.in_ok-top.ensures.rise;
  led = λ chunks shows. c.in_ok-top.ensures.led chunks;
  read = λ chunks shows. subst (λ (l : List (List Node)). Stack chunks c.args.root c.in_ok-top.height (c.in_ok-top.top.items ∷ reverse l)) (sym c.new-levels.ensures.items) (c.in_ok-top.ensures.ok chunks shows);
  any = λ chunks shows tree is. one_top chunks c.args.root c.in_ok-top.height c.in_ok-top.top.items tree (c.in_ok-top.ensures.ok chunks shows) is;
}

pub returns-in_err-below-clause-torn : goal.returns-in_err-below-clause-torn
returns-in_err-below-clause-torn g c = λ chunks shows.
    let p = err_from_is_err_and c.from_residual-in_err-below.result c.from_residual-in_err-below.ensures.1 in
    let level = c.loop-level.level in
    let low = c.loop-level.lowest in
    let up : level ≡ level - 1 + 1 = omega (arith, c.loop-level-test.true) in
    let same : low ≡ c.deref.result.now = sym (c.deref.ensures.value ∙ c.lowest.view_is) in
    let above : IsLevel chunks (level - 1 + 1) c.deref.result.now =
    subst (λ (n : ℕ). IsLevel chunks n c.deref.result.now) up (subst (IsLevel chunks level) same (lowest_level chunks c.args.root level low (reverse c.loop-level.levels.items) (c.loop-level.invariant.read chunks shows))) in
    if_torn _ _ c.in_err-below.field-0.0 c.from_residual-in_err-below.result (p.1 ∙ ap Err p.2) (λ at found wanted never tree is.
    let a = c.loop-level.invariant.any chunks shows tree is in
    never (tree.level (level - 1)) (lies_below chunks c.args.root tree (level - 1) c.deref.result.now is (omega (arith, a.0, c.loop-level-test.true)) (ap tree.level (sym up) ∙ a.1 ∙ same)))
    (c.in_err-below.ensures.torn chunks (c.loop-level.invariant.shows chunks shows) above)

pub loop-level-preserved : goal.loop-level-preserved
loop-level-preserved g c =
    let level = c.loop-level.level in
    let low = c.loop-level.lowest in
    let old = c.loop-level.levels.items in
    let up : level ≡ level - 1 + 1 = omega (arith, c.loop-level-test.true) in
    let next : level ≡ suc (level - 1) = omega (arith, c.loop-level-test.true) in
    let same : low ≡ c.deref.result.now = sym (c.deref.ensures.value ∙ c.lowest.view_is) in
    let turned : low ∷ reverse old ≡ reverse c.push.new.self.items = sym (ap reverse c.in_ok-push.ensures.items ∙ reverse-append old (low ∷ [])) in
    record {
      blocks = grind arith;
      shows = λ chunks shows. c.in_ok-below.ensures.shows chunks (c.loop-level.invariant.shows chunks shows);
      rise = c.in_ok-below.ensures.rise;
      led = λ chunks shows.
          let stack = c.loop-level.invariant.read chunks shows in
          let above : IsLevel chunks (level - 1 + 1) c.deref.result.now =
          subst (λ (n : ℕ). IsLevel chunks n c.deref.result.now) up (subst (IsLevel chunks level) same (lowest_level chunks c.args.root level low (reverse old) stack)) in
          c.in_ok-below.ensures.led chunks c.args.root (c.loop-level.invariant.shows chunks shows) above (subst (AreLedTo chunks c.args.root) same (c.loop-level.invariant.led chunks shows));
      read = λ chunks shows.
          let stack = c.loop-level.invariant.read chunks shows in
          let above : IsLevel chunks (level - 1 + 1) c.deref.result.now =
          subst (λ (n : ℕ). IsLevel chunks n c.deref.result.now) up (subst (IsLevel chunks level) same (lowest_level chunks c.args.root level low (reverse old) stack)) in
          let lies : LiesBelow chunks (level - 1) low c.in_ok-below.below.items =
          subst (λ (l : List Node). LiesBelow chunks (level - 1) l c.in_ok-below.below.items) (sym same) (c.in_ok-below.ensures.ok chunks (c.loop-level.invariant.shows chunks shows) above) in
          let both : Stack chunks c.args.root (level - 1) (c.in_ok-below.below.items ∷ low ∷ reverse old) = (lies, subst (λ (n : ℕ). Stack chunks c.args.root n (low ∷ reverse old)) next stack) in
          subst (λ (l : List (List Node)). Stack chunks c.args.root (level - 1) (c.in_ok-below.below.items ∷ l)) turned both;
      any = λ chunks shows tree is.
          let stack = c.loop-level.invariant.read chunks shows in
          let above : IsLevel chunks (level - 1 + 1) c.deref.result.now =
          subst (λ (n : ℕ). IsLevel chunks n c.deref.result.now) up (subst (IsLevel chunks level) same (lowest_level chunks c.args.root level low (reverse old) stack)) in
          let a = c.loop-level.invariant.any chunks shows tree is in (
            omega (arith, a.0),
            c.in_ok-below.ensures.one chunks (c.loop-level.invariant.shows chunks shows) above (tree.level (level - 1))
                (lies_below chunks c.args.root tree (level - 1) c.deref.result.now is (omega (arith, a.0, c.loop-level-test.true)) (ap tree.level (sym up) ∙ a.1 ∙ same)),
          );
    }

pub returns-clause-ok : goal.returns-clause-ok
returns-clause-ok g c = λ chunks shows.
    let low = c.loop-level.lowest in
    let old = c.loop-level.levels.items in
    let ground_level : c.loop-level.level ≡ 0 = omega (arith, c.loop-level-test.false) in
    tree_is chunks c.args.root (low ∷ reverse old) (subst (λ (n : ℕ). Stack chunks c.args.root n (low ∷ reverse old)) ground_level (c.loop-level.invariant.read chunks shows))

pub returns-in_err-top-clause-leads : goal.returns-in_err-top-clause-leads
returns-in_err-top-clause-leads g c = λ chunks shows.
    let p = err_from_is_err_and c.from_residual.result c.from_residual.ensures.1 in
    if_torn _ _ c.in_err-top.field-0.0 c.from_residual.result (p.1 ∙ ap Err p.2) (λ at found wanted is. subst (IsLedTo chunks c.args.root) (sym is) Itself) c.in_err-top.ensures.names

pub returns-in_err-below-clause-leads : goal.returns-in_err-below-clause-leads
returns-in_err-below-clause-leads g c = λ chunks shows.
    let p = err_from_is_err_and c.from_residual-in_err-below.result c.from_residual-in_err-below.ensures.1 in
    let level = c.loop-level.level in
    let low = c.loop-level.lowest in
    let up : level ≡ level - 1 + 1 = omega (arith, c.loop-level-test.true) in
    let same : low ≡ c.deref.result.now = sym (c.deref.ensures.value ∙ c.lowest.view_is) in
    let above : IsLevel chunks (level - 1 + 1) c.deref.result.now =
    subst (λ (n : ℕ). IsLevel chunks n c.deref.result.now) up (subst (IsLevel chunks level) same (lowest_level chunks c.args.root level low (reverse c.loop-level.levels.items) (c.loop-level.invariant.read chunks shows))) in
    if_torn _ _ c.in_err-below.field-0.0 c.from_residual-in_err-below.result (p.1 ∙ ap Err p.2) (λ at found wanted leads. leads)
    (c.in_err-below.ensures.leads chunks c.args.root (c.loop-level.invariant.shows chunks shows) above (subst (AreLedTo chunks c.args.root) same (c.loop-level.invariant.led chunks shows)))

pub returns-clause-led : goal.returns-clause-led
returns-clause-led g c = λ chunks shows. c.loop-level.invariant.led chunks shows

pub returns-in_err-below-clause-shows : goal.returns-in_err-below-clause-shows
returns-in_err-below-clause-shows g c = λ chunks shows. c.in_err-below.ensures.shows chunks (c.loop-level.invariant.shows chunks shows)

pub returns-in_err-push-clause-shows : goal.returns-in_err-push-clause-shows
returns-in_err-push-clause-shows g c = λ chunks shows. c.in_ok-below.ensures.shows chunks (c.loop-level.invariant.shows chunks shows)

pub returns-in_err-top-clause-wrong : goal.returns-in_err-top-clause-wrong
returns-in_err-top-clause-wrong g c = λ chunks shows.
    let p = err_from_is_err_and c.from_residual.result c.from_residual.ensures.1 in
    if_torn _ _ c.in_err-top.field-0.0 c.from_residual.result (p.1 ∙ ap Err p.2) (λ at found wanted torn. torn) (c.in_err-top.ensures.wrong chunks shows)

pub returns-in_err-below-clause-wrong : goal.returns-in_err-below-clause-wrong
returns-in_err-below-clause-wrong g c = λ chunks shows.
    let p = err_from_is_err_and c.from_residual-in_err-below.result c.from_residual-in_err-below.ensures.1 in
    let level = c.loop-level.level in
    let low = c.loop-level.lowest in
    let up : level ≡ level - 1 + 1 = omega (arith, c.loop-level-test.true) in
    let same : low ≡ c.deref.result.now = sym (c.deref.ensures.value ∙ c.lowest.view_is) in
    let under : AreUnder chunks c.args.root (level - 1 + 1) c.deref.result.now =
    subst (λ (n : ℕ). AreUnder chunks c.args.root n c.deref.result.now) up
    (subst (AreUnder chunks c.args.root level) same (are_under chunks c.args.root level low (reverse c.loop-level.levels.items) (c.loop-level.invariant.read chunks shows))) in
    if_torn _ _ c.in_err-below.field-0.0 c.from_residual-in_err-below.result (p.1 ∙ ap Err p.2) (λ at found wanted torn. torn)
    (c.in_err-below.ensures.wrong chunks c.args.root (c.loop-level.invariant.shows chunks shows) under)
