use Rattle.std.proofs.Common.{◌≡◌, ℕ, ◌+◌, ◌-◌, List, [], ◌∷◌, ◌++◌, take, get_or, sym, ap, subst, ◌∙◌, arith}
use Rattle.std.proofs.lemmas.List.{take_more, get_or_read}
use Rattle.bx_tree_files.specs.declared.file.Name.{Name}
use Rattle.bx_tree_files.specs.Entries.{AreBelow}
use Rattle.bx_audit_files.specs.Lists.{AreListed, CanFollow}
use Rattle.bx_audit_files.proofs.Followers.{all_below, below_push, follows, one_listed}
use Rattle.bx_audit_files.proofs.lists.list_of.Goals as goal

pub returns-then-not-branch-clause-none : goal.returns-then-not-branch-clause-none
returns-then-not-branch-clause-none c = λ listed.
    let name = c.name-item.result in
    c.in_ok-put_name.ensures.no c.if-not-branch.true
    (subst (λ (l : List Name). CanFollow l c.loop-name.least c.args.next name) (sym c.loop-name.invariant.list)
    (follows c.args.names.now c.loop-name.name-index c.loop-name.least c.args.next name c.loop-name-test.true c.name-item.is c.loop-name.invariant.last c.loop-name.invariant.first listed))

back : (k : ℕ) → k + 1 - 1 ≡ k
back k = omega arith

pub loop-name-preserved : goal.loop-name-preserved
loop-name-preserved c =
    let names = c.args.names.now in
    let k = c.loop-name.name-index in
    let name = c.name-item.result in
    let put = c.in_ok-put_name.ensures.yes c.if-not-branch.false in
    let above = c.in_ok-put_name.ensures.least c.if-not-branch.false in
    let under = c.in_ok-put_name.ensures.next c.if-not-branch.false in
    record {
      list = put ∙ ap (λ (l : List Name). l ++ name ∷ []) c.loop-name.invariant.list ∙ (λ i. take k names ++ c.name-item.is i ∷ []) ∙ sym (take_more names k name c.loop-name-test.true);
      least = subst (AreBelow (name.number + 1)) (sym put)
          (below_push (name.number + 1) c.loop-name.list name (all_below c.loop-name.least (name.number + 1) c.loop-name.list (omega (arith, above)) c.loop-name.invariant.least) (omega arith));
      below = subst (AreBelow c.args.next) (sym put) (below_push c.args.next c.loop-name.list name c.loop-name.invariant.below under);
      listed = subst (AreListed c.args.next) (sym put)
          (one_listed c.loop-name.least c.args.next c.loop-name.list name c.loop-name.invariant.listed c.loop-name.invariant.least above under (c.in_ok-put_name.ensures.apart c.if-not-branch.false));
      last = λ d some.
          let same : name.number ≡ (get_or names (k + 1 - 1) d).number =
          ap (λ (n : Name). n.number) (get_or_read names k name c.loop-name-test.true c.name-item.is d) ∙ ap (λ (n : ℕ). (get_or names n d).number) (sym (back k)) in
          omega (arith, same);
      first = λ none. absurd (omega (arith, none));
    }
