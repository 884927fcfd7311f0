use Rattle.std.proofs.Common.{◌≡◌, true, false, sym, ◌∙◌, arith, ap, ℕ, List, ◌++◌, ◌∷◌, []}
use Rattle.bx_audit_links.proofs.Emptied.{none_has}
use Rattle.bx_audit_links.proofs.Found.{none_found}
use Rattle.bx_audit_links.proofs.Lost.{first_lost, least_of}
use Rattle.bx_audit_links.proofs.Stand.{all_reached, reaches_all, same_default, stand_begins, stand_goes_on}
use Rattle.bx_audit_links.proofs.reached.lost_in.Goals as goal

pub loop-at-init : goal.loop-at-init
loop-at-init c = stand_begins c.args.files.now c.args.root _ _ (c.in_ok-push.ensures.items ∙ ap (λ (items : List ℕ). items ++ c.args.root ∷ []) c.new-reached.ensures.items) c.in_ok-unreached.ensures

pub loop-at-preserved : goal.loop-at-preserved
loop-at-preserved c = stand_goes_on _ _ _ _ c.loop-at.at c.index-directory.result.now _ _ c.loop-at.invariant (omega (arith, c.loop-at-test.true, c.len.ensures))
    (c.index-directory.ensures ∙ same_default c.loop-at.reached.items c.loop-at.at _ 0 (omega (arith, c.loop-at-test.true, c.len.ensures))) c.in_ok-reach_from.ensures.reaches

pub returns-in-None-clause-none : goal.returns-in-None-clause-none
returns-in-None-clause-none c = all_reached _ _ _ _ _ c.loop-at.invariant (none_found _ c.first.result c.in-None.is c.first.ensures.variant.1)

pub returns-clause-some : goal.returns-clause-some
returns-clause-some c = λ tree files_are root_is was.
    let none = reaches_all _ _ _ _ _ c.loop-at.invariant (omega (arith, c.loop-at-test.false, c.len.ensures)) tree files_are root_is was in
    let both : true ≡ false = sym c.in-Some.ensures.member ∙ none_has c.loop-at.unreached none c.in-Some.handle.now in absurd cc

pub returns-clause-is : goal.returns-clause-is
returns-clause-is c = first_lost _ _ _ _ _ c.loop-at.invariant (omega (arith, c.loop-at-test.false, c.len.ensures)) c.requires.are c.in-Some.handle.now c.in-Some.ensures.member (least_of c.loop-at.unreached c.in-Some.handle.now c.in-Some.ensures.all_from)
