use Rattle.std.proofs.Common.{◌≡◌, ℕ, ◌+◌, ◌<◌, arith, Err, length, get_or, refl, sym, ap, subst, ◌∙◌, List, [], ◌∷◌, ◌++◌, None}
use Rattle.std.specs.Prelude.{Contains}
use Rattle.std.proofs.lemmas.Result.{err_from_is_err_and}
use Rattle.bx_audit_owners.specs.Found.{AreOrdered}
use Rattle.bx_audit_owners.specs.Holding.{Holdings, holdings_of}
use Rattle.bx_audit_owners.specs.Walks.{IsFileAt}
use Rattle.bx_audit_owners.proofs.Holding.{none_held, one_there}
use Rattle.bx_audit_owners.proofs.InOrder.{none_ordered}
use Rattle.bx_audit_owners.proofs.Walking.{IsUnderWay, all_walked, at_place, done_more, goes_on, for_one, longer, nothing_yet, place_done, still_there}
use Rattle.bx_audit_pages.proofs.Ends.{if_torn}
use Rattle.bx_model.specs.Opening.{root_handle}
use Rattle.bx_tree_files.specs.declared.file.File.{File}
use Rattle.bx_audit_owners.proofs.walks.found_from_root.Goals as goal

pub loop-at-init : goal.loop-at-init
loop-at-init g c =
    let one : c.push.new.self.items ≡ root_handle ∷ [] = c.in_ok-push.ensures.items ∙ ap (λ (l : List ℕ). l ++ root_handle ∷ []) c.new-met.ensures.items in
    record {
      blocks = grind arith;
      shows = λ chunks shows. shows;
      under = λ chunks shows. subst (λ (l : List ℕ). IsUnderWay chunks (holdings_of c.new.result) c.new-2.result l) (sym one)
          (subst (λ (h : Holdings). IsUnderWay chunks h c.new-2.result (root_handle ∷ [])) (sym (none_held c.new.result c.new.ensures.empty))
          (subst (λ (l : List File). IsUnderWay chunks (λ at. None) l (root_handle ∷ [])) (sym c.new-2.ensures) (nothing_yet chunks)));
      within = omega arith;
      root = subst (λ (l : List ℕ). Contains l root_handle) (sym one) (0, omega arith, refl);
      done = λ k less. absurd (omega (arith, less));
      ordered = subst (λ (l : List File). AreOrdered l c.new-3.result) (sym c.new-2.ensures) (subst (λ (h : List ℕ). AreOrdered [] h) (sym c.new-3.ensures) none_ordered);
    }

pub returns-then-at-len-clause-ok : goal.returns-then-at-len-clause-ok
returns-then-at-len-clause-ok g c = λ chunks shows.
    all_walked chunks (holdings_of c.loop-at.found.holders) c.loop-at.found.files c.loop-at.met.items (c.loop-at.invariant.under chunks shows) c.loop-at.invariant.root
    (place_done (holdings_of c.loop-at.found.holders) c.loop-at.met.items (λ k less. c.loop-at.invariant.done k (omega (arith, less, c.if-at-len.true))))

pub returns-in_err-meet-clause-torn : goal.returns-in_err-meet-clause-torn
returns-in_err-meet-clause-torn g c = λ chunks shows.
    let p = err_from_is_err_and c.from_residual-in_err-meet.result c.from_residual-in_err-meet.ensures.1 in
    let under = c.loop-at.invariant.under chunks shows in
    let less : c.loop-at.at < length c.loop-at.met.items = omega (arith, c.if-at-len.false) in
    let here : get_or c.loop-at.met.items c.loop-at.at 0 ≡ c.index-handle.result.now = sym (c.index-handle.ensures ∙ one_there c.loop-at.met.items c.loop-at.at _ 0 less) in
    if_torn _ _ c.in_err-meet.field-0.0 c.from_residual-in_err-meet.result (p.1 ∙ ap Err p.2) (λ at found wanted wrong. wrong)
    (c.in_err-meet.ensures.torn chunks (c.loop-at.invariant.shows chunks shows) under.found (under.all_met c.index-handle.result.now (subst (Contains c.loop-at.met.items) here (at_place c.loop-at.met.items c.loop-at.at less))))

pub returns-in_err-meet-clause-shows : goal.returns-in_err-meet-clause-shows
returns-in_err-meet-clause-shows g c = λ chunks shows. c.in_err-meet.ensures.shows chunks (c.loop-at.invariant.shows chunks shows)

pub loop-at-preserved : goal.loop-at-preserved
loop-at-preserved g c =
    let met = c.loop-at.met.items in
    let at = c.loop-at.at in
    let less : at < length met = omega (arith, c.if-at-len.false) in
    let handle = c.index-handle.result.now in
    let here : get_or met at 0 ≡ handle = sym (c.index-handle.ensures ∙ one_there met at _ 0 less) in
    let before = holdings_of c.loop-at.found.holders in
    let now = holdings_of c.meet.new.found.holders in
    let step = c.in_ok-meet.ensures.step in
    record {
      blocks = grind arith;
      shows = λ chunks shows. c.in_ok-meet.ensures.shows chunks (c.loop-at.invariant.shows chunks shows);
      under = λ chunks shows.
          let still = c.loop-at.invariant.shows chunks shows in
          let under = c.loop-at.invariant.under chunks shows in
          goes_on chunks before c.loop-at.found.files met handle now c.meet.new.found.files c.meet.new.met.items under (under.all_met handle (subst (Contains met) here (at_place met at less)))
          (c.in_ok-meet.ensures.ok chunks still under.found)
          (for_one _ (IsFileAt chunks handle) before c.loop-at.found.files met handle now c.meet.new.found.files c.meet.new.met.items (λ file is. is chunks still) step);
      within = longer _ before c.loop-at.found.files met handle now c.meet.new.found.files c.meet.new.met.items step (at + 1) (omega (arith, less));
      root = still_there _ before c.loop-at.found.files met handle now c.meet.new.found.files c.meet.new.met.items step root_handle c.loop-at.invariant.root;
      done = done_more _ before c.loop-at.found.files met handle now c.meet.new.found.files c.meet.new.met.items step at less here c.loop-at.invariant.done;
      ordered = c.in_ok-meet.ensures.ordered c.loop-at.invariant.ordered;
    }
