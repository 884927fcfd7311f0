use Rattle.std.proofs.Common.{Err, ap, sym, subst, ◌∙◌}
use Rattle.std.proofs.lemmas.Result.{err_from_is_err_and}
use Rattle.bx_audit_owners.specs.Holding.{holdings_of}
use Rattle.bx_audit_owners.proofs.KeysLeft.{AreLeft, all_left, first_torn, none_left, one_done}
use Rattle.bx_audit_pages.proofs.Ends.{if_torn}
use Rattle.bx_audit_owners.proofs.words.check_held.Goals as goal

pub loop-handle-init : goal.loop-handle-init
loop-handle-init c = record {
  left = subst (AreLeft c.args.owns.now (holdings_of c.args.holders.now)) (sym (c.into_iter-handle-iterator.ensures.into_iter_gives ∙ c.keys-handle-items.ensures.rest))
      (all_left c.args.owns.now c.args.holders.now c.keys-handle-items.ensures.ordered);
}

pub loop-handle-preserved : goal.loop-handle-preserved
loop-handle-preserved c = record {
  left = one_done c.args.owns.now (holdings_of c.args.holders.now) c.in-Some.handle.now c.next.new.self
      (subst (AreLeft c.args.owns.now (holdings_of c.args.holders.now)) c.in-Some.ensures.steps c.loop-handle.invariant.left) c.in_ok-check_one.ensures.ok;
}

pub returns-in_err-check_one-clause-torn : goal.returns-in_err-check_one-clause-torn
returns-in_err-check_one-clause-torn c =
    let p = err_from_is_err_and c.from_residual.result c.from_residual.ensures.1 in
    if_torn _ _ c.in_err-check_one.field-0.0 c.from_residual.result (p.1 ∙ ap Err p.2)
    (first_torn c.args.owns.now (holdings_of c.args.holders.now) c.in-Some.handle.now c.next.new.self
    (subst (AreLeft c.args.owns.now (holdings_of c.args.holders.now)) c.in-Some.ensures.steps c.loop-handle.invariant.left))
    c.in_err-check_one.ensures.torn

pub returns-clause-ok : goal.returns-clause-ok
returns-clause-ok c =
    none_left c.args.owns.now (holdings_of c.args.holders.now) (subst (AreLeft c.args.owns.now (holdings_of c.args.holders.now)) c.in-None.ensures.steps.0 c.loop-handle.invariant.left)
