use Rattle.std.proofs.Common.{◌<◌, Err, None, arith, length, ap, subst, ◌∙◌}
use Rattle.std.specs.Prelude.{slice_index_or}
use Rattle.std.proofs.lemmas.Result.{err_from_is_err_and}
use Rattle.bx_audit_bodies.specs.declared.claims.Claim.{Claim}
use Rattle.bx_audit_owners.specs.declared.holders.Holder.{Holder}
use Rattle.bx_audit_owners.specs.Holding.{HasOther, Puts, holdings_of}
use Rattle.bx_audit_owners.proofs.Holding.{clash_wanted, one_added, one_there}
use Rattle.bx_audit_pages.proofs.Ends.{if_torn}
use Rattle.bx_audit_owners.proofs.holders.put_inode.Goals as goal

-- a claim, where none is there
no_claim : Claim
no_claim = record { handle = 0; piece = None }

pub returns-in_err-put-2-clause-torn : goal.returns-in_err-put-2-clause-torn
unfolding no_claim
returns-in_err-put-2-clause-torn c =
    let p = err_from_is_err_and c.from_residual-in_err-put-2.result c.from_residual-in_err-put-2.ensures.1 in
    let at = c.loop-claim.claim-index in
    let claims = c.args.claims.now in
    let last : Claim = slice_index_or claims at no_claim in
    let within : c.loop-claim.claim-index < length c.args.claims.now = omega arith in
    if_torn _ _ c.in_err-put-2.field-0.0 c.from_residual-in_err-put-2.result (p.1 ∙ ap Err p.2) (λ a f w has.
    clash_wanted (holdings_of c.args.holders.now) c.args.inode c.args.holder claims at last (holdings_of c.loop-claim.holders) w (one_there claims at last no_claim within) within
    c.loop-claim.invariant.adds (subst (HasOther (holdings_of c.loop-claim.holders) last.handle) c.claimer.ensures has.0, has.1)) c.in_err-put-2.ensures.torn

pub loop-claim-preserved : goal.loop-claim-preserved
unfolding no_claim
loop-claim-preserved c =
    let at = c.loop-claim.claim-index in
    let claims = c.args.claims.now in
    let last : Claim = slice_index_or claims at no_claim in
    let within : c.loop-claim.claim-index < length c.args.claims.now = omega arith in
    record {
      adds = one_added (holdings_of c.args.holders.now) c.args.inode c.args.holder claims at last (holdings_of c.loop-claim.holders) (holdings_of c.put-in-loop-claim.new.holders)
          (one_there claims at last no_claim within) within c.loop-claim.invariant.adds
          (subst (λ (h : Holder). Puts (holdings_of c.loop-claim.holders) last.handle h (holdings_of c.put-in-loop-claim.new.holders)) c.claimer.ensures c.in_ok-put-2.ensures.ok);
    }
