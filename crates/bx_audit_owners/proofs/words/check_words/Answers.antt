use Rattle.std.proofs.Common.{sym, subst}
use Rattle.bx_audit_owners.specs.Holding.{holdings_of}
use Rattle.bx_audit_slots.specs.OwnBlocks.{AreOwn}
use Rattle.bx_audit_owners.proofs.Ends.{ok_too, torn_too}
use Rattle.bx_audit_owners.proofs.OwnBlocks.{all_worded, first_wrong}
use Rattle.bx_audit_owners.proofs.words.check_words.Goals as goal

pub returns-clause-ok : goal.returns-clause-ok
returns-clause-ok g c = λ tells.
    let stands = g.B.Blocks.stands c.args.blocks.now in
    let are = subst (AreOwn stands c.args.areas) (sym c.as_slice.ensures.value) (c.in_ok-owns.ensures.tells tells) in
    ok_too _ _ c.check_held.result (all_worded c.args.areas stands (λ at a b is_a is_b. g.met.B.Blocks.one c.args.blocks.now at a b tells is_a is_b) c.as_slice.result.now are (holdings_of c.args.walked.now.holders))
    c.check_held.ensures.ok

pub returns-clause-torn : goal.returns-clause-torn
returns-clause-torn g c = λ tells.
    let stands = g.B.Blocks.stands c.args.blocks.now in
    let are = subst (AreOwn stands c.args.areas) (sym c.as_slice.ensures.value) (c.in_ok-owns.ensures.tells tells) in
    torn_too _ _ c.check_held.result (first_wrong c.args.areas stands (λ at a b is_a is_b. g.met.B.Blocks.one c.args.blocks.now at a b tells is_a is_b) c.as_slice.result.now are (holdings_of c.args.walked.now.holders))
    c.check_held.ensures.torn
