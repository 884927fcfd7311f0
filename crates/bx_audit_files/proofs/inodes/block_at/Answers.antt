use Rattle.std.proofs.Common.{Err, ap, ◌∙◌}
use Rattle.std.proofs.lemmas.Result.{err_from_is_err_and}
use Rattle.bx_audit_pages.proofs.Ends.{if_torn}
use Rattle.bx_audit_files.proofs.OfKind.{no_block, not_of_kind}
use Rattle.bx_audit_files.proofs.inodes.block_at.Goals as goal

pub returns-in_err-block-clause-torn : goal.returns-in_err-block-clause-torn
returns-in_err-block-clause-torn g c = λ chunks shows.
    let p = err_from_is_err_and c.from_residual.result c.from_residual.ensures.1 in
    if_torn _ _ c.in_err-block.field-0.0 c.from_residual.result (p.1 ∙ ap Err p.2) (λ at found wanted none. no_block chunks c.args.handle c.args.kind none) (c.in_err-block.ensures.torn chunks shows)

pub returns-then-block-kind-clause-torn : goal.returns-then-block-kind-clause-torn
returns-then-block-kind-clause-torn g c = λ chunks shows.
    rw c.torn_at.ensures (not_of_kind chunks c.args.handle c.args.kind c.in_ok-block.block (c.in_ok-block.ensures.ok chunks shows) c.if-block-kind.true)

pub returns-clause-ok : goal.returns-clause-ok
returns-clause-ok g c = λ chunks shows. record { chunk = c.in_ok-block.ensures.ok chunks shows; kind_is = c.if-block-kind.false }
