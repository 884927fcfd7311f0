use Rattle.std.proofs.Common.{◌≡◌, true, false, Err, sym, ap, ◌∙◌, subst}
use Rattle.std.proofs.lemmas.Result.{err_from_is_err_and}
use Rattle.bx_audit_pages.proofs.Ends.{if_torn}
use Rattle.bx_audit_bodies.specs.Contents.{IsClear}
use Rattle.bx_audit_bodies.proofs.PiecesRead.{clear_too}
use Rattle.bx_audit_bodies.proofs.contents.clear_block.Goals as goal

pub returns-in_err-block-clause-torn : goal.returns-in_err-block-clause-torn
returns-in_err-block-clause-torn g c = λ chunks shows.
    let p = err_from_is_err_and c.from_residual.result c.from_residual.ensures.1 in
    if_torn _ _ c.in_err-block.field-0.0 c.from_residual.result (p.1 ∙ ap Err p.2) (λ at found wanted never block is clear. never block is) (c.in_err-block.ensures.torn chunks shows)

pub returns-then-not-is_clear-clause-torn : goal.returns-then-not-is_clear-clause-torn
returns-then-not-is_clear-clause-torn g c = λ chunks shows.
    rw c.torn_at.ensures (λ block is clear.
    let yes : c.is_clear.result ≡ true =
    c.is_clear.ensures.1 (clear_too chunks c.args.piece.now.handle c.args.piece.now.index c.args.tail block c.in_ok-block.block c.bytes.result.now (c.in_ok-block.ensures.ok chunks shows).chunk c.bytes.ensures is clear) in
    let e : false ≡ true = sym c.if-not-is_clear.true ∙ yes in absurd cc)

pub returns-clause-ok : goal.returns-clause-ok
returns-clause-ok g c = λ chunks shows. (
  c.in_ok-block.ensures.ok chunks shows,
  subst (IsClear c.args.tail c.args.piece.now.index) c.bytes.ensures (c.is_clear.ensures.0 c.if-not-is_clear.false),
)
