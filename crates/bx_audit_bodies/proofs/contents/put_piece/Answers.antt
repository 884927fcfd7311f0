use Rattle.std.proofs.Common.{ℕ, List, Err, length, ap, ◌∙◌}
use Rattle.std.proofs.lemmas.Result.{err_from_is_err_and}
use Rattle.bx_audit_pages.proofs.Ends.{if_torn}
use Rattle.bx_audit_bodies.specs.Contents.{with_piece}
use Rattle.bx_audit_bodies.proofs.PiecesInBytes.{put_long}
use Rattle.bx_audit_bodies.proofs.contents.put_piece.Goals as goal

pub returns-in_err-block-clause-torn : goal.returns-in_err-block-clause-torn
returns-in_err-block-clause-torn g c = λ chunks shows.
    let p = err_from_is_err_and c.from_residual.result c.from_residual.ensures.1 in
    if_torn _ _ c.in_err-block.field-0.0 c.from_residual.result (p.1 ∙ ap Err p.2) (λ at found wanted never. never) (c.in_err-block.ensures.torn chunks shows)

pub returns-clause-ok : goal.returns-clause-ok
returns-clause-ok g c = λ chunks shows. record {
  block = c.in_ok-block.block;
  at = (c.in_ok-block.ensures.ok chunks shows).0;
  clear = (c.in_ok-block.ensures.ok chunks shows).1;
  new_is = c.in_ok-put_bytes.ensures ∙ ap (λ (l : List ℕ). with_piece c.args.size c.args.piece.now.index l c.args.content.now) c.bytes.ensures;
}

pub returns-clause-len : goal.returns-clause-len
returns-clause-len g c = λ long. ap length c.in_ok-put_bytes.ensures ∙ put_long c.args.size c.args.piece.now.index c.bytes.result.now c.args.content.now long
