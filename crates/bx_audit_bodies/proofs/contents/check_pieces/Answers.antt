use Rattle.std.proofs.Common.{ap, ◌∙◌, Err, subst, arith}
use Rattle.std.specs.Prelude.{All}
use Rattle.std.proofs.lemmas.Result.{err_from_is_err_and}
use Rattle.std.proofs.lemmas.List.{take_all}
use Rattle.bx_audit_pages.proofs.Ends.{both_torn, if_torn}
use Rattle.bx_audit_bodies.specs.Contents.{HasClear}
use Rattle.bx_audit_bodies.proofs.PiecesRead.{all_more}
use Rattle.bx_audit_bodies.proofs.FaultsOfParts.{unclear_at}
use Rattle.bx_audit_bodies.proofs.contents.check_pieces.Goals as goal

pub loop-piece-preserved : goal.loop-piece-preserved
loop-piece-preserved g c = record {
  blocks = grind arith;
  shows = λ chunks shows. c.in_ok-clear_block.ensures.shows chunks (c.loop-piece.invariant.shows chunks shows);
  clear = λ chunks shows.
      let is = c.in_ok-clear_block.ensures.ok chunks (c.loop-piece.invariant.shows chunks shows) in
      all_more (HasClear chunks c.args.tail) c.args.pieces.now c.loop-piece.piece-index _ c.loop-piece-test.true (c.loop-piece.invariant.clear chunks shows)
      record { block = c.in_ok-clear_block.field-0; at = is.0; clear = is.1 };
}

pub returns-clause-ok : goal.returns-clause-ok
returns-clause-ok g c = λ chunks shows.
    subst (All (HasClear chunks c.args.tail)) (take_all c.loop-piece.piece-index c.args.pieces.now c.loop-piece-test.false) (c.loop-piece.invariant.clear chunks shows)

pub returns-in_err-clear_block-clause-shows : goal.returns-in_err-clear_block-clause-shows
returns-in_err-clear_block-clause-shows g c = λ chunks shows. c.in_err-clear_block.ensures.shows chunks (c.loop-piece.invariant.shows chunks shows)

pub returns-in_err-clear_block-clause-wrong : goal.returns-in_err-clear_block-clause-wrong
returns-in_err-clear_block-clause-wrong g c = λ chunks shows.
    let p = err_from_is_err_and c.from_residual.result c.from_residual.ensures.1 in
    if_torn _ _ c.in_err-clear_block.field-0.0 c.from_residual.result (p.1 ∙ ap Err p.2)
    (λ at found wanted both. unclear_at chunks c.args.pieces.now c.loop-piece.piece-index _ c.args.tail wanted c.loop-piece-test.true both.1 both.0)
    (both_torn _ _ c.in_err-clear_block.field-0.0 (c.in_err-clear_block.ensures.torn chunks (c.loop-piece.invariant.shows chunks shows)) c.in_err-clear_block.ensures.names)
