use Rattle.std.proofs.Common.{ap, ◌∙◌, Err, subst, arith}
use Rattle.std.specs.Prelude.{All}
use Rattle.std.proofs.lemmas.Result.{err_from_is_err_and}
use Rattle.std.proofs.lemmas.List.{take_all}
use Rattle.bx_audit_pages.proofs.Ends.{both_torn, if_torn}
use Rattle.bx_audit_bodies.specs.Pieces.{HasPiece}
use Rattle.bx_audit_bodies.proofs.PiecesRead.{read_more, no_piece_of}
use Rattle.bx_audit_bodies.proofs.PartsLed.{first_piece, one_at}
use Rattle.bx_audit_bodies.proofs.contents.read_pieces.Goals as goal

pub returns-in_err-block_at-clause-torn : goal.returns-in_err-block_at-clause-torn
returns-in_err-block_at-clause-torn g c = λ chunks shows.
    let p = err_from_is_err_and c.from_residual.result c.from_residual.ensures.1 in
    if_torn _ _ c.in_err-block_at.field-0.0 c.from_residual.result (p.1 ∙ ap Err p.2)
    (λ at found wanted never all. no_piece_of chunks c.args.pieces.now c.loop-piece.piece-index _ c.loop-piece-test.true never all)
    (c.in_err-block_at.ensures.torn chunks (c.loop-piece.invariant.shows chunks shows))

pub loop-piece-preserved : goal.loop-piece-preserved
loop-piece-preserved g c = record {
  blocks = grind arith;
  shows = λ chunks shows. c.in_ok-block_at.ensures.shows chunks (c.loop-piece.invariant.shows chunks shows);
  read = λ chunks shows.
      read_more chunks c.args.pieces.now c.loop-piece.piece-index _ c.loop-piece-test.true (c.loop-piece.invariant.read chunks shows)
      (record { block = c.in_ok-block_at.field-0; at = c.in_ok-block_at.ensures.ok chunks (c.loop-piece.invariant.shows chunks shows) });
}

pub returns-clause-ok : goal.returns-clause-ok
returns-clause-ok g c = λ chunks shows.
    subst (All (HasPiece chunks)) (take_all c.loop-piece.piece-index c.args.pieces.now c.loop-piece-test.false) (c.loop-piece.invariant.read chunks shows)

pub returns-in_err-block_at-clause-names : goal.returns-in_err-block_at-clause-names
returns-in_err-block_at-clause-names g c =
    let p = err_from_is_err_and c.from_residual.result c.from_residual.ensures.1 in
    if_torn _ _ c.in_err-block_at.field-0.0 c.from_residual.result (p.1 ∙ ap Err p.2) (λ at found wanted is. one_at c.args.pieces.now c.loop-piece.piece-index _ wanted c.loop-piece-test.true is) (c.in_err-block_at.ensures.names)

pub returns-in_err-block_at-clause-shows : goal.returns-in_err-block_at-clause-shows
returns-in_err-block_at-clause-shows g c = λ chunks shows. c.in_err-block_at.ensures.shows chunks (c.loop-piece.invariant.shows chunks shows)

pub returns-in_err-block_at-clause-first : goal.returns-in_err-block_at-clause-first
returns-in_err-block_at-clause-first g c = λ chunks shows.
    let p = err_from_is_err_and c.from_residual.result c.from_residual.ensures.1 in
    let still = c.loop-piece.invariant.shows chunks shows in
    if_torn _ _ c.in_err-block_at.field-0.0 c.from_residual.result (p.1 ∙ ap Err p.2)
    (λ at found wanted both. first_piece chunks c.args.pieces.now c.loop-piece.piece-index _ wanted c.loop-piece-test.true (c.loop-piece.invariant.read chunks shows) both.0 both.1)
    (both_torn _ _ c.in_err-block_at.field-0.0 (c.in_err-block_at.ensures.torn chunks still) c.in_err-block_at.ensures.names)
