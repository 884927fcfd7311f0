use Rattle.std.proofs.Common.{◌<◌, length, List, ap, ◌∙◌, Err, subst, arith}
use Rattle.std.specs.Prelude.{All}
use Rattle.std.proofs.lemmas.Result.{err_from_is_err_and}
use Rattle.std.proofs.lemmas.List.{take_all}
use Rattle.bx_truth.specs.Stored.{AreBytesOf}
use Rattle.bx_audit_pages.proofs.Ends.{both_torn, if_torn}
use Rattle.bx_audit_bodies.specs.Pieces.{HasPiece, piece_among}
use Rattle.bx_audit_bodies.specs.declared.pieces.Piece.{Piece}
use Rattle.bx_audit_bodies.proofs.PiecesRead.{read_more, bytes_step}
use Rattle.bx_audit_bodies.proofs.FaultsOfParts.{unclear_at}
use Rattle.bx_audit_bodies.proofs.contents.bytes_of.Goals as goal

pub loop-piece-preserved : goal.loop-piece-preserved
loop-piece-preserved g c =
    let pieces = c.args.pieces.now in
    let k = c.loop-piece.piece-index in
    let less : k < length pieces = c.loop-piece-test.true in
    record {
      blocks = grind arith;
      shows = λ chunks shows. c.in_ok-put_piece.ensures.shows chunks (c.loop-piece.invariant.shows chunks shows);
      len = c.in_ok-put_piece.ensures.len c.loop-piece.invariant.len;
      read = λ chunks shows.
          let puts = c.in_ok-put_piece.ensures.ok chunks (c.loop-piece.invariant.shows chunks shows) in
          read_more chunks pieces k _ less (c.loop-piece.invariant.read chunks shows) (record { block = puts.block; at = puts.at });
      bytes = λ chunks shows apart.
          let puts = c.in_ok-put_piece.ensures.ok chunks (c.loop-piece.invariant.shows chunks shows) in
          bytes_step chunks pieces k _ less c.args.size c.args.tail c.loop-piece.content c.put_piece.new.content apart (c.loop-piece.invariant.bytes chunks shows apart) puts;
    }

pub returns-clause-pieces : goal.returns-clause-pieces
returns-clause-pieces g c = λ chunks shows.
    subst (All (HasPiece chunks)) (take_all c.loop-piece.piece-index c.args.pieces.now c.loop-piece-test.false) (c.loop-piece.invariant.read chunks shows)

pub returns-clause-bytes : goal.returns-clause-bytes
returns-clause-bytes g c = λ chunks shows apart.
    subst (λ (l : List Piece). AreBytesOf (piece_among chunks l) c.args.size c.args.tail c.loop-piece.content) (take_all c.loop-piece.piece-index c.args.pieces.now c.loop-piece-test.false)
    (c.loop-piece.invariant.bytes chunks shows apart)

pub returns-in_err-put_piece-clause-shows : goal.returns-in_err-put_piece-clause-shows
returns-in_err-put_piece-clause-shows g c = λ chunks shows. c.in_err-put_piece.ensures.shows chunks (c.loop-piece.invariant.shows chunks shows)

pub returns-in_err-put_piece-clause-wrong : goal.returns-in_err-put_piece-clause-wrong
returns-in_err-put_piece-clause-wrong g c = λ chunks shows.
    let p = err_from_is_err_and c.from_residual.result c.from_residual.ensures.1 in
    if_torn _ _ c.in_err-put_piece.field-0.0 c.from_residual.result (p.1 ∙ ap Err p.2)
    (λ at found wanted both. unclear_at chunks c.args.pieces.now c.loop-piece.piece-index _ c.args.tail wanted c.loop-piece-test.true both.1 both.0)
    (both_torn _ _ c.in_err-put_piece.field-0.0 (c.in_err-put_piece.ensures.torn chunks (c.loop-piece.invariant.shows chunks shows)) c.in_err-put_piece.ensures.names)
