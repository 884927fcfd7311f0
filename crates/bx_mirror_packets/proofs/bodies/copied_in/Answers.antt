use Rattle.std.proofs.Common.{arith}
use Rattle.std.proofs.lemmas.Result.{err_from_is_err_and}
use Rattle.bx_mirror_packets.proofs.Fields.{piece_field}
use Rattle.bx_mirror_packets.proofs.Parted.{copied_front, copied_read}
use Rattle.bx_mirror_packets.proofs.Whole.{has_front, no_front}
use Rattle.bx_mirror_packets.proofs.bodies.copied_in.Goals as goal

pub returns-in_err-piece_of : goal.returns-in_err-piece_of
returns-in_err-piece_of c =
    let p = err_from_is_err_and c.from_residual.result c.from_residual.ensures.1 in
    rw (p.1, p.2) (no_front piece_field copied_front c.in_err-piece_of.field-0.0 c.args.bytes.now c.in_err-piece_of.ensures)

pub returns-in_err-piece : goal.returns-in_err-piece
returns-in_err-piece c =
    let p = err_from_is_err_and c.from_residual-in_err-piece.result c.from_residual-in_err-piece.ensures.1 in
    let read = c.in_ok-piece_of.field-0 in
    rw (p.1, p.2, c.in_err-piece.ensures.0) (λ x is. c.in_err-piece.ensures.1 (has_front piece_field copied_front c.args.bytes.now read.1.now read.0 x c.in_ok-piece_of.ensures is).1)

pub returns : goal.returns
returns c =
    let read = c.in_ok-piece_of.field-0 in
    rw c.in_ok-piece.ensures.0 (copied_read c.args.bytes.now read.1.now read.0 (λ i. omega (arith, c.type_inv.bytes i)) c.in_ok-piece_of.ensures c.in_ok-piece.ensures.1)
