use Rattle.std.proofs.Common.{ℕ, ◌%◌, List, length, arith, sym, ap, subst, ◌∙◌}
use Rattle.std.proofs.lemmas.Result.{err_from_is_err_and}
use Rattle.bx_mirror_packets.specs.DeviceMessages.{IsCopyBody, copy_text}
use Rattle.bx_mirror_packets.specs.Reading.{IsText}
use Rattle.bx_mirror_packets.proofs.Fields.{piece_field}
use Rattle.bx_mirror_packets.proofs.Parted.{copy_front, copy_read, copy_with}
use Rattle.bx_mirror_packets.proofs.Whole.{has_front, no_front}
use Rattle.bx_mirror_packets.proofs.bodies.copy_in.Goals as goal

pub returns-in_err-piece : goal.returns-in_err-piece
returns-in_err-piece c =
    let p = err_from_is_err_and c.from_residual.result c.from_residual.ensures.1 in
    rw (p.1, p.2) (no_front piece_field copy_front c.in_err-piece.field-0.0 c.args.bytes.now c.in_err-piece.ensures)

pub returns-then-rest-ne0 : goal.returns-then-rest-ne0
returns-then-rest-ne0 c = λ x is.
    let same = has_front piece_field copy_front c.args.bytes.now c.in_ok-piece.rest.now c.in_ok-piece.piece x c.in_ok-piece.ensures is in
    c.if-rest-ne0.true (ap (λ (bytes : List ℕ). length bytes % 512) same.1 ∙ is.is.3)

pub returns : goal.returns
returns c =
    subst (λ (bytes : List ℕ). IsText IsCopyBody copy_text (copy_with c.in_ok-piece.piece bytes) c.args.bytes.now) (sym c.in_ok-bytes.ensures)
    (copy_read c.args.bytes.now c.in_ok-piece.rest.now c.in_ok-piece.piece (λ i. omega (arith, c.type_inv.bytes i)) c.in_ok-piece.ensures c.if-rest-ne0.false)
