use Rattle.std.proofs.Common.{ℕ, List, arith, sym, subst}
use Rattle.std.proofs.lemmas.Result.{err_from_is_err_and}
use Rattle.bx_mirror_packets.specs.DeviceMessages.{IsDataBody, data_text}
use Rattle.bx_mirror_packets.specs.Reading.{IsText}
use Rattle.bx_mirror_packets.proofs.Fields.{head_field}
use Rattle.bx_mirror_packets.proofs.Parted.{data_front, data_read, data_with}
use Rattle.bx_mirror_packets.proofs.Whole.{no_front}
use Rattle.bx_mirror_packets.proofs.bodies.data_in.Goals as goal

pub returns-in_err-head : goal.returns-in_err-head
returns-in_err-head c =
    let p = err_from_is_err_and c.from_residual.result c.from_residual.ensures.1 in
    rw (p.1, p.2) (no_front head_field data_front c.in_err-head.field-0.0 c.args.bytes.now c.in_err-head.ensures)

pub returns : goal.returns
returns c =
    subst (λ (bytes : List ℕ). IsText IsDataBody data_text (data_with c.in_ok-head.head bytes) c.args.bytes.now) (sym c.in_ok-bytes.ensures)
    (data_read c.args.bytes.now c.in_ok-head.rest.now c.in_ok-head.head (λ i. omega (arith, c.type_inv.bytes i)) c.in_ok-head.ensures)
