use Rattle.std.proofs.Common.{arith}
use Rattle.std.proofs.lemmas.Result.{err_from_is_err_and}
use Rattle.bx_packets.proofs.Bodies.{no_marks, no_state_promised, promise_read}
use Rattle.bx_packets.proofs.parts.promise_in.Goals as goal

pub returns-in_err-marks : goal.returns-in_err-marks
returns-in_err-marks c =
    let p = err_from_is_err_and c.from_residual.result c.from_residual.ensures.1 in
    rw (p.1, p.2) (no_marks c.in_err-marks.field-0.0 c.args.devices c.args.bytes.now c.in_err-marks.ensures)

pub returns-in_err-state : goal.returns-in_err-state
returns-in_err-state c =
    let p = err_from_is_err_and c.from_residual-in_err-state.result c.from_residual-in_err-state.ensures.1 in
    rw (p.1, p.2) (no_state_promised c.in_err-state.field-0.0 c.args.devices c.args.bytes.now c.in_ok-marks.rest.now c.in_ok-marks.marks c.in_ok-marks.ensures c.in_err-state.ensures)

pub returns : goal.returns
returns c = promise_read c.args.devices c.args.bytes.now c.in_ok-marks.rest.now c.in_ok-marks.marks c.in_ok-state.state (λ i. omega (arith, c.type_inv.bytes i)) c.in_ok-marks.ensures c.in_ok-state.ensures
