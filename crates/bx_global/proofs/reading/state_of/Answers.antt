use Rattle.std.proofs.Common.{arith}
use Rattle.std.proofs.lemmas.Result.{err_from_is_err_and}
use Rattle.bx_global.proofs.StateText.{none_begins, none_sound, state_begins}
use Rattle.bx_global.proofs.reading.state_of.Goals as goal

pub returns-in_err-state : goal.returns-in_err-state
returns-in_err-state c =
    let p = err_from_is_err_and c.from_residual.result c.from_residual.ensures.1 in
    rw (p.1, p.2) (none_begins c.in_err-state.field-0.0 c.args.bytes.now c.in_err-state.ensures)

pub returns-then-not-is_sound : goal.returns-then-not-is_sound
returns-then-not-is_sound c =
    none_sound c.args.bytes.now c.in_ok-state.rest.now c.in_ok-state.state c.in_ok-state.ensures
    (λ sound.
    let yes = c.is_sound.ensures.1 sound in
    let no = c.if-not-is_sound.true in
    absurd cc)

pub returns : goal.returns
returns c = state_begins c.args.bytes.now c.in_ok-state.rest.now c.in_ok-state.state (λ i. omega (arith, c.type_inv.bytes i)) c.in_ok-state.ensures (c.is_sound.ensures.0 c.if-not-is_sound.false)
