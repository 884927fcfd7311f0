use Rattle.std.proofs.Common.{arith}
use Rattle.std.proofs.lemmas.Result.{err_from_is_err_and}
use Rattle.bx_packets.proofs.Bodies.{no_ballot, no_state_behind, proposal_read}
use Rattle.bx_packets.proofs.parts.proposal_in.Goals as goal

pub returns-in_err-ballot : goal.returns-in_err-ballot
returns-in_err-ballot c =
    let p = err_from_is_err_and c.from_residual.result c.from_residual.ensures.1 in
    rw (p.1, p.2) (no_ballot c.in_err-ballot.field-0.0 c.args.devices c.args.bytes.now c.in_err-ballot.ensures)

pub returns-in_err-state : goal.returns-in_err-state
returns-in_err-state c =
    let p = err_from_is_err_and c.from_residual-in_err-state.result c.from_residual-in_err-state.ensures.1 in
    rw (p.1, p.2) (no_state_behind c.in_err-state.field-0.0 c.args.devices c.args.bytes.now c.in_ok-ballot.rest.now c.in_ok-ballot.ballot c.in_ok-ballot.ensures c.in_err-state.ensures)

pub returns : goal.returns
returns c = proposal_read c.args.devices c.args.bytes.now c.in_ok-ballot.rest.now c.in_ok-ballot.ballot c.in_ok-state.state (λ i. omega (arith, c.type_inv.bytes i)) c.in_ok-ballot.ensures c.in_ok-state.ensures
