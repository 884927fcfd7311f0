use Rattle.std.proofs.Common.{arith}
use Rattle.bx_rpc.proofs.Openings.{tail_short, opens_passed, opens_refused}
use Rattle.bx_rpc.proofs.Telling.{fails}
use Rattle.bx_rpc.proofs.opened.opens.Goals as goal

pub overflow_sub-place : goal.overflow_sub-place
overflow_sub-place c =
    rw c.rest.ensures (tail_short c.args.datagram.now c.in-Some.xid c.in-Some.text.now _ _ _ _ c.in-Some.ensures.some (rw c.new-reader.ensures at c.in-Ok.ensures.ok))

pub returns-in-Ok-clause-found : goal.returns-in-Ok-clause-found
returns-in-Ok-clause-found c =
    let checked = rw c.new-reader.ensures at c.in-Ok.ensures.ok in
    let short = tail_short c.args.datagram.now c.in-Some.xid c.in-Some.text.now _ _ _ _ c.in-Some.ensures.some checked in
    rw c.passed.ensures (opens_passed c.args.datagram.now c.in-Some.xid c.in-Some.text.now _ _ c.in-Ok.header.caller _ _ c.in-Some.ensures.some checked (rw c.rest.ensures (omega (arith, short))))

pub returns-in-Err-Refused-clause-found : goal.returns-in-Err-Refused-clause-found
returns-in-Err-Refused-clause-found c =
    let is = rw (c.in-Err-Refused.field-0-is, c.new-reader.ensures) at c.in-Err-Refused.ensures.err in
    rw (c.refused.ensures, c.in-Err-Refused.number-is, c.in-Err-Refused.program-is) (opens_refused c.args.datagram.now c.in-Some.xid c.in-Some.text.now c.in-Err-Refused.number c.in-Err-Refused.program c.in-Some.ensures.some is.0 is.1)

pub returns-in_default-clause-no_message : goal.returns-in_default-clause-no_message
returns-in_default-clause-no_message c = fails c.args.datagram.now (λ i. omega (arith, c.type_inv.datagram i)) c.in_default.ensures.none
