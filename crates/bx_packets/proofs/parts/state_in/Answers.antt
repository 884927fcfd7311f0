use Rattle.std.proofs.Common.{arith}
use Rattle.bx_packets.proofs.Bodies.{other_devices}
use Rattle.bx_packets.proofs.parts.state_in.Goals as goal

pub returns-then-len-devices : goal.returns-then-len-devices
returns-then-len-devices c =
    let spells = rw c.in-Some.is at c.in_ok-state.ensures.some in
    other_devices c.args.devices c.args.bytes.now c.in-Some.state spells (λ e. absurd (omega (arith, c.len.ensures, c.if-len-devices.true, e)))
