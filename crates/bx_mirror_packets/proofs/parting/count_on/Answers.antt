use Rattle.std.proofs.Common.{sym, arith}
use Rattle.bx_mirror_packets.proofs.Parted.{count_more}
use Rattle.bx_mirror_packets.proofs.parting.count_on.Goals.{then-run-device, else-run-device}
use Rattle.bx_mirror_packets.proofs.parting.count_on.Goals as goal

pub loop-i-preserved : goal.loop-i-preserved
loop-i-preserved c =
    let more = count_more c.args.device c.args.runs.now.1 c.loop-i.i c.loop-i.count c.in-Some.run'.now (sym c.in-Some.ensures) c.loop-i.invariant.counted in
    let few = c.loop-i.invariant.few in
    elim c.if-run-device.branch [
      | then-run-device w ↦ record { counted = grind (arith, more, w.count-is, w.if-run-device.true); few = omega (arith, few, w.count-is) }
      | else-run-device w ↦ record { counted = grind (arith, more, w.count-is, w.if-run-device.false); few = omega (arith, few, w.count-is) }
    ]
