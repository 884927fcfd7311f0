use Rattle.std.proofs.Common.{◌≡◌, arith}
use Rattle.bx_driver.proofs.InTurn.{all_counted, all_machines, gathered}
use Rattle.bx_driver.proofs.machines.machines.Goals as goal

pub returns-clause-turn : goal.returns-clause-turn
returns-clause-turn g c =
    let seen = g.C.Shows.seen c.args.cluster.now in
    let nodes : c.loop-node.node ≡ (g.C.Shows.seen c.args.cluster.now).nodes = omega arith in
    let replicas : c.loop-replica.replica ≡ 3 = omega arith in
    let servers : c.loop-server.server ≡ 2 = omega arith in
    let firsts : c.loop-device.device ≡ (g.C.Shows.seen c.args.cluster.now).devices = omega arith in
    let seconds : c.loop-device-2.device ≡ (g.C.Shows.seen c.args.cluster.now).devices = omega arith in
    all_machines seen c.loop-device-2.all.items
    (gathered seen c.loop-node.all.items c.loop-replica.all.items c.loop-server.all.items c.loop-device.all.items c.loop-device-2.all.items c.loop-node.node c.loop-replica.replica c.loop-server.server c.loop-device.device c.loop-device-2.device
    c.loop-node.invariant c.loop-replica.invariant c.loop-server.invariant c.loop-device.invariant c.loop-device-2.invariant nodes replicas servers firsts seconds)

pub returns-clause-few : goal.returns-clause-few
returns-clause-few g c =
    let seen = g.C.Shows.seen c.args.cluster.now in
    let nodes : c.loop-node.node ≡ (g.C.Shows.seen c.args.cluster.now).nodes = omega arith in
    let replicas : c.loop-replica.replica ≡ 3 = omega arith in
    let servers : c.loop-server.server ≡ 2 = omega arith in
    let firsts : c.loop-device.device ≡ (g.C.Shows.seen c.args.cluster.now).devices = omega arith in
    let seconds : c.loop-device-2.device ≡ (g.C.Shows.seen c.args.cluster.now).devices = omega arith in
    all_counted seen c.loop-device-2.all.items
    (gathered seen c.loop-node.all.items c.loop-replica.all.items c.loop-server.all.items c.loop-device.all.items c.loop-device-2.all.items c.loop-node.node c.loop-replica.replica c.loop-server.server c.loop-device.device c.loop-device-2.device
    c.loop-node.invariant c.loop-replica.invariant c.loop-server.invariant c.loop-device.invariant c.loop-device-2.invariant nodes replicas servers firsts seconds)
