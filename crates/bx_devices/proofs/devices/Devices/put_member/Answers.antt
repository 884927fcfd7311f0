use Rattle.std.proofs.Common.{Some, sym, subst}
use Rattle.bx_devices.specs.Machines.{DeviceMachines, IsOwn, made_of}
use Rattle.bx_devices.proofs.Shapes.{shape_with, some_own}
use Rattle.bx_devices.proofs.devices.Devices.put_member.Goals as goal

pub invariant_of-self : goal.invariant_of-self
invariant_of-self c = shape_with c.self.inside.volume c.self.inside.nodes c.self.inside.devices c.self.inside.areas c.self.inside.streams.items c.self.inside.members.items c.args.place (Some c.args.server) c.self.invariant
    (some_own c.self.inside.volume c.self.inside.nodes c.self.inside.devices c.self.inside.areas c.self.inside.streams.items c.args.place c.args.server
    (subst (λ (o : DeviceMachines). IsOwn (made_of o) c.args.place c.args.server) (sym c.self.view_is) c.requires.own))
