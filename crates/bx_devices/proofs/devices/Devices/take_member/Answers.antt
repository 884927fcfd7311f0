use Rattle.bx_devices.proofs.Shapes.{none_own, shape_with}
use Rattle.bx_devices.proofs.devices.Devices.take_member.Goals as goal

pub invariant_of-self : goal.invariant_of-self
invariant_of-self c = shape_with c.self.inside.volume c.self.inside.nodes c.self.inside.devices c.self.inside.areas c.self.inside.streams.items c.self.inside.members.items c.args.place c.take.new.self c.self.invariant (none_own c.self.inside.volume c.self.inside.nodes c.self.inside.devices c.self.inside.areas c.self.inside.streams.items c.args.place c.take.new.self c.take.ensures.after)
