use Rattle.std.proofs.Common.{◌≡◌, Err, sym, subst}
use Rattle.bx_disk.specs.declared.fault.RackError.TheVariants.{Fault}
use Rattle.bx_facts.specs.Writes.{Made}
use Rattle.bx_devices.specs.Machines.{IsOwn, IsShape, made_of}
use Rattle.bx_devices.proofs.Owning.{does_own, faulted_own}
use Rattle.bx_devices.proofs.Shapes.{room_of}
use Rattle.bx_devices.proofs.devices.Devices.take_at.Goals as goal

pub take-requires : goal.take-requires
take-requires g c = record { room = room_of c.args.self.now c.args.place c.in-Some.server _ (subst IsShape c.self.view_is c.self.invariant) c.requires.room (sym c.in-Some.ensures.was) }

pub put_member-requires-clause-own : goal.put_member-requires-clause-own
put_member-requires-clause-own g c =
    let shape : IsShape c.args.self.now = subst IsShape c.self.view_is c.self.invariant in
    let was : IsOwn (made_of c.args.self.now) c.args.place c.in-Some.server = shape.each c.args.place c.in-Some.server (sym c.in-Some.ensures.was) in
    subst (λ (made : Made). IsOwn made c.args.place c.take.new.self) (sym c.in-Some.ensures.only.made)
    (does_own (made_of c.args.self.now) c.args.place (g.R.Rack.tells c.args.rack.now) c.args.known.now c.args.input.now c.in-Some.server c.take.new.self c.in-Ok.change c.args.out.now c.take.new.out (g.R.Rack.state c.args.rack.now) (g.R.Rack.state c.take.new.rack) c.in-Ok.ensures.does was)

pub put_member-requires-in-Err-Fault-clause-own : goal.put_member-requires-in-Err-Fault-clause-own
put_member-requires-in-Err-Fault-clause-own g c =
    let shape : IsShape c.args.self.now = subst IsShape c.self.view_is c.self.invariant in
    let was : IsOwn (made_of c.args.self.now) c.args.place c.in-Some.server = shape.each c.args.place c.in-Some.server (sym c.in-Some.ensures.was) in
    let failed : c.take.result ≡ Err Fault = (let a = c.in-Err-Fault.is in let b = c.in-Err-Fault.field-0-is in cc) in
    subst (λ (made : Made). IsOwn made c.args.place c.take.new.self) (sym c.in-Some.ensures.only.made)
    (faulted_own (made_of c.args.self.now) c.args.place c.take.result c.args.known.now c.in-Some.server c.take.new.self failed c.take.ensures.fault was)
