use Rattle.std.proofs.Common.{sym, subst}
use Rattle.bx_base.specs.declared.names.Actor.{Actor}
use Rattle.bx_base.specs.declared.names.Actor.TheVariants.{Member}
use Rattle.bx_facts.specs.Disks.{OnlyDiskOf}
use Rattle.bx_devices.specs.Machines.{made_of}
use Rattle.bx_devices.proofs.Leaving.{label_disk}
use Rattle.bx_devices.proofs.devices.Devices.restart.Goals as goal

pub returns-in-Member-clause-disks : goal.returns-in-Member-clause-disks
returns-in-Member-clause-disks g c = λ tells. subst (λ (who : Actor). OnlyDiskOf who (g.R.Rack.state c.args.rack.now) (g.R.Rack.state c.restart_at.new.rack)) (sym c.in-Member.is)
    (label_disk g.R.Rack c.args.rack.now c.restart_at.new.rack tells (made_of c.args.self.now) (Member c.in-Member.member) c.restart_at.result c.restart_at.ensures.labels)
