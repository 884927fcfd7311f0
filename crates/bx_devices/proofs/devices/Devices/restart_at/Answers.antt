use Rattle.std.proofs.Common.{◌+◌, ◌∙◌, ap, subst}
use Rattle.bx_facts.specs.Writes.{Made, label_on}
use Rattle.bx_mirror_member.specs.Standing.{new_member}
use Rattle.bx_devices.specs.Disks.{Labels}
use Rattle.bx_devices.specs.Machines.{DeviceMachines, made_of}
use Rattle.bx_devices.proofs.Labelling.{member_labels}
use Rattle.bx_devices.proofs.devices.Devices.restart_at.Goals as goal

pub returns-then-place-len-clause-labels : goal.returns-then-place-len-clause-labels
returns-then-place-len-clause-labels g c =
    let does = c.label_own.ensures in
    subst (λ (o : DeviceMachines). Labels g.R.Rack c.args.rack.now c.label_own.new.rack (label_on (made_of o) (3 + c.args.member)) (3 + c.args.member) c.label_own.result) c.self.view_is
    (record { synced = does.synced; label_is = does.label; had_label = does.had_label; keeps = does.keeps; any_moment = does.any_moment; had_moment = does.had_moment })

pub returns-clause-labels : goal.returns-clause-labels
returns-clause-labels g c =
    let does = c.restart-result.ensures in
    member_labels g.R.Rack c.args.rack.now c.restart-result.new.rack (made_of c.args.self.now) c.args.member c.restart-result.result c.member-server.result
    (c.member-server.ensures ∙ ap (λ (made : Made). new_member c.args.member made) c.take_member.ensures.only.made)
    does.synced does.label does.had_label does.keeps does.any_moment does.had_moment
