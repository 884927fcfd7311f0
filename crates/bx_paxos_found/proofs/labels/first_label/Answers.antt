use Rattle.std.proofs.Common.{subst}
use Rattle.bx_disk.specs.Disks.{Disks}
use Rattle.bx_facts.specs.Labelled.{IsOwnLabel}
use Rattle.bx_paxos_found.proofs.Labelling.{first_at, of_some}
use Rattle.bx_paxos_found.proofs.labels.first_label.Goals as goal

pub returns-in-Some-clause-some : goal.returns-in-Some-clause-some
returns-in-Some-clause-some g c = λ tells.
    let x = g.R.Rack.state c.args.rack.now in
    let now = g.R.Rack.state c.loop-replica.rack in
    let at = of_some (IsOwnLabel now.sizes now.reads c.loop-replica.replica) c.in_ok-label.field-0 c.in-Some.label c.in-Some.is (c.in_ok-label.ensures.some (c.loop-replica.invariant.rack.keeps_telling tells)) in
    first_at x.sizes x.reads c.loop-replica.replica c.in-Some.label (c.loop-replica.invariant.none tells) (subst (λ (d : Disks). IsOwnLabel d.sizes d.reads c.loop-replica.replica c.in-Some.label) c.loop-replica.invariant.stays at)
