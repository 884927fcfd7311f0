use Rattle.std.proofs.Common.{◌≡◌, ◌<◌, refl, rules, subst}
use Rattle.std.specs.Prelude.{IfNone, IfSome}
use Rattle.bx_acceptor.specs.Standing.{IsFound, IsNotFound}
use Rattle.bx_cell.specs.Halves.{Found}
use Rattle.bx_disk.specs.Disks.{Disks}
use Rattle.bx_facts.specs.Labelled.{IsReplicaLabelled}
use Rattle.bx_paxos_found.proofs.Labelling.{unread_off}
use Rattle.bx_paxos_found.proofs.Seeing.{not_both, seen_of}
use Rattle.bx_paxos_found.proofs.Threes.{same_of}
use Rattle.bx_paxos_found.proofs.reading.view.Goals as goal

pub returns-else-labelled-clause-seen : goal.returns-else-labelled-clause-seen
returns-else-labelled-clause-seen g c = λ tells first same.
    let x = g.R.Rack.state c.args.rack.now in
    let off = c.in_ok-labelled.ensures.is tells in
    unread_off c.args.devices x x c.args.replica c.args.first.now (same_of x x refl) first
    (λ spells. not_both c.in_ok-labelled.labelled c.if-labelled.false (off.1 spells))

pub returns-in_ok-seen-clause-seen : goal.returns-in_ok-seen-clause-seen
returns-in_ok-seen-clause-seen g c = λ tells first same.
    let x = g.R.Rack.state c.args.rack.now in
    let here = c.in_ok-labelled.ensures.stays in
    let told = c.in_ok-labelled.ensures.rack.keeps_telling tells in
    let label : IsReplicaLabelled c.args.devices x.sizes x.reads c.args.replica = record {
      whole = c.is_whole.ensures.0 (search rules);
      first = c.args.first.now;
      is_first = first;
      devices_are = same;
      spells = (c.in_ok-labelled.ensures.is tells).0 c.if-labelled.true;
    } in
    seen_of c.args.devices x.sizes x.reads c.args.replica c.in_ok-seen.seen label
    (subst (λ (d : Disks). IfSome c.in_ok-seen.seen (λ k. (found : Found) × (found.number ≡ k.number) × IsFound c.args.devices (d.reads c.args.replica) found k.held)) here (c.in_ok-seen.ensures.some told))
    (subst (λ (d : Disks). IfNone c.in_ok-seen.seen (IsNotFound c.args.devices (d.reads c.args.replica))) here (c.in_ok-seen.ensures.none told))
