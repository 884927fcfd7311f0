use Rattle.std.proofs.Common.{◌≡◌, ◌<◌, OnOk, sym, ap, subst, ◌∙◌}
use Rattle.bx_base.specs.declared.names.Actor.{Actor}
use Rattle.bx_base.specs.declared.names.Actor.TheVariants.{Replica as OfReplica}
use Rattle.bx_facts.specs.Pasts.{register_failed, register_restarted, register_with}
use Rattle.bx_paxos.proofs.Sending.{start_sends}
use Rattle.bx_paxos.specs.Fits.{Fits, Turned, going}
use Rattle.bx_proposer.specs.Standing.{ProposerView as Proposer}
use Rattle.bx_paxos_machines.specs.Parts.{IsOf, IsPart, IsWhole, name_of, proposer_of}
use Rattle.bx_paxos_machines.specs.declared.machine.Machine.{Machine}
use Rattle.bx_paxos_machines.proofs.Others.{other_part, other_starts, quiet_moments, replica_part, sync_labels, sync_members, sync_moments, sync_only}
use Rattle.bx_paxos_machines.proofs.machine.Machine.restart.Goals as goal

pub returns-in_err-restart-in-Other-clause-any_moment : goal.returns-in_err-restart-in-Other-clause-any_moment
returns-in_err-restart-in-Other-clause-any_moment g c = λ v past tells fits.
    let rack = c.args.rack.now in
    quiet_moments v (g.R.Rack.state rack) past c.args.out.now (g.R.Rack.moment rack) (g.R.Rack.left_since rack) fits (λ image left. g.met.R.Rack.only_now rack image tells left)

pub returns-in-Replica-clause-any_moment : goal.returns-in-Replica-clause-any_moment
returns-in-Replica-clause-any_moment g c = λ v past tells fits.
    let rack = c.args.rack.now in
    sync_moments v (g.R.Rack.state rack) past c.args.out.now (g.R.Rack.moment rack) (g.R.Rack.moment c.restart.new.rack) (g.R.Rack.left_since rack) (g.R.Rack.left_since c.restart.new.rack) fits (c.restart.ensures.disks tells).any_moment

pub returns-in_ok-restart-in-Other-clause-keeps : goal.returns-in_ok-restart-in-Other-clause-keeps
returns-in_ok-restart-in-Other-clause-keeps g c = λ v past courses tells of few nodes above fits turned.
    let p = c.in-Other.proposer in
    let q = c.restart-in-Other.new.self in
    let out = c.restart-in-Other.new.out in
    let did = c.in_ok-restart-in-Other.ensures in
    let x = g.R.Rack.state c.args.rack.now in
    subst (λ (m : Machine). IsWhole m → IsOf v m → v.nodes ≡ (proposer_of m).nodes → past.boots (name_of m) < c.args.boot → Turned (proposer_of m).actor q.course v.courses courses → Fits (going v courses) x (register_with (register_restarted past (name_of m) c.args.boot) out)) (sym c.in-Other.is)
    (λ whole o same higher turns. other_starts v x past p q c.args.boot courses c.args.out.now out o.0 whole few same higher c.ranges.boot.fits did.restarts did.asks turns fits) c.requires.whole of nodes above turned

pub returns-in_ok-restart-in-Other-clause-any_moment : goal.returns-in_ok-restart-in-Other-clause-any_moment
returns-in_ok-restart-in-Other-clause-any_moment g c = λ v past tells fits.
    let rack = c.args.rack.now in
    quiet_moments v (g.R.Rack.state rack) past c.args.out.now (g.R.Rack.moment rack) (g.R.Rack.left_since rack) fits (λ image left. g.met.R.Rack.only_now rack image tells left)

pub returns-in_ok-restart-in-Other-clause-sent : goal.returns-in_ok-restart-in-Other-clause-sent
returns-in_ok-restart-in-Other-clause-sent g c = start_sends c.in-Other.proposer.at c.args.out.now c.restart-in-Other.new.out c.in_ok-restart-in-Other.ensures.asks

pub returns-in-Replica-clause-part : goal.returns-in-Replica-clause-part
returns-in-Replica-clause-part g c = λ nodes made origins part. replica_part nodes made origins c.in-Replica.replica c.restart.new.self c.restart.ensures.halves c.restart.ensures.stays (subst (IsPart nodes made origins) c.in-Replica.is part)

pub returns-in-Replica-clause-name : goal.returns-in-Replica-clause-name
returns-in-Replica-clause-name g c = ap (λ (p : Proposer). p.at) c.restart.ensures.stays.proposer ∙ sym (ap name_of c.in-Replica.is)

pub returns-in-Replica-clause-disks : goal.returns-in-Replica-clause-disks
returns-in-Replica-clause-disks g c = λ tells.
    let whole = subst IsWhole c.in-Replica.is c.requires.whole in
    sync_only (g.R.Rack.state c.args.rack.now) (g.R.Rack.state c.restart.new.rack) (name_of c.args.self.now) c.in-Replica.replica.acceptor.replica (ap name_of c.in-Replica.is ∙ whole.at) (c.restart.ensures.disks tells).keeps

pub returns-in-Replica-clause-members : goal.returns-in-Replica-clause-members
returns-in-Replica-clause-members g c = λ tells.
    let keeps = (c.restart.ensures.disks tells).keeps in
    let x = g.R.Rack.state c.args.rack.now in
    let y = g.R.Rack.state c.restart.new.rack in
    let n = c.in-Replica.replica.acceptor.replica in
    (sync_members x y n keeps, sync_labels x y n keeps)

pub returns-in-Replica-clause-keeps : goal.returns-in-Replica-clause-keeps
returns-in-Replica-clause-keeps g c = λ v past courses tells of few nodes above fits.
    let rack = c.args.rack.now in
    let k = c.in-Replica.replica in
    let whole = subst IsWhole c.in-Replica.is c.requires.whole in
    let named : name_of c.args.self.now ≡ OfReplica k.acceptor.replica = ap name_of c.in-Replica.is ∙ whole.at in
    let did = c.restart.ensures.keeps v past courses tells (subst (IsOf v) c.in-Replica.is of) few (subst (λ (m : Machine). v.nodes ≡ (proposer_of m).nodes) c.in-Replica.is nodes) (subst (λ (a : Actor). past.boots a < c.args.boot) named above) fits in
    subst (λ (a : Actor). OnOk c.restart.result (Turned (proposer_of c.args.self.now).actor c.restart.new.self.proposer.course v.courses courses → Fits (going v courses) (g.R.Rack.state c.restart.new.rack) (register_with (register_restarted past a c.args.boot) c.restart.new.out))) (sym named)
    (subst (λ (m : Machine). OnOk c.restart.result (Turned (proposer_of m).actor c.restart.new.self.proposer.course v.courses courses → Fits (going v courses) (g.R.Rack.state c.restart.new.rack) (register_with (register_restarted past (OfReplica k.acceptor.replica) c.args.boot) c.restart.new.out))) (sym c.in-Replica.is) did)

pub returns-in-Replica-clause-keeps_faulted : goal.returns-in-Replica-clause-keeps_faulted
returns-in-Replica-clause-keeps_faulted g c = λ v past tells above fits fault.
    let k = c.in-Replica.replica in
    let whole = subst IsWhole c.in-Replica.is c.requires.whole in
    let named : name_of c.args.self.now ≡ OfReplica k.acceptor.replica = ap name_of c.in-Replica.is ∙ whole.at in
    subst (λ (a : Actor). Fits v (g.R.Rack.state c.restart.new.rack) (register_with (register_failed past a c.args.boot) c.args.out.now)) (sym named)
    (c.restart.ensures.keeps_faulted v past tells (subst (λ (a : Actor). past.boots a < c.args.boot) named above) fits fault)

pub returns-in-Replica-clause-places : goal.returns-in-Replica-clause-places
returns-in-Replica-clause-places g c = λ v past tells of fits. c.restart.ensures.known v past tells (subst (IsOf v) c.in-Replica.is of) fits

pub returns-in_ok-restart-in-Other-clause-part : goal.returns-in_ok-restart-in-Other-clause-part
returns-in_ok-restart-in-Other-clause-part g c = λ nodes made origins part. other_part nodes made origins c.in-Other.proposer c.restart-in-Other.new.self c.restart-in-Other.ensures.standing c.restart-in-Other.ensures.stays (subst (IsPart nodes made origins) c.in-Other.is part)

pub returns-in_err-restart-in-Other-clause-part : goal.returns-in_err-restart-in-Other-clause-part
returns-in_err-restart-in-Other-clause-part g c = λ nodes made origins part. other_part nodes made origins c.in-Other.proposer c.restart-in-Other.new.self c.restart-in-Other.ensures.standing c.restart-in-Other.ensures.stays (subst (IsPart nodes made origins) c.in-Other.is part)
