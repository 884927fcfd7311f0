use Rattle.std.proofs.Common.{◌≡◌, ◌≤◌, None, OnOk, sym, ap, subst, ◌∙◌}
use Rattle.bx_facts.specs.Pasts.{Decides, register_with}
use Rattle.bx_paxos.proofs.Replicas.{proposer_takes}
use Rattle.bx_paxos.proofs.Sending.{proposer_sends}
use Rattle.bx_paxos.specs.Fits.{Fits, Turned, going}
use Rattle.bx_proposer.specs.Standing.{ProposerView as Proposer}
use Rattle.bx_rounds.specs.Courses.{LeadsOn}
use Rattle.bx_paxos_machines.specs.Parts.{HasCells, IsOf, IsPart, IsWhole, KnowsPlace, cell_of, course_of, name_of, proposer_of}
use Rattle.bx_paxos_machines.specs.declared.machine.Machine.{Machine}
use Rattle.bx_paxos_machines.proofs.Others.{other_part, put_labels, put_members, put_moments, put_only, quiet_moments, replica_part}
use Rattle.bx_paxos_machines.proofs.machine.Machine.take.Goals as goal

pub returns-in_err-take-in-Other-clause-any_moment : goal.returns-in_err-take-in-Other-clause-any_moment
returns-in_err-take-in-Other-clause-any_moment g c = λ v past tells of has comes fits.
    let rack = c.args.rack.now in
    quiet_moments v (g.R.Rack.state rack) past c.args.out.now (g.R.Rack.moment rack) (g.R.Rack.left_since rack) fits (λ image left. g.met.R.Rack.only_now rack image tells left)

pub returns-in-Replica-clause-any_moment : goal.returns-in-Replica-clause-any_moment
returns-in-Replica-clause-any_moment g c = λ v past tells of has comes fits.
    let rack = c.args.rack.now in
    let r = c.in-Replica.replica in
    let whole = subst IsWhole c.in-Replica.is c.requires.whole in
    let did = c.take.ensures in
    put_moments v (g.R.Rack.state rack) past r.acceptor.replica (g.R.Rack.moment rack) (g.R.Rack.moment c.take.new.rack) (g.R.Rack.left_since rack) (g.R.Rack.left_since c.take.new.rack) whole.low
    (did.any_moment v past tells (subst (IsOf v) c.in-Replica.is of) (subst (λ (m : Machine). HasCells m (g.R.Rack.state rack)) c.in-Replica.is has) comes fits) (did.disks tells).beside

pub returns-in-Replica-clause-places : goal.returns-in-Replica-clause-places
returns-in-Replica-clause-places g c = λ v past tells of has place comes fits.
    let rack = c.args.rack.now in
    c.take.ensures.known v past tells (subst (IsOf v) c.in-Replica.is of) (subst (λ (m : Machine). HasCells m (g.R.Rack.state rack)) c.in-Replica.is has) (subst (KnowsPlace past.chain) c.in-Replica.is place) comes fits

pub returns-in-Replica-clause-fault : goal.returns-in-Replica-clause-fault
returns-in-Replica-clause-fault g c = λ fault.
    let did = c.take.ensures.fault fault in
    (did.0, ap (λ p. p.course) did.1 ∙ sym (ap course_of c.in-Replica.is))

pub returns-in_ok-take-in-Other-clause-keeps : goal.returns-in_ok-take-in-Other-clause-keeps
returns-in_ok-take-in-Other-clause-keeps g c = λ v past courses tells of has place comes fits turned.
    let p = c.in-Other.proposer in
    let q = c.take-in-Other.new.self in
    let whole = subst IsWhole c.in-Other.is c.requires.whole in
    let o = subst (IsOf v) c.in-Other.is of in
    proposer_takes v (g.R.Rack.state c.args.rack.now) past p q c.args.input.now courses c.args.out.now c.take-in-Other.new.out o.0 whole.actor whole.actor_fits o.1 comes c.in_ok-take-in-Other.ensures.takes
    (subst (λ (m : Machine). Turned (proposer_of m).actor q.course v.courses courses) c.in-Other.is turned) fits

pub returns-in_ok-take-in-Other-clause-any_moment : goal.returns-in_ok-take-in-Other-clause-any_moment
returns-in_ok-take-in-Other-clause-any_moment g c = λ v past tells of has comes fits.
    let rack = c.args.rack.now in
    quiet_moments v (g.R.Rack.state rack) past c.args.out.now (g.R.Rack.moment rack) (g.R.Rack.left_since rack) fits (λ image left. g.met.R.Rack.only_now rack image tells left)

pub returns-in_ok-take-in-Other-clause-sent : goal.returns-in_ok-take-in-Other-clause-sent
returns-in_ok-take-in-Other-clause-sent g c = proposer_sends c.in-Other.proposer c.args.input.now c.take-in-Other.new.self c.args.out.now c.take-in-Other.new.out c.in_ok-take-in-Other.ensures.takes

pub returns-in-Replica-clause-keeps : goal.returns-in-Replica-clause-keeps
returns-in-Replica-clause-keeps g c = λ v past courses tells of has place comes fits.
    let rack = c.args.rack.now in
    subst (λ (m : Machine). OnOk c.take.result (Turned (proposer_of m).actor c.take.new.self.proposer.course v.courses courses → Decides (Fits (going v courses) (g.R.Rack.state c.take.new.rack)) c.take.new.self.proposer.course.known (register_with past c.take.new.out))) (sym c.in-Replica.is)
    (c.take.ensures.keeps v past courses tells (subst (IsOf v) c.in-Replica.is of) (subst (λ (m : Machine). HasCells m (g.R.Rack.state rack)) c.in-Replica.is has) (subst (KnowsPlace past.chain) c.in-Replica.is place) comes fits)

pub returns-in-Replica-clause-keeps_faulted : goal.returns-in-Replica-clause-keeps_faulted
returns-in-Replica-clause-keeps_faulted g c = λ v past tells of has comes fits fault.
    let rack = c.args.rack.now in
    (c.take.ensures.keeps_faulted v past tells (subst (IsOf v) c.in-Replica.is of) (subst (λ (m : Machine). HasCells m (g.R.Rack.state rack)) c.in-Replica.is has) comes fits fault).0

pub returns-in-Replica-clause-cells : goal.returns-in-Replica-clause-cells
returns-in-Replica-clause-cells g c = λ tells has. c.take.ensures.holds tells (subst (λ (m : Machine). HasCells m (g.R.Rack.state c.args.rack.now)) c.in-Replica.is has)

pub returns-in-Replica-clause-leads : goal.returns-in-Replica-clause-leads
returns-in-Replica-clause-leads g c = subst (λ (m : Machine). OnOk c.take.result (LeadsOn (course_of m) c.take.new.self.proposer.course)) (sym c.in-Replica.is) c.take.ensures.leads

pub returns-in-Replica-clause-rises : goal.returns-in-Replica-clause-rises
returns-in-Replica-clause-rises g c = subst (λ (m : Machine). (course_of m).known.index ≤ c.take.new.self.proposer.course.known.index) (sym c.in-Replica.is) c.take.ensures.rises

pub returns-in-Replica-clause-down : goal.returns-in-Replica-clause-down
returns-in-Replica-clause-down g c = λ none. c.take.ensures.down (subst (λ (m : Machine). cell_of m ≡ None) c.in-Replica.is none)

pub returns-in-Replica-clause-part : goal.returns-in-Replica-clause-part
returns-in-Replica-clause-part g c = λ nodes made origins part. replica_part nodes made origins c.in-Replica.replica c.take.new.self c.take.ensures.halves c.take.ensures.stays (subst (IsPart nodes made origins) c.in-Replica.is part)

pub returns-in-Replica-clause-name : goal.returns-in-Replica-clause-name
returns-in-Replica-clause-name g c = ap (λ (p : Proposer). p.at) c.take.ensures.stays.proposer ∙ sym (ap name_of c.in-Replica.is)

pub returns-in-Replica-clause-disks : goal.returns-in-Replica-clause-disks
returns-in-Replica-clause-disks g c = λ tells.
    let whole = subst IsWhole c.in-Replica.is c.requires.whole in
    put_only (g.R.Rack.state c.args.rack.now) (g.R.Rack.state c.take.new.rack) (name_of c.args.self.now) c.in-Replica.replica.acceptor.replica (ap name_of c.in-Replica.is ∙ whole.at) (c.take.ensures.disks tells).keeps

pub returns-in-Replica-clause-members : goal.returns-in-Replica-clause-members
returns-in-Replica-clause-members g c = λ tells.
    let whole = subst IsWhole c.in-Replica.is c.requires.whole in
    let keeps = (c.take.ensures.disks tells).keeps in
    let x = g.R.Rack.state c.args.rack.now in
    let y = g.R.Rack.state c.take.new.rack in
    let n = c.in-Replica.replica.acceptor.replica in
    (put_members x y n whole.low keeps, put_labels x y n keeps)

pub returns-in_ok-take-in-Other-clause-part : goal.returns-in_ok-take-in-Other-clause-part
returns-in_ok-take-in-Other-clause-part g c = λ nodes made origins part. other_part nodes made origins c.in-Other.proposer c.take-in-Other.new.self c.take-in-Other.ensures.standing c.take-in-Other.ensures.stays (subst (IsPart nodes made origins) c.in-Other.is part)

pub returns-in_err-take-in-Other-clause-part : goal.returns-in_err-take-in-Other-clause-part
returns-in_err-take-in-Other-clause-part g c = λ nodes made origins part. other_part nodes made origins c.in-Other.proposer c.take-in-Other.new.self c.take-in-Other.ensures.standing c.take-in-Other.ensures.stays (subst (IsPart nodes made origins) c.in-Other.is part)
