use Rattle.std.proofs.Common.{◌<◌, IfSome, OnOk, sym, subst, arith}
use Rattle.std.specs.Prelude.{slice_set}
use Rattle.std.proofs.lemmas.Result.{on_ok_weaker}
use Rattle.bx_acceptor.specs.Starting.{StartsWith}
use Rattle.bx_base.specs.declared.names.Actor.{Actor}
use Rattle.bx_calls.specs.Calls.{LeavesOnly}
use Rattle.bx_facts.specs.Chains.{IsNext, last}
use Rattle.bx_facts.specs.Disks.{NeedsAt, OnlyDiskOf, ReadsOnly}
use Rattle.bx_facts.specs.Machines.{IsMachine, OnlyAt, OnlyFactsAt}
use Rattle.bx_facts.specs.Pasts.{register_failed, register_restarted, register_with}
use Rattle.bx_paxos_machines.specs.bx_paxos.specs.Fits.{Fits, Turned, going}
use Rattle.bx_paxos_machines.specs.bx_paxos.specs.Reading.{ReadsState}
use Rattle.bx_paxos_machines.specs.Cluster.{Cluster, Moves, OnlyMachine, is_busy, knows, needs, voters_of}
use Rattle.bx_paxos_machines.specs.Keeps.{Keeps}
use Rattle.bx_paxos_machines.specs.Parts.{KnowsNoLess, MachineStarts, acceptor_of, course_of, proposer_of}
use Rattle.bx_paxos_machines.specs.declared.machine.Machine.{Machine}
use Rattle.bx_paxos_machines.proofs.Keeping.{disk_for, needs_own}
use Rattle.bx_paxos_machines.proofs.Others.{all_ok}
use Rattle.bx_paxos_machines.proofs.Places.{name_at}
use Rattle.bx_paxos_machines.proofs.Steps.{busy_only, is_out, is_part, known_only, moves, only_one, stands_at, start_fails, starts_keeps, steps, with_machines, within}
use Rattle.bx_paxos_machines.proofs.Telling.{moments_made}
use Rattle.bx_paxos_machines.proofs.Voting.{part_of, turned_part}
use Rattle.bx_paxos_cluster.proofs.paxos.Paxos.restart.Goals as goal

pub index_mut-requires : goal.index_mut-requires
index_mut-requires r c =
    let g : Cluster = record { nodes = c.self.inside.nodes; made = c.self.inside.made; first = c.self.inside.first; origins = c.self.inside.origins; machines = c.self.inside.machines.items } in
    let there : IsMachine g.nodes c.args.who = subst (λ (k : Cluster). IsMachine k.nodes c.args.who) (sym c.self.view_is) c.requires.there in
    let less = within g c.args.who c.place_of-place.result c.self.invariant there c.place_of-place.ensures in
    omega (arith, less)

pub restart-requires : goal.restart-requires
restart-requires r c =
    let g : Cluster = record { nodes = c.self.inside.nodes; made = c.self.inside.made; first = c.self.inside.first; origins = c.self.inside.origins; machines = c.self.inside.machines.items } in
    let there : IsMachine g.nodes c.args.who = subst (λ (k : Cluster). IsMachine k.nodes c.args.who) (sym c.self.view_is) c.requires.there in
    let m = c.index_mut.result.now in
    let at = stands_at g c.args.who c.place_of-place.result m c.self.invariant there c.place_of-place.ensures c.index_mut.ensures.value in
    let whole = (is_part g c.args.who c.place_of-place.result m c.self.invariant there c.place_of-place.ensures c.index_mut.ensures.value).whole in
    record { whole = whole; room = disk_for g c.args.who m _ whole at c.requires.disk }

pub invariant_of-self : goal.invariant_of-self
invariant_of-self r c =
    let g : Cluster = record { nodes = c.self.inside.nodes; made = c.self.inside.made; first = c.self.inside.first; origins = c.self.inside.origins; machines = c.self.inside.machines.items } in
    let there : IsMachine g.nodes c.args.who = subst (λ (k : Cluster). IsMachine k.nodes c.args.who) (sym c.self.view_is) c.requires.there in
    let m = c.index_mut.result.now in
    let v = c.restart.new.self in
    let did = c.restart.ensures in
    let ms = slice_set g.machines c.place_of-place.result v in
    let step = steps g c.args.who c.place_of-place.result m v c.self.invariant there c.place_of-place.ensures c.index_mut.ensures.value did.name did.part in
    step.cluster

pub returns-clause-keeps : goal.returns-clause-keeps
returns-clause-keeps r c = λ past tells keeps above.
    let g : Cluster = record { nodes = c.self.inside.nodes; made = c.self.inside.made; first = c.self.inside.first; origins = c.self.inside.origins; machines = c.self.inside.machines.items } in
    let there : IsMachine g.nodes c.args.who = subst (λ (k : Cluster). IsMachine k.nodes c.args.who) (sym c.self.view_is) c.requires.there in
    let m = c.index_mut.result.now in
    let v = c.restart.new.self in
    let did = c.restart.ensures in
    let ms = slice_set g.machines c.place_of-place.result v in
    let step = steps g c.args.who c.place_of-place.result m v c.self.invariant there c.place_of-place.ensures c.index_mut.ensures.value did.name did.part in
    let x = r.R.Rack.state c.args.rack.now in
    let y = r.R.Rack.state c.restart.new.rack in
    let kept : Keeps g x (register_with past c.args.out.now) = subst (λ (k : Cluster). Keeps k x (register_with past c.args.out.now)) (sym c.self.view_is) keeps in
    let part = part_of g c.args.who m step.is step.at in
    let named = name_at g.machines c.args.who m step.at in
    let only = subst (λ (a : Actor). OnlyDiskOf a x y) named (did.disks tells) in
    let nodes = sym (is_part g c.args.who c.place_of-place.result m c.self.invariant there c.place_of-place.ensures c.index_mut.ensures.value).nodes_are in
    let fits = subst (λ (a : Actor). past.boots a < c.args.boot → OnOk c.restart.result (Turned (proposer_of m).actor (course_of v) (voters_of g).courses (voters_of (with_machines g ms)).courses → Fits (going (voters_of g) (voters_of (with_machines g ms)).courses) y (register_with (register_restarted past a c.args.boot) c.restart.new.out))) named
    (λ higher. did.keeps (voters_of g) past (voters_of (with_machines g ms)).courses tells part step.is.few nodes higher kept.fits) above in
    all_ok c.restart.result _ _ _ _ fits (did.cells tells) (did.places (voters_of g) past tells part kept.fits)
    (λ goes cells place. starts_keeps g c.args.who m v ms x y past c.args.boot c.args.out.now c.restart.new.out step only kept cells place (goes (turned_part g ms c.args.who m v step.is there step.at step.here step.beside)))

pub returns-clause-keeps_faulted : goal.returns-clause-keeps_faulted
returns-clause-keeps_faulted r c = λ past tells keeps above fault.
    let g : Cluster = record { nodes = c.self.inside.nodes; made = c.self.inside.made; first = c.self.inside.first; origins = c.self.inside.origins; machines = c.self.inside.machines.items } in
    let there : IsMachine g.nodes c.args.who = subst (λ (k : Cluster). IsMachine k.nodes c.args.who) (sym c.self.view_is) c.requires.there in
    let m = c.index_mut.result.now in
    let v = c.restart.new.self in
    let did = c.restart.ensures in
    let ms = slice_set g.machines c.place_of-place.result v in
    let step = steps g c.args.who c.place_of-place.result m v c.self.invariant there c.place_of-place.ensures c.index_mut.ensures.value did.name did.part in
    let x = r.R.Rack.state c.args.rack.now in
    let y = r.R.Rack.state c.restart.new.rack in
    let kept : Keeps g x (register_with past c.args.out.now) = subst (λ (k : Cluster). Keeps k x (register_with past c.args.out.now)) (sym c.self.view_is) keeps in
    let named = name_at g.machines c.args.who m step.at in
    let only = subst (λ (a : Actor). OnlyDiskOf a x y) named (did.disks tells) in
    let failed = did.fault fault in
    let fits = subst (λ (a : Actor). past.boots a < c.args.boot → Fits (voters_of g) y (register_with (register_failed past a c.args.boot) c.args.out.now)) named (λ higher. did.keeps_faulted (voters_of g) past tells higher kept.fits fault) above in
    start_fails g c.args.who m v ms x y past c.args.boot c.args.out.now step only kept failed.0 failed.1 (did.places_faulted past fault (kept.places c.args.who m step.at)) fits

pub returns-clause-any_moment : goal.returns-clause-any_moment
returns-clause-any_moment r c = λ past tells keeps.
    let g : Cluster = record { nodes = c.self.inside.nodes; made = c.self.inside.made; first = c.self.inside.first; origins = c.self.inside.origins; machines = c.self.inside.machines.items } in
    let there : IsMachine g.nodes c.args.who = subst (λ (k : Cluster). IsMachine k.nodes c.args.who) (sym c.self.view_is) c.requires.there in
    let m = c.index_mut.result.now in
    let v = c.restart.new.self in
    let did = c.restart.ensures in
    let ms = slice_set g.machines c.place_of-place.result v in
    let step = steps g c.args.who c.place_of-place.result m v c.self.invariant there c.place_of-place.ensures c.index_mut.ensures.value did.name did.part in
    let x = r.R.Rack.state c.args.rack.now in
    let kept : Keeps g x (register_with past c.args.out.now) = subst (λ (k : Cluster). Keeps k x (register_with past c.args.out.now)) (sym c.self.view_is) keeps in
    subst (λ (k : Cluster). LeavesOnly (r.R.Rack.moment c.args.rack.now) (r.R.Rack.moment c.restart.new.rack) (r.R.Rack.left_since c.args.rack.now) (r.R.Rack.left_since c.restart.new.rack) (ReadsOnly (ReadsState k.made) x (IsNext past.proposed (last past.chain)))) c.self.view_is
    (moments_made g x _ _ _ _ _ step.is (did.any_moment (voters_of g) past tells kept.fits))

pub returns-clause-knows : goal.returns-clause-knows
returns-clause-knows r c =
    let g : Cluster = record { nodes = c.self.inside.nodes; made = c.self.inside.made; first = c.self.inside.first; origins = c.self.inside.origins; machines = c.self.inside.machines.items } in
    let there : IsMachine g.nodes c.args.who = subst (λ (k : Cluster). IsMachine k.nodes c.args.who) (sym c.self.view_is) c.requires.there in
    let m = c.index_mut.result.now in
    let v = c.restart.new.self in
    let did = c.restart.ensures in
    let ms = slice_set g.machines c.place_of-place.result v in
    let step = steps g c.args.who c.place_of-place.result m v c.self.invariant there c.place_of-place.ensures c.index_mut.ensures.value did.name did.part in
    subst (λ (k : Cluster). OnlyAt c.args.who (knows k) (knows (with_machines g ms))) c.self.view_is (known_only g c.args.who m v ms step)

pub returns-clause-others : goal.returns-clause-others
returns-clause-others r c =
    let g : Cluster = record { nodes = c.self.inside.nodes; made = c.self.inside.made; first = c.self.inside.first; origins = c.self.inside.origins; machines = c.self.inside.machines.items } in
    let there : IsMachine g.nodes c.args.who = subst (λ (k : Cluster). IsMachine k.nodes c.args.who) (sym c.self.view_is) c.requires.there in
    let m = c.index_mut.result.now in
    let v = c.restart.new.self in
    let did = c.restart.ensures in
    let ms = slice_set g.machines c.place_of-place.result v in
    let step = steps g c.args.who c.place_of-place.result m v c.self.invariant there c.place_of-place.ensures c.index_mut.ensures.value did.name did.part in
    subst (λ (k : Cluster). OnlyFactsAt c.args.who (is_busy k) (is_busy (with_machines g ms))) c.self.view_is (busy_only g c.args.who m v ms step)

pub returns-clause-idle : goal.returns-clause-idle
returns-clause-idle r c =
    let g : Cluster = record { nodes = c.self.inside.nodes; made = c.self.inside.made; first = c.self.inside.first; origins = c.self.inside.origins; machines = c.self.inside.machines.items } in
    let there : IsMachine g.nodes c.args.who = subst (λ (k : Cluster). IsMachine k.nodes c.args.who) (sym c.self.view_is) c.requires.there in
    let m = c.index_mut.result.now in
    let v = c.restart.new.self in
    let did = c.restart.ensures in
    let ms = slice_set g.machines c.place_of-place.result v in
    let step = steps g c.args.who c.place_of-place.result m v c.self.invariant there c.place_of-place.ensures c.index_mut.ensures.value did.name did.part in
    on_ok_weaker c.restart.result (λ idle busy. idle (is_out (with_machines g ms) c.args.who v step.here busy)) did.idle

pub returns-clause-needs : goal.returns-clause-needs
returns-clause-needs r c =
    let g : Cluster = record { nodes = c.self.inside.nodes; made = c.self.inside.made; first = c.self.inside.first; origins = c.self.inside.origins; machines = c.self.inside.machines.items } in
    let there : IsMachine g.nodes c.args.who = subst (λ (k : Cluster). IsMachine k.nodes c.args.who) (sym c.self.view_is) c.requires.there in
    let m = c.index_mut.result.now in
    let v = c.restart.new.self in
    let did = c.restart.ensures in
    let ms = slice_set g.machines c.place_of-place.result v in
    let step = steps g c.args.who c.place_of-place.result m v c.self.invariant there c.place_of-place.ensures c.index_mut.ensures.value did.name did.part in
    subst (λ (k : Cluster). NeedsAt c.args.who 21 (needs k) (needs (with_machines g ms))) c.self.view_is (needs_own g ms c.args.who m v step.at step.here step.beside)

pub returns-clause-disks : goal.returns-clause-disks
returns-clause-disks r c = λ tells.
    let g : Cluster = record { nodes = c.self.inside.nodes; made = c.self.inside.made; first = c.self.inside.first; origins = c.self.inside.origins; machines = c.self.inside.machines.items } in
    let there : IsMachine g.nodes c.args.who = subst (λ (k : Cluster). IsMachine k.nodes c.args.who) (sym c.self.view_is) c.requires.there in
    let m = c.index_mut.result.now in
    let v = c.restart.new.self in
    let did = c.restart.ensures in
    let ms = slice_set g.machines c.place_of-place.result v in
    let step = steps g c.args.who c.place_of-place.result m v c.self.invariant there c.place_of-place.ensures c.index_mut.ensures.value did.name did.part in
    subst (λ (a : Actor). OnlyDiskOf a (r.R.Rack.state c.args.rack.now) (r.R.Rack.state c.restart.new.rack)) (name_at g.machines c.args.who m step.at) (did.disks tells)

pub returns-clause-only : goal.returns-clause-only
returns-clause-only r c =
    let g : Cluster = record { nodes = c.self.inside.nodes; made = c.self.inside.made; first = c.self.inside.first; origins = c.self.inside.origins; machines = c.self.inside.machines.items } in
    let there : IsMachine g.nodes c.args.who = subst (λ (k : Cluster). IsMachine k.nodes c.args.who) (sym c.self.view_is) c.requires.there in
    let m = c.index_mut.result.now in
    let v = c.restart.new.self in
    let did = c.restart.ensures in
    let ms = slice_set g.machines c.place_of-place.result v in
    let step = steps g c.args.who c.place_of-place.result m v c.self.invariant there c.place_of-place.ensures c.index_mut.ensures.value did.name did.part in
    subst (λ (k : Cluster). OnlyMachine c.args.who k (with_machines g ms)) c.self.view_is (only_one g c.args.who m v ms step)

pub returns-clause-restarts : goal.returns-clause-restarts
returns-clause-restarts r c =
    let g : Cluster = record { nodes = c.self.inside.nodes; made = c.self.inside.made; first = c.self.inside.first; origins = c.self.inside.origins; machines = c.self.inside.machines.items } in
    let there : IsMachine g.nodes c.args.who = subst (λ (k : Cluster). IsMachine k.nodes c.args.who) (sym c.self.view_is) c.requires.there in
    let m = c.index_mut.result.now in
    let v = c.restart.new.self in
    let did = c.restart.ensures in
    let ms = slice_set g.machines c.place_of-place.result v in
    let step = steps g c.args.who c.place_of-place.result m v c.self.invariant there c.place_of-place.ensures c.index_mut.ensures.value did.name did.part in
    let Goes : Machine → Machine → Type 0 = λ m new. MachineStarts m c.args.boot new c.args.out.now c.restart.new.out × KnowsNoLess new in
    subst (λ (k : Cluster). OnOk c.restart.result (Moves c.args.who Goes k (with_machines g ms))) c.self.view_is
    (all_ok c.restart.result _ _ _ _ did.restarts did.knows_all did.knows_all (λ does knows again. moves g c.args.who m v ms Goes step (does, knows)))

pub returns-clause-starts : goal.returns-clause-starts
returns-clause-starts r c = λ tells.
    let g : Cluster = record { nodes = c.self.inside.nodes; made = c.self.inside.made; first = c.self.inside.first; origins = c.self.inside.origins; machines = c.self.inside.machines.items } in
    let there : IsMachine g.nodes c.args.who = subst (λ (k : Cluster). IsMachine k.nodes c.args.who) (sym c.self.view_is) c.requires.there in
    let m = c.index_mut.result.now in
    let v = c.restart.new.self in
    let did = c.restart.ensures in
    let ms = slice_set g.machines c.place_of-place.result v in
    let step = steps g c.args.who c.place_of-place.result m v c.self.invariant there c.place_of-place.ensures c.index_mut.ensures.value did.name did.part in
    let x = r.R.Rack.state c.args.rack.now in
    let Goes : Machine → Machine → Type 0 = λ _ new. IfSome (acceptor_of new) (λ a. StartsWith a.replica a.first a.origin (x.reads a.replica) a.held a.cell) in
    subst (λ (k : Cluster). OnOk c.restart.result (Moves c.args.who Goes k (with_machines g ms))) c.self.view_is
    (on_ok_weaker c.restart.result (λ starts. moves g c.args.who m v ms Goes step starts) (did.starts tells))
