use Rattle.std.proofs.Common.{◌≡◌, ◌≤◌, OnOk, sym, ap, subst, ◌∙◌, arith}
use Rattle.std.specs.Prelude.{slice_set}
use Rattle.std.proofs.lemmas.Result.{on_ok_weaker}
use Rattle.bx_base.specs.declared.names.Actor.{Actor}
use Rattle.bx_calls.specs.Calls.{LeavesOnly}
use Rattle.bx_facts.specs.Chains.{IsNext, last}
use Rattle.bx_facts.specs.Disks.{HasRoom, NeedsNoMore, OnlyDiskOf, ReadsOnly}
use Rattle.bx_facts.specs.Machines.{IsMachine, OnlyAt, OnlyFactsAt}
use Rattle.bx_facts.specs.Pasts.{register_with}
use Rattle.bx_global.specs.declared.state.GlobalState.{GlobalState}
use Rattle.bx_paxos_machines.specs.bx_paxos.specs.Reading.{ReadsState}
use Rattle.bx_paxos_machines.specs.Cluster.{Cluster, Moves, OnlyMachine, is_busy, knows, needs, voters_of}
use Rattle.bx_paxos_machines.specs.Keeps.{Keeps}
use Rattle.bx_paxos_machines.specs.Parts.{KnowsNoLess, MachineTakes}
use Rattle.bx_paxos_machines.specs.declared.machine.Machine.{Machine}
use Rattle.bx_paxos_machines.proofs.Keeping.{needs_less, room_for}
use Rattle.bx_paxos_machines.proofs.Others.{all_ok}
use Rattle.bx_paxos_machines.proofs.Places.{name_at}
use Rattle.bx_paxos_machines.proofs.Steps.{busy_is, busy_only, faults_keep, is_out, is_part, known_only, known_rises, knows_it, moves, only_one, stands_at, steps, takes_keeps, with_machines, within}
use Rattle.bx_paxos_machines.proofs.Telling.{moments_made}
use Rattle.bx_paxos_machines.proofs.Voting.{part_of, turned_part}
use Rattle.bx_paxos_cluster.proofs.paxos.Paxos.take.Goals as goal

pub index_mut-requires : goal.index_mut-requires
index_mut-requires r c =
    let g : Cluster = record { nodes = c.self.inside.nodes; made = c.self.inside.made; first = c.self.inside.first; origins = c.self.inside.origins; machines = c.self.inside.machines.items } in
    let there : IsMachine g.nodes c.args.at = subst (λ (k : Cluster). IsMachine k.nodes c.args.at) (sym c.self.view_is) c.requires.there in
    let less = within g c.args.at c.place_of-place.result c.self.invariant there c.place_of-place.ensures in
    omega (arith, less)

pub take-requires : goal.take-requires
take-requires r c =
    let g : Cluster = record { nodes = c.self.inside.nodes; made = c.self.inside.made; first = c.self.inside.first; origins = c.self.inside.origins; machines = c.self.inside.machines.items } in
    let there : IsMachine g.nodes c.args.at = subst (λ (k : Cluster). IsMachine k.nodes c.args.at) (sym c.self.view_is) c.requires.there in
    let m = c.index_mut.result.now in
    let at = stands_at g c.args.at c.place_of-place.result m c.self.invariant there c.place_of-place.ensures c.index_mut.ensures.value in
    let whole = (is_part g c.args.at c.place_of-place.result m c.self.invariant there c.place_of-place.ensures c.index_mut.ensures.value).whole in
    record { whole = whole; room = room_for g c.args.at m _ whole at (subst (λ (k : Cluster). HasRoom (needs k) (r.R.Rack.state c.args.rack.now).sizes) (sym c.self.view_is) c.requires.room) }

pub invariant_of-self : goal.invariant_of-self
invariant_of-self r c =
    let g : Cluster = record { nodes = c.self.inside.nodes; made = c.self.inside.made; first = c.self.inside.first; origins = c.self.inside.origins; machines = c.self.inside.machines.items } in
    let there : IsMachine g.nodes c.args.at = subst (λ (k : Cluster). IsMachine k.nodes c.args.at) (sym c.self.view_is) c.requires.there in
    let m = c.index_mut.result.now in
    let v = c.take.new.self in
    let did = c.take.ensures in
    let ms = slice_set g.machines c.place_of-place.result v in
    let step = steps g c.args.at c.place_of-place.result m v c.self.invariant there c.place_of-place.ensures c.index_mut.ensures.value did.name did.part in
    step.cluster

pub returns-clause-keeps : goal.returns-clause-keeps
returns-clause-keeps r c = λ past tells keeps may.
    let g : Cluster = record { nodes = c.self.inside.nodes; made = c.self.inside.made; first = c.self.inside.first; origins = c.self.inside.origins; machines = c.self.inside.machines.items } in
    let there : IsMachine g.nodes c.args.at = subst (λ (k : Cluster). IsMachine k.nodes c.args.at) (sym c.self.view_is) c.requires.there in
    let m = c.index_mut.result.now in
    let v = c.take.new.self in
    let did = c.take.ensures in
    let ms = slice_set g.machines c.place_of-place.result v in
    let step = steps g c.args.at c.place_of-place.result m v c.self.invariant there c.place_of-place.ensures c.index_mut.ensures.value did.name did.part in
    let x = r.R.Rack.state c.args.rack.now in
    let y = r.R.Rack.state c.take.new.rack in
    let kept : Keeps g x (register_with past c.args.out.now) = subst (λ (k : Cluster). Keeps k x (register_with past c.args.out.now)) (sym c.self.view_is) keeps in
    let part = part_of g c.args.at m step.is step.at in
    let has = kept.cells c.args.at m step.at in
    let only = subst (λ (a : Actor). OnlyDiskOf a x y) (name_at g.machines c.args.at m step.at) (did.disks tells) in
    let place = did.places (voters_of g) past tells part has (kept.places c.args.at m step.at) may.comes kept.fits in
    all_ok c.take.result _ _ _ _ (did.keeps (voters_of g) past (voters_of (with_machines g ms)).courses tells part has (kept.places c.args.at m step.at) may.comes kept.fits) (did.cells tells has) (did.cells tells has)
    (λ decides cells again. takes_keeps g c.args.at m v ms x y past c.args.out.now c.take.new.out step only may.up kept cells place (decides (turned_part g ms c.args.at m v step.is there step.at step.here step.beside)))

pub returns-clause-keeps_faulted : goal.returns-clause-keeps_faulted
returns-clause-keeps_faulted r c = λ past tells keeps may fault.
    let g : Cluster = record { nodes = c.self.inside.nodes; made = c.self.inside.made; first = c.self.inside.first; origins = c.self.inside.origins; machines = c.self.inside.machines.items } in
    let there : IsMachine g.nodes c.args.at = subst (λ (k : Cluster). IsMachine k.nodes c.args.at) (sym c.self.view_is) c.requires.there in
    let m = c.index_mut.result.now in
    let v = c.take.new.self in
    let did = c.take.ensures in
    let ms = slice_set g.machines c.place_of-place.result v in
    let step = steps g c.args.at c.place_of-place.result m v c.self.invariant there c.place_of-place.ensures c.index_mut.ensures.value did.name did.part in
    let x = r.R.Rack.state c.args.rack.now in
    let y = r.R.Rack.state c.take.new.rack in
    let kept : Keeps g x (register_with past c.args.out.now) = subst (λ (k : Cluster). Keeps k x (register_with past c.args.out.now)) (sym c.self.view_is) keeps in
    let part = part_of g c.args.at m step.is step.at in
    let has = kept.cells c.args.at m step.at in
    let only = subst (λ (a : Actor). OnlyDiskOf a x y) (name_at g.machines c.args.at m step.at) (did.disks tells) in
    let place = did.places (voters_of g) past tells part has (kept.places c.args.at m step.at) may.comes kept.fits in
    let failed = did.fault fault in
    faults_keep g c.args.at m v ms x y past c.args.out.now step only kept failed.0 failed.1 place (did.keeps_faulted (voters_of g) past tells part has may.comes kept.fits fault)

pub returns-clause-any_moment : goal.returns-clause-any_moment
returns-clause-any_moment r c = λ past tells keeps may.
    let g : Cluster = record { nodes = c.self.inside.nodes; made = c.self.inside.made; first = c.self.inside.first; origins = c.self.inside.origins; machines = c.self.inside.machines.items } in
    let there : IsMachine g.nodes c.args.at = subst (λ (k : Cluster). IsMachine k.nodes c.args.at) (sym c.self.view_is) c.requires.there in
    let m = c.index_mut.result.now in
    let v = c.take.new.self in
    let did = c.take.ensures in
    let ms = slice_set g.machines c.place_of-place.result v in
    let step = steps g c.args.at c.place_of-place.result m v c.self.invariant there c.place_of-place.ensures c.index_mut.ensures.value did.name did.part in
    let x = r.R.Rack.state c.args.rack.now in
    let kept : Keeps g x (register_with past c.args.out.now) = subst (λ (k : Cluster). Keeps k x (register_with past c.args.out.now)) (sym c.self.view_is) keeps in
    subst (λ (k : Cluster). LeavesOnly (r.R.Rack.moment c.args.rack.now) (r.R.Rack.moment c.take.new.rack) (r.R.Rack.left_since c.args.rack.now) (r.R.Rack.left_since c.take.new.rack) (ReadsOnly (ReadsState k.made) x (IsNext past.proposed (last past.chain)))) c.self.view_is
    (moments_made g x _ _ _ _ _ step.is (did.any_moment (voters_of g) past tells (part_of g c.args.at m step.is step.at) (kept.cells c.args.at m step.at) may.comes kept.fits))

pub returns-clause-rises : goal.returns-clause-rises
returns-clause-rises r c = λ other.
    let g : Cluster = record { nodes = c.self.inside.nodes; made = c.self.inside.made; first = c.self.inside.first; origins = c.self.inside.origins; machines = c.self.inside.machines.items } in
    let there : IsMachine g.nodes c.args.at = subst (λ (k : Cluster). IsMachine k.nodes c.args.at) (sym c.self.view_is) c.requires.there in
    let m = c.index_mut.result.now in
    let v = c.take.new.self in
    let did = c.take.ensures in
    let ms = slice_set g.machines c.place_of-place.result v in
    let step = steps g c.args.at c.place_of-place.result m v c.self.invariant there c.place_of-place.ensures c.index_mut.ensures.value did.name did.part in
    subst (λ (k : Cluster). (knows k other).index ≤ (knows (with_machines g ms) other).index) c.self.view_is (known_rises g c.args.at m v ms step did.rises other)

pub returns-clause-knows : goal.returns-clause-knows
returns-clause-knows r c =
    let g : Cluster = record { nodes = c.self.inside.nodes; made = c.self.inside.made; first = c.self.inside.first; origins = c.self.inside.origins; machines = c.self.inside.machines.items } in
    let there : IsMachine g.nodes c.args.at = subst (λ (k : Cluster). IsMachine k.nodes c.args.at) (sym c.self.view_is) c.requires.there in
    let m = c.index_mut.result.now in
    let v = c.take.new.self in
    let did = c.take.ensures in
    let ms = slice_set g.machines c.place_of-place.result v in
    let step = steps g c.args.at c.place_of-place.result m v c.self.invariant there c.place_of-place.ensures c.index_mut.ensures.value did.name did.part in
    subst (λ (k : Cluster). OnlyAt c.args.at (knows k) (knows (with_machines g ms))) c.self.view_is (known_only g c.args.at m v ms step)

pub returns-clause-others : goal.returns-clause-others
returns-clause-others r c =
    let g : Cluster = record { nodes = c.self.inside.nodes; made = c.self.inside.made; first = c.self.inside.first; origins = c.self.inside.origins; machines = c.self.inside.machines.items } in
    let there : IsMachine g.nodes c.args.at = subst (λ (k : Cluster). IsMachine k.nodes c.args.at) (sym c.self.view_is) c.requires.there in
    let m = c.index_mut.result.now in
    let v = c.take.new.self in
    let did = c.take.ensures in
    let ms = slice_set g.machines c.place_of-place.result v in
    let step = steps g c.args.at c.place_of-place.result m v c.self.invariant there c.place_of-place.ensures c.index_mut.ensures.value did.name did.part in
    subst (λ (k : Cluster). OnlyFactsAt c.args.at (is_busy k) (is_busy (with_machines g ms))) c.self.view_is (busy_only g c.args.at m v ms step)

pub returns-clause-still_busy : goal.returns-clause-still_busy
returns-clause-still_busy r c =
    let g : Cluster = record { nodes = c.self.inside.nodes; made = c.self.inside.made; first = c.self.inside.first; origins = c.self.inside.origins; machines = c.self.inside.machines.items } in
    let there : IsMachine g.nodes c.args.at = subst (λ (k : Cluster). IsMachine k.nodes c.args.at) (sym c.self.view_is) c.requires.there in
    let m = c.index_mut.result.now in
    let v = c.take.new.self in
    let did = c.take.ensures in
    let ms = slice_set g.machines c.place_of-place.result v in
    let step = steps g c.args.at c.place_of-place.result m v c.self.invariant there c.place_of-place.ensures c.index_mut.ensures.value did.name did.part in
    subst (λ (k : Cluster). is_busy k c.args.at → (knows (with_machines g ms) c.args.at).index ≡ (knows k c.args.at).index → OnOk c.take.result (is_busy (with_machines g ms) c.args.at)) c.self.view_is
    (λ busy level. on_ok_weaker c.take.result (λ leads. busy_is (with_machines g ms) c.args.at v step.here (leads.still (is_out g c.args.at m step.at busy)
    (ap (λ (s : GlobalState). s.index) (knows_it (with_machines g ms) c.args.at v step.here) ∙ level ∙ sym (ap (λ (s : GlobalState). s.index) (knows_it g c.args.at m step.at))))) did.leads)

pub returns-clause-was_busy : goal.returns-clause-was_busy
returns-clause-was_busy r c =
    let g : Cluster = record { nodes = c.self.inside.nodes; made = c.self.inside.made; first = c.self.inside.first; origins = c.self.inside.origins; machines = c.self.inside.machines.items } in
    let there : IsMachine g.nodes c.args.at = subst (λ (k : Cluster). IsMachine k.nodes c.args.at) (sym c.self.view_is) c.requires.there in
    let m = c.index_mut.result.now in
    let v = c.take.new.self in
    let did = c.take.ensures in
    let ms = slice_set g.machines c.place_of-place.result v in
    let step = steps g c.args.at c.place_of-place.result m v c.self.invariant there c.place_of-place.ensures c.index_mut.ensures.value did.name did.part in
    subst (λ (k : Cluster). OnOk c.take.result (is_busy (with_machines g ms) c.args.at → is_busy k c.args.at × ((knows (with_machines g ms) c.args.at).index ≡ (knows k c.args.at).index))) c.self.view_is
    (on_ok_weaker c.take.result (λ leads busy. let was = leads.was (is_out (with_machines g ms) c.args.at v step.here busy) in
    (busy_is g c.args.at m step.at was.0, sym (ap (λ (s : GlobalState). s.index) (knows_it (with_machines g ms) c.args.at v step.here)) ∙ was.1 ∙ ap (λ (s : GlobalState). s.index) (knows_it g c.args.at m step.at))) did.leads)

pub returns-clause-needs : goal.returns-clause-needs
returns-clause-needs r c =
    let g : Cluster = record { nodes = c.self.inside.nodes; made = c.self.inside.made; first = c.self.inside.first; origins = c.self.inside.origins; machines = c.self.inside.machines.items } in
    let there : IsMachine g.nodes c.args.at = subst (λ (k : Cluster). IsMachine k.nodes c.args.at) (sym c.self.view_is) c.requires.there in
    let m = c.index_mut.result.now in
    let v = c.take.new.self in
    let did = c.take.ensures in
    let ms = slice_set g.machines c.place_of-place.result v in
    let step = steps g c.args.at c.place_of-place.result m v c.self.invariant there c.place_of-place.ensures c.index_mut.ensures.value did.name did.part in
    subst (λ (k : Cluster). NeedsNoMore (needs k) (needs (with_machines g ms))) c.self.view_is (needs_less g ms c.args.at m v step.at step.here step.beside did.down)

pub returns-clause-disks : goal.returns-clause-disks
returns-clause-disks r c = λ tells.
    let g : Cluster = record { nodes = c.self.inside.nodes; made = c.self.inside.made; first = c.self.inside.first; origins = c.self.inside.origins; machines = c.self.inside.machines.items } in
    let there : IsMachine g.nodes c.args.at = subst (λ (k : Cluster). IsMachine k.nodes c.args.at) (sym c.self.view_is) c.requires.there in
    let m = c.index_mut.result.now in
    let v = c.take.new.self in
    let did = c.take.ensures in
    let ms = slice_set g.machines c.place_of-place.result v in
    let step = steps g c.args.at c.place_of-place.result m v c.self.invariant there c.place_of-place.ensures c.index_mut.ensures.value did.name did.part in
    subst (λ (a : Actor). OnlyDiskOf a (r.R.Rack.state c.args.rack.now) (r.R.Rack.state c.take.new.rack)) (name_at g.machines c.args.at m step.at) (did.disks tells)

pub returns-clause-only : goal.returns-clause-only
returns-clause-only r c =
    let g : Cluster = record { nodes = c.self.inside.nodes; made = c.self.inside.made; first = c.self.inside.first; origins = c.self.inside.origins; machines = c.self.inside.machines.items } in
    let there : IsMachine g.nodes c.args.at = subst (λ (k : Cluster). IsMachine k.nodes c.args.at) (sym c.self.view_is) c.requires.there in
    let m = c.index_mut.result.now in
    let v = c.take.new.self in
    let did = c.take.ensures in
    let ms = slice_set g.machines c.place_of-place.result v in
    let step = steps g c.args.at c.place_of-place.result m v c.self.invariant there c.place_of-place.ensures c.index_mut.ensures.value did.name did.part in
    subst (λ (k : Cluster). OnlyMachine c.args.at k (with_machines g ms)) c.self.view_is (only_one g c.args.at m v ms step)

pub returns-clause-steps : goal.returns-clause-steps
returns-clause-steps r c =
    let g : Cluster = record { nodes = c.self.inside.nodes; made = c.self.inside.made; first = c.self.inside.first; origins = c.self.inside.origins; machines = c.self.inside.machines.items } in
    let there : IsMachine g.nodes c.args.at = subst (λ (k : Cluster). IsMachine k.nodes c.args.at) (sym c.self.view_is) c.requires.there in
    let m = c.index_mut.result.now in
    let v = c.take.new.self in
    let did = c.take.ensures in
    let ms = slice_set g.machines c.place_of-place.result v in
    let step = steps g c.args.at c.place_of-place.result m v c.self.invariant there c.place_of-place.ensures c.index_mut.ensures.value did.name did.part in
    let Goes : Machine → Machine → Type 0 = λ m new. MachineTakes m c.args.input.now new c.args.out.now c.take.new.out (c.take.new.rack ≡ c.args.rack.now) × KnowsNoLess new in
    subst (λ (k : Cluster). OnOk c.take.result (Moves c.args.at Goes k (with_machines g ms))) c.self.view_is
    (all_ok c.take.result _ _ _ _ did.steps did.knows_all did.knows_all (λ does knows again. moves g c.args.at m v ms Goes step (does, knows)))
