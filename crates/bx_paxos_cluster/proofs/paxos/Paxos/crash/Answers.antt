use Rattle.std.proofs.lemmas.Bool.{false≢true}
use Rattle.bx_facts.specs.Pasts.{register_crashed}
use Rattle.std.proofs.Common.{◌≡◌, Some, sym, ap, subst, ◌∙◌, arith}
use Rattle.std.specs.Prelude.{IsSome, slice_set}
use Rattle.bx_base.specs.declared.names.Actor.{Actor}
use Rattle.bx_facts.specs.Disks.{NeedsNoMore}
use Rattle.bx_facts.specs.Machines.{IsMachine, OnlyFactsAt}
use Rattle.bx_rounds.specs.declared.course.Course.{Course}
use Rattle.bx_paxos_machines.specs.Cluster.{Cluster, OnlyMachine, is_busy, knows, needs}
use Rattle.bx_paxos_machines.specs.Keeps.{Keeps}
use Rattle.bx_paxos_machines.specs.Parts.{course_of, machine_at}
use Rattle.bx_paxos_machines.proofs.Needs.{needs_down}
use Rattle.bx_paxos_machines.proofs.Keeping.{needs_less, none_has}
use Rattle.bx_paxos_machines.proofs.Steps.{busy_only, crash_keeps, is_out, is_part, known_stays, nobody_busy, nobody_keeps, nobody_needs, not_out, only_one, stands_at, steps, with_machines, within}
use Rattle.bx_paxos_cluster.proofs.paxos.Paxos.crash.Goals as goal

pub index_mut-requires : goal.index_mut-requires
index_mut-requires c =
    let g : Cluster = record { nodes = c.self.inside.nodes; made = c.self.inside.made; first = c.self.inside.first; origins = c.self.inside.origins; machines = c.self.inside.machines.items } in
    let there : IsMachine g.nodes c.args.who = subst (λ (k : Cluster). IsMachine k.nodes c.args.who) (sym c.self.view_is) (c.has.ensures.0 c.if-not-has.false) in
    let less = within g c.args.who c.place_of-place.result c.self.invariant there c.place_of-place.ensures in
    omega (arith, less)

pub crash-requires : goal.crash-requires
crash-requires c =
    let g : Cluster = record { nodes = c.self.inside.nodes; made = c.self.inside.made; first = c.self.inside.first; origins = c.self.inside.origins; machines = c.self.inside.machines.items } in
    let there : IsMachine g.nodes c.args.who = subst (λ (k : Cluster). IsMachine k.nodes c.args.who) (sym c.self.view_is) (c.has.ensures.0 c.if-not-has.false) in
    let m = c.index_mut.result.now in
    let at = stands_at g c.args.who c.place_of-place.result m c.self.invariant there c.place_of-place.ensures c.index_mut.ensures.value in
    let whole = (is_part g c.args.who c.place_of-place.result m c.self.invariant there c.place_of-place.ensures c.index_mut.ensures.value).whole in
    record { whole = whole }

pub invariant_of-self : goal.invariant_of-self
invariant_of-self c =
    let g : Cluster = record { nodes = c.self.inside.nodes; made = c.self.inside.made; first = c.self.inside.first; origins = c.self.inside.origins; machines = c.self.inside.machines.items } in
    let there : IsMachine g.nodes c.args.who = subst (λ (k : Cluster). IsMachine k.nodes c.args.who) (sym c.self.view_is) (c.has.ensures.0 c.if-not-has.false) in
    let m = c.index_mut.result.now in
    let v = c.crash.new.self in
    let did = c.crash.ensures in
    let ms = slice_set g.machines c.place_of-place.result v in
    let step = steps g c.args.who c.place_of-place.result m v c.self.invariant there c.place_of-place.ensures c.index_mut.ensures.value did.name did.part in
    step.cluster

pub returns-clause-keeps : goal.returns-clause-keeps
returns-clause-keeps c = λ x past keeps.
    let g : Cluster = record { nodes = c.self.inside.nodes; made = c.self.inside.made; first = c.self.inside.first; origins = c.self.inside.origins; machines = c.self.inside.machines.items } in
    let there : IsMachine g.nodes c.args.who = subst (λ (k : Cluster). IsMachine k.nodes c.args.who) (sym c.self.view_is) (c.has.ensures.0 c.if-not-has.false) in
    let m = c.index_mut.result.now in
    let v = c.crash.new.self in
    let did = c.crash.ensures in
    let ms = slice_set g.machines c.place_of-place.result v in
    let step = steps g c.args.who c.place_of-place.result m v c.self.invariant there c.place_of-place.ensures c.index_mut.ensures.value did.name did.part in
    crash_keeps g c.args.who m v ms x past step did.course did.down (none_has x v did.down) (λ place. did.places past place) (subst (λ (k : Cluster). Keeps k x past) (sym c.self.view_is) keeps)

pub returns-clause-others : goal.returns-clause-others
returns-clause-others c =
    let g : Cluster = record { nodes = c.self.inside.nodes; made = c.self.inside.made; first = c.self.inside.first; origins = c.self.inside.origins; machines = c.self.inside.machines.items } in
    let there : IsMachine g.nodes c.args.who = subst (λ (k : Cluster). IsMachine k.nodes c.args.who) (sym c.self.view_is) (c.has.ensures.0 c.if-not-has.false) in
    let m = c.index_mut.result.now in
    let v = c.crash.new.self in
    let did = c.crash.ensures in
    let ms = slice_set g.machines c.place_of-place.result v in
    let step = steps g c.args.who c.place_of-place.result m v c.self.invariant there c.place_of-place.ensures c.index_mut.ensures.value did.name did.part in
    subst (λ (k : Cluster). OnlyFactsAt c.args.who (is_busy k) (is_busy (with_machines g ms))) c.self.view_is (busy_only g c.args.who m v ms step)

pub returns-clause-idle : goal.returns-clause-idle
returns-clause-idle c = λ busy.
    let g : Cluster = record { nodes = c.self.inside.nodes; made = c.self.inside.made; first = c.self.inside.first; origins = c.self.inside.origins; machines = c.self.inside.machines.items } in
    let there : IsMachine g.nodes c.args.who = subst (λ (k : Cluster). IsMachine k.nodes c.args.who) (sym c.self.view_is) (c.has.ensures.0 c.if-not-has.false) in
    let m = c.index_mut.result.now in
    let v = c.crash.new.self in
    let did = c.crash.ensures in
    let ms = slice_set g.machines c.place_of-place.result v in
    let step = steps g c.args.who c.place_of-place.result m v c.self.invariant there c.place_of-place.ensures c.index_mut.ensures.value did.name did.part in
    let out : IsSome (course_of v).out = is_out (with_machines g ms) c.args.who v step.here busy in
    let none = ap (λ (k : Course). k.out) did.course in
    not_out (course_of v).out none out

pub returns-clause-knows : goal.returns-clause-knows
returns-clause-knows c = λ other.
    let g : Cluster = record { nodes = c.self.inside.nodes; made = c.self.inside.made; first = c.self.inside.first; origins = c.self.inside.origins; machines = c.self.inside.machines.items } in
    let there : IsMachine g.nodes c.args.who = subst (λ (k : Cluster). IsMachine k.nodes c.args.who) (sym c.self.view_is) (c.has.ensures.0 c.if-not-has.false) in
    let m = c.index_mut.result.now in
    let v = c.crash.new.self in
    let did = c.crash.ensures in
    let ms = slice_set g.machines c.place_of-place.result v in
    let step = steps g c.args.who c.place_of-place.result m v c.self.invariant there c.place_of-place.ensures c.index_mut.ensures.value did.name did.part in
    subst (λ (k : Cluster). knows (with_machines g ms) other ≡ knows k other) c.self.view_is (known_stays g c.args.who m v ms step (ap (λ (k : Course). k.known) did.course) other)

pub returns-clause-needs : goal.returns-clause-needs
returns-clause-needs c =
    let g : Cluster = record { nodes = c.self.inside.nodes; made = c.self.inside.made; first = c.self.inside.first; origins = c.self.inside.origins; machines = c.self.inside.machines.items } in
    let there : IsMachine g.nodes c.args.who = subst (λ (k : Cluster). IsMachine k.nodes c.args.who) (sym c.self.view_is) (c.has.ensures.0 c.if-not-has.false) in
    let m = c.index_mut.result.now in
    let v = c.crash.new.self in
    let did = c.crash.ensures in
    let ms = slice_set g.machines c.place_of-place.result v in
    let step = steps g c.args.who c.place_of-place.result m v c.self.invariant there c.place_of-place.ensures c.index_mut.ensures.value did.name did.part in
    subst (λ (k : Cluster). NeedsNoMore (needs k) (needs (with_machines g ms))) c.self.view_is (needs_less g ms c.args.who m v step.at step.here step.beside (λ none. did.down))

pub returns-then-not-has-clause-keeps : goal.returns-then-not-has-clause-keeps
returns-then-not-has-clause-keeps c = λ x past keeps.
    let g : Cluster = record { nodes = c.self.inside.nodes; made = c.self.inside.made; first = c.self.inside.first; origins = c.self.inside.origins; machines = c.self.inside.machines.items } in
    let nobody : IsMachine g.nodes c.args.who → ⊥ = λ there. false≢true (sym c.if-not-has.true ∙ c.has.ensures.1 (subst (λ (k : Cluster). IsMachine k.nodes c.args.who) c.self.view_is there)) in
    subst (λ (k : Cluster). Keeps k x (register_crashed past c.args.who)) c.self.view_is (nobody_keeps g c.args.who x past c.self.invariant nobody (subst (λ (k : Cluster). Keeps k x past) (sym c.self.view_is) keeps))

pub returns-then-not-has-clause-idle : goal.returns-then-not-has-clause-idle
returns-then-not-has-clause-idle c = λ busy.
    let g : Cluster = record { nodes = c.self.inside.nodes; made = c.self.inside.made; first = c.self.inside.first; origins = c.self.inside.origins; machines = c.self.inside.machines.items } in
    let nobody : IsMachine g.nodes c.args.who → ⊥ = λ there. false≢true (sym c.if-not-has.true ∙ c.has.ensures.1 (subst (λ (k : Cluster). IsMachine k.nodes c.args.who) c.self.view_is there)) in
    nobody_busy g c.args.who c.self.invariant nobody (subst (λ (k : Cluster). is_busy k c.args.who) (sym c.self.view_is) busy)

pub returns-clause-only : goal.returns-clause-only
returns-clause-only c =
    let g : Cluster = record { nodes = c.self.inside.nodes; made = c.self.inside.made; first = c.self.inside.first; origins = c.self.inside.origins; machines = c.self.inside.machines.items } in
    let there : IsMachine g.nodes c.args.who = subst (λ (k : Cluster). IsMachine k.nodes c.args.who) (sym c.self.view_is) (c.has.ensures.0 c.if-not-has.false) in
    let m = c.index_mut.result.now in
    let v = c.crash.new.self in
    let did = c.crash.ensures in
    let ms = slice_set g.machines c.place_of-place.result v in
    let step = steps g c.args.who c.place_of-place.result m v c.self.invariant there c.place_of-place.ensures c.index_mut.ensures.value did.name did.part in
    subst (λ (k : Cluster). OnlyMachine c.args.who k (with_machines g ms)) c.self.view_is (only_one g c.args.who m v ms step)

pub returns-clause-down : goal.returns-clause-down
returns-clause-down c = λ n named.
    let g : Cluster = record { nodes = c.self.inside.nodes; made = c.self.inside.made; first = c.self.inside.first; origins = c.self.inside.origins; machines = c.self.inside.machines.items } in
    let there : IsMachine g.nodes c.args.who = subst (λ (k : Cluster). IsMachine k.nodes c.args.who) (sym c.self.view_is) (c.has.ensures.0 c.if-not-has.false) in
    let m = c.index_mut.result.now in
    let v = c.crash.new.self in
    let did = c.crash.ensures in
    let ms = slice_set g.machines c.place_of-place.result v in
    let step = steps g c.args.who c.place_of-place.result m v c.self.invariant there c.place_of-place.ensures c.index_mut.ensures.value did.name did.part in
    needs_down (with_machines g ms) n v (subst (λ (a : Actor). machine_at ms a ≡ Some v) named step.here) did.down

pub returns-then-not-has-clause-down : goal.returns-then-not-has-clause-down
returns-then-not-has-clause-down c = λ n named.
    let g : Cluster = record { nodes = c.self.inside.nodes; made = c.self.inside.made; first = c.self.inside.first; origins = c.self.inside.origins; machines = c.self.inside.machines.items } in
    let nobody : IsMachine g.nodes c.args.who → ⊥ = λ there. false≢true (sym c.if-not-has.true ∙ c.has.ensures.1 (subst (λ (k : Cluster). IsMachine k.nodes c.args.who) c.self.view_is there)) in
    subst (λ (k : Cluster). needs k n ≡ 0) c.self.view_is (nobody_needs g c.args.who n nobody named)
