use Rattle.std.proofs.Common.{◌≡◌, OnOk, sym, ap, subst, ◌∙◌, arith}
use Rattle.std.specs.Prelude.{slice_set}
use Rattle.std.proofs.lemmas.Result.{on_ok_weaker}
use Rattle.bx_facts.specs.Disks.{NeedsNoMore}
use Rattle.bx_facts.specs.Machines.{IsMachine, OnlyFactsAt}
use Rattle.bx_facts.specs.Pasts.{register_with}
use Rattle.bx_global.specs.Table.{IsLegal}
use Rattle.bx_global.specs.declared.state.GlobalState.{GlobalState}
use Rattle.bx_paxos_machines.specs.Cluster.{Cluster, Moves, OnlyMachine, is_busy, knows, needs, voters_of}
use Rattle.bx_paxos_machines.specs.Keeps.{Keeps}
use Rattle.bx_paxos_machines.specs.Parts.{acceptor_of, cell_held, proposer_of}
use Rattle.bx_paxos_machines.specs.declared.machine.Machine.{Machine}
use Rattle.bx_proposer.specs.Standing.{ProposesTo}
use Rattle.bx_paxos_machines.proofs.Keeping.{needs_less}
use Rattle.bx_paxos_machines.proofs.Others.{all_ok}
use Rattle.bx_paxos_machines.proofs.Steps.{busy_is, busy_only, is_out, is_part, known_stays, knows_it, moves, only_one, proposes_keeps, steps, with_machines, within}
use Rattle.bx_paxos_machines.proofs.Voting.{part_of, turned_part}
use Rattle.bx_paxos_cluster.proofs.paxos.Paxos.propose.Goals as goal

pub index_mut-requires : goal.index_mut-requires
index_mut-requires c =
    let g : Cluster = record { nodes = c.self.inside.nodes; made = c.self.inside.made; first = c.self.inside.first; origins = c.self.inside.origins; machines = c.self.inside.machines.items } in
    let there : IsMachine g.nodes c.args.who = subst (λ (k : Cluster). IsMachine k.nodes c.args.who) (sym c.self.view_is) c.requires.there in
    let less = within g c.args.who c.place_of-place.result c.self.invariant there c.place_of-place.ensures in
    omega (arith, less)

pub propose-requires : goal.propose-requires
propose-requires c =
    let g : Cluster = record { nodes = c.self.inside.nodes; made = c.self.inside.made; first = c.self.inside.first; origins = c.self.inside.origins; machines = c.self.inside.machines.items } in
    let there : IsMachine g.nodes c.args.who = subst (λ (k : Cluster). IsMachine k.nodes c.args.who) (sym c.self.view_is) c.requires.there in
    record { whole = (is_part g c.args.who c.place_of-place.result c.index_mut.result.now c.self.invariant there c.place_of-place.ensures c.index_mut.ensures.value).whole }

pub invariant_of-self : goal.invariant_of-self
invariant_of-self c =
    let g : Cluster = record { nodes = c.self.inside.nodes; made = c.self.inside.made; first = c.self.inside.first; origins = c.self.inside.origins; machines = c.self.inside.machines.items } in
    let there : IsMachine g.nodes c.args.who = subst (λ (k : Cluster). IsMachine k.nodes c.args.who) (sym c.self.view_is) c.requires.there in
    let m = c.index_mut.result.now in
    let v = c.propose.new.self in
    let did = c.propose.ensures in
    let ms = slice_set g.machines c.place_of-place.result v in
    let step = steps g c.args.who c.place_of-place.result m v c.self.invariant there c.place_of-place.ensures c.index_mut.ensures.value did.name did.part in
    step.cluster

pub returns-clause-keeps : goal.returns-clause-keeps
returns-clause-keeps c = λ x past keeps up.
    let g : Cluster = record { nodes = c.self.inside.nodes; made = c.self.inside.made; first = c.self.inside.first; origins = c.self.inside.origins; machines = c.self.inside.machines.items } in
    let there : IsMachine g.nodes c.args.who = subst (λ (k : Cluster). IsMachine k.nodes c.args.who) (sym c.self.view_is) c.requires.there in
    let m = c.index_mut.result.now in
    let v = c.propose.new.self in
    let did = c.propose.ensures in
    let ms = slice_set g.machines c.place_of-place.result v in
    let step = steps g c.args.who c.place_of-place.result m v c.self.invariant there c.place_of-place.ensures c.index_mut.ensures.value did.name did.part in
    let kept : Keeps g x (register_with past c.args.out.now) = subst (λ (k : Cluster). Keeps k x (register_with past c.args.out.now)) (sym c.self.view_is) keeps in
    on_ok_weaker c.propose.result
    (λ fits. proposes_keeps g c.args.who m v ms x past c.args.out.now c.propose.new.out c.args.change.now step did.acceptor kept (fits (turned_part g ms c.args.who m v step.is there step.at step.here step.beside)))
    (did.keeps (voters_of g) x past (voters_of (with_machines g ms)).courses (part_of g c.args.who m step.is step.at) kept.fits)

pub returns-clause-legal : goal.returns-clause-legal
returns-clause-legal c =
    let g : Cluster = record { nodes = c.self.inside.nodes; made = c.self.inside.made; first = c.self.inside.first; origins = c.self.inside.origins; machines = c.self.inside.machines.items } in
    let there : IsMachine g.nodes c.args.who = subst (λ (k : Cluster). IsMachine k.nodes c.args.who) (sym c.self.view_is) c.requires.there in
    let m = c.index_mut.result.now in
    let v = c.propose.new.self in
    let did = c.propose.ensures in
    let ms = slice_set g.machines c.place_of-place.result v in
    let step = steps g c.args.who c.place_of-place.result m v c.self.invariant there c.place_of-place.ensures c.index_mut.ensures.value did.name did.part in
    all_ok c.propose.result _ _ _ _ did.legal did.out did.out
    (λ legal out again. subst (λ (k : Cluster). IsLegal (knows k c.args.who) c.args.change.now × (is_busy k c.args.who → ⊥) × is_busy (with_machines g ms) c.args.who) c.self.view_is
    (subst (λ (s : GlobalState). IsLegal s c.args.change.now) (knows_it g c.args.who m step.at) legal.0, (λ busy. legal.1 (is_out g c.args.who m step.at busy)), busy_is (with_machines g ms) c.args.who v step.here out))

pub returns-clause-not_legal : goal.returns-clause-not_legal
returns-clause-not_legal c = λ err legal.
    let g : Cluster = record { nodes = c.self.inside.nodes; made = c.self.inside.made; first = c.self.inside.first; origins = c.self.inside.origins; machines = c.self.inside.machines.items } in
    let there : IsMachine g.nodes c.args.who = subst (λ (k : Cluster). IsMachine k.nodes c.args.who) (sym c.self.view_is) c.requires.there in
    let m = c.index_mut.result.now in
    let v = c.propose.new.self in
    let did = c.propose.ensures in
    let ms = slice_set g.machines c.place_of-place.result v in
    let step = steps g c.args.who c.place_of-place.result m v c.self.invariant there c.place_of-place.ensures c.index_mut.ensures.value did.name did.part in
    did.not_legal err (subst (λ (s : GlobalState). IsLegal s c.args.change.now) (sym (knows_it g c.args.who m step.at)) (subst (λ (k : Cluster). IsLegal (knows k c.args.who) c.args.change.now) (sym c.self.view_is) legal))

pub returns-clause-busy : goal.returns-clause-busy
returns-clause-busy c = λ err.
    let g : Cluster = record { nodes = c.self.inside.nodes; made = c.self.inside.made; first = c.self.inside.first; origins = c.self.inside.origins; machines = c.self.inside.machines.items } in
    let there : IsMachine g.nodes c.args.who = subst (λ (k : Cluster). IsMachine k.nodes c.args.who) (sym c.self.view_is) c.requires.there in
    let m = c.index_mut.result.now in
    let v = c.propose.new.self in
    let did = c.propose.ensures in
    let ms = slice_set g.machines c.place_of-place.result v in
    let step = steps g c.args.who c.place_of-place.result m v c.self.invariant there c.place_of-place.ensures c.index_mut.ensures.value did.name did.part in
    let both = did.busy err in
    subst (λ (k : Cluster). IsLegal (knows k c.args.who) c.args.change.now × is_busy k c.args.who) c.self.view_is (subst (λ (s : GlobalState). IsLegal s c.args.change.now) (knows_it g c.args.who m step.at) both.0, busy_is g c.args.who m step.at both.1)

pub returns-clause-others : goal.returns-clause-others
returns-clause-others c =
    let g : Cluster = record { nodes = c.self.inside.nodes; made = c.self.inside.made; first = c.self.inside.first; origins = c.self.inside.origins; machines = c.self.inside.machines.items } in
    let there : IsMachine g.nodes c.args.who = subst (λ (k : Cluster). IsMachine k.nodes c.args.who) (sym c.self.view_is) c.requires.there in
    let m = c.index_mut.result.now in
    let v = c.propose.new.self in
    let did = c.propose.ensures in
    let ms = slice_set g.machines c.place_of-place.result v in
    let step = steps g c.args.who c.place_of-place.result m v c.self.invariant there c.place_of-place.ensures c.index_mut.ensures.value did.name did.part in
    subst (λ (k : Cluster). OnlyFactsAt c.args.who (is_busy k) (is_busy (with_machines g ms))) c.self.view_is (busy_only g c.args.who m v ms step)

pub returns-clause-knows : goal.returns-clause-knows
returns-clause-knows c = λ other.
    let g : Cluster = record { nodes = c.self.inside.nodes; made = c.self.inside.made; first = c.self.inside.first; origins = c.self.inside.origins; machines = c.self.inside.machines.items } in
    let there : IsMachine g.nodes c.args.who = subst (λ (k : Cluster). IsMachine k.nodes c.args.who) (sym c.self.view_is) c.requires.there in
    let m = c.index_mut.result.now in
    let v = c.propose.new.self in
    let did = c.propose.ensures in
    let ms = slice_set g.machines c.place_of-place.result v in
    let step = steps g c.args.who c.place_of-place.result m v c.self.invariant there c.place_of-place.ensures c.index_mut.ensures.value did.name did.part in
    subst (λ (k : Cluster). knows (with_machines g ms) other ≡ knows k other) c.self.view_is (known_stays g c.args.who m v ms step did.known other)

pub returns-clause-needs : goal.returns-clause-needs
returns-clause-needs c =
    let g : Cluster = record { nodes = c.self.inside.nodes; made = c.self.inside.made; first = c.self.inside.first; origins = c.self.inside.origins; machines = c.self.inside.machines.items } in
    let there : IsMachine g.nodes c.args.who = subst (λ (k : Cluster). IsMachine k.nodes c.args.who) (sym c.self.view_is) c.requires.there in
    let m = c.index_mut.result.now in
    let v = c.propose.new.self in
    let did = c.propose.ensures in
    let ms = slice_set g.machines c.place_of-place.result v in
    let step = steps g c.args.who c.place_of-place.result m v c.self.invariant there c.place_of-place.ensures c.index_mut.ensures.value did.name did.part in
    subst (λ (k : Cluster). NeedsNoMore (needs k) (needs (with_machines g ms))) c.self.view_is
    (needs_less g ms c.args.who m v step.at step.here step.beside (λ none. ap cell_held did.acceptor ∙ none))

pub returns-clause-only : goal.returns-clause-only
returns-clause-only c =
    let g : Cluster = record { nodes = c.self.inside.nodes; made = c.self.inside.made; first = c.self.inside.first; origins = c.self.inside.origins; machines = c.self.inside.machines.items } in
    let there : IsMachine g.nodes c.args.who = subst (λ (k : Cluster). IsMachine k.nodes c.args.who) (sym c.self.view_is) c.requires.there in
    let m = c.index_mut.result.now in
    let v = c.propose.new.self in
    let did = c.propose.ensures in
    let ms = slice_set g.machines c.place_of-place.result v in
    let step = steps g c.args.who c.place_of-place.result m v c.self.invariant there c.place_of-place.ensures c.index_mut.ensures.value did.name did.part in
    subst (λ (k : Cluster). OnlyMachine c.args.who k (with_machines g ms)) c.self.view_is (only_one g c.args.who m v ms step)

pub returns-clause-proposes : goal.returns-clause-proposes
returns-clause-proposes c =
    let g : Cluster = record { nodes = c.self.inside.nodes; made = c.self.inside.made; first = c.self.inside.first; origins = c.self.inside.origins; machines = c.self.inside.machines.items } in
    let there : IsMachine g.nodes c.args.who = subst (λ (k : Cluster). IsMachine k.nodes c.args.who) (sym c.self.view_is) c.requires.there in
    let m = c.index_mut.result.now in
    let v = c.propose.new.self in
    let did = c.propose.ensures in
    let ms = slice_set g.machines c.place_of-place.result v in
    let step = steps g c.args.who c.place_of-place.result m v c.self.invariant there c.place_of-place.ensures c.index_mut.ensures.value did.name did.part in
    let Goes : Machine → Machine → Type 0 = λ m new. ProposesTo (proposer_of m) c.args.change.now (proposer_of new) c.args.out.now c.propose.new.out × (acceptor_of new ≡ acceptor_of m) in
    subst (λ (k : Cluster). OnOk c.propose.result (Moves c.args.who Goes k (with_machines g ms))) c.self.view_is
    (on_ok_weaker c.propose.result (λ does. moves g c.args.who m v ms Goes step (does, did.acceptor)) did.proposes)
