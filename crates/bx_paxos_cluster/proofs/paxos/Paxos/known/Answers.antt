use Rattle.std.proofs.Common.{◌≡◌, sym, subst, ◌∙◌, arith}
use Rattle.bx_facts.specs.Machines.{IsMachine}
use Rattle.bx_global.specs.Allowed.{IsAllowed}
use Rattle.bx_paxos_machines.specs.Cluster.{Cluster, knows}
use Rattle.bx_paxos_machines.proofs.Steps.{is_part, knows_it, stands_at, within}
use Rattle.bx_paxos_machines.proofs.Voting.{proposer_is}
use Rattle.bx_paxos_cluster.proofs.paxos.Paxos.known.Goals as goal

pub index-requires : goal.index-requires
index-requires c =
    let g : Cluster = record { nodes = c.self.inside.nodes; made = c.self.inside.made; first = c.self.inside.first; origins = c.self.inside.origins; machines = c.self.inside.machines.items } in
    let there : IsMachine g.nodes c.args.who = subst (λ (k : Cluster). IsMachine k.nodes c.args.who) (sym c.self.view_is) c.requires.there in
    let less = within g c.args.who c.place_of-place.result c.self.invariant there c.place_of-place.ensures in
    omega (arith, less)

pub returns-clause-knows : goal.returns-clause-knows
returns-clause-knows c =
    let g : Cluster = record { nodes = c.self.inside.nodes; made = c.self.inside.made; first = c.self.inside.first; origins = c.self.inside.origins; machines = c.self.inside.machines.items } in
    let there : IsMachine g.nodes c.args.who = subst (λ (k : Cluster). IsMachine k.nodes c.args.who) (sym c.self.view_is) c.requires.there in
    let m = c.index.result.now in
    subst (λ (k : Cluster). c.known.result.now ≡ knows k c.args.who) c.self.view_is
    (c.known.ensures ∙ knows_it g c.args.who m (stands_at g c.args.who c.place_of-place.result m c.self.invariant there c.place_of-place.ensures c.index.ensures))

pub returns-clause-allowed : goal.returns-clause-allowed
returns-clause-allowed c =
    let g : Cluster = record { nodes = c.self.inside.nodes; made = c.self.inside.made; first = c.self.inside.first; origins = c.self.inside.origins; machines = c.self.inside.machines.items } in
    let there : IsMachine g.nodes c.args.who = subst (λ (k : Cluster). IsMachine k.nodes c.args.who) (sym c.self.view_is) c.requires.there in
    let m = c.index.result.now in
    let part = is_part g c.args.who c.place_of-place.result m c.self.invariant there c.place_of-place.ensures c.index.ensures in
    subst IsAllowed (sym c.known.ensures) (proposer_is m part.whole).course.known.is
