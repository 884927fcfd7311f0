use Rattle.std.proofs.Common.{◌+◌, ◌^◌, ◌<◌, length, sym, ap, subst, ◌∙◌}
use Rattle.bx_facts.specs.Pasts.{opening_register}
use Rattle.bx_global.specs.Allowed.{IsAllowed}
use Rattle.bx_global.specs.declared.state.GlobalState.{GlobalState}
use Rattle.bx_rounds.specs.declared.course.Course.{Course}
use Rattle.bx_paxos_machines.specs.Cluster.{Cluster}
use Rattle.bx_paxos_machines.specs.Keeps.{Keeps}
use Rattle.bx_paxos_machines.proofs.Beginnings.{begins_keeping, cluster_of, idle_at, not_busy}
use Rattle.bx_paxos_cluster.proofs.paxos.Paxos.format.Goals as goal

pub returns-clause-keeps : goal.returns-clause-keeps
returns-clause-keeps r c = λ tells.
    let first = c.in_ok-first.first in
    let same = c.in_ok-first.ensures in
    let g : Cluster = record { nodes = c.self.inside.nodes; made = c.self.inside.made; first = first; origins = c.made-origins.result; machines = c.in_ok-machines.machines.items } in
    let is = c.self.invariant in
    let did = c.in_ok-machines.ensures in
    let y = r.R.Rack.state c.begin_anew.new.rack in
    let cluster = cluster_of g is.few is.allowed is.index (subst IsAllowed (sym same) is.allowed) (subst (λ (s : GlobalState). s.index + 1 < 2 ^ 64) (sym same) is.index) (ap (λ (s : GlobalState). length s.devices) same) did.machines in
    subst (λ (s : GlobalState). Keeps g y (opening_register s)) (same ∙ ap (λ (k : Cluster). k.made) c.self.view_is)
    (begins_keeping g y cluster c.made-origins.ensures did.courses (did.begun tells) (did.cells tells))

pub returns-clause-knows : goal.returns-clause-knows
returns-clause-knows r c = λ who.
    ap (λ (k : Course). k.known) (idle_at c.in_ok-first.first c.in_ok-machines.machines.items who c.in_ok-machines.ensures.courses) ∙ c.in_ok-first.ensures ∙ ap (λ (k : Cluster). k.made) c.self.view_is

pub returns-clause-idle : goal.returns-clause-idle
returns-clause-idle r c = λ who busy. not_busy c.in_ok-first.first c.in_ok-machines.machines.items who c.in_ok-machines.ensures.courses busy
