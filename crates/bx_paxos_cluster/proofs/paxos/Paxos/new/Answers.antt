use Rattle.std.proofs.Common.{ap, ◌∙◌}
use Rattle.bx_rounds.specs.declared.course.Course.{Course}
use Rattle.bx_paxos_machines.specs.Cluster.{Cluster}
use Rattle.bx_paxos_machines.proofs.Beginnings.{idle_at, new_idle, new_needs_none, not_busy}
use Rattle.bx_paxos_cluster.proofs.paxos.Paxos.new.Goals as goal

pub returns-clause-knows : goal.returns-clause-knows
returns-clause-knows c = λ who.
    let first = c.in_ok-first.first in
    let machines = c.in_ok-machines.machines.items in
    ap (λ (k : Course). k.known) (idle_at first machines who (new_idle first machines c.in_ok-machines.ensures.new)) ∙ c.in_ok-first.ensures

pub returns-clause-idle : goal.returns-clause-idle
returns-clause-idle c = λ who busy.
    let first = c.in_ok-first.first in
    let machines = c.in_ok-machines.machines.items in
    not_busy first machines who (new_idle first machines c.in_ok-machines.ensures.new) busy

pub returns-clause-needs : goal.returns-clause-needs
returns-clause-needs c = λ disk.
    let g : Cluster = record { nodes = c.args.nodes; made = c.args.state; first = c.in_ok-first.first; origins = c.made-origins.result; machines = c.in_ok-machines.machines.items } in
    new_needs_none g disk c.in_ok-machines.ensures.new
