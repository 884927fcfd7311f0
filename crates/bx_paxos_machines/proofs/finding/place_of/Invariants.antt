use Rattle.std.proofs.Common.{◌≡◌, ◌+◌, drop}
use Rattle.bx_paxos_machines.specs.Parts.{place_in}
use Rattle.bx_paxos_machines.proofs.finding.place_of.Given as goal

abbrev pub invariant-loop-machine : goal.invariant-loop-machine
invariant-loop-machine l = record {
  place : l.place ≡ l.machine-index;
  rest : place_in l.machines.items l.who ≡ l.place + place_in (drop l.machine-index l.machines.items) l.who;
}
