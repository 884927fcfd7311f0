use Rattle.bx_paxos_machines.specs.Beginning.{AreNew}
use Rattle.bx_paxos_machines.proofs.Lists.{AreMadeTo}
use Rattle.bx_paxos_machines.proofs.making.make_all.Given as goal

abbrev pub invariant-loop-place : goal.invariant-loop-place
invariant-loop-place l = record {
  made : AreMadeTo l.nodes l.state l.origins l.place l.all.items;
  fresh : AreNew l.state l.all.items;
}
