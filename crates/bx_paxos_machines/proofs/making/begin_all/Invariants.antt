use Rattle.std.proofs.Common.{Ok}
use Rattle.bx_disk.specs.Kept.{Counted}
use Rattle.bx_facts.specs.declared.input.FactError.TheVariants.{Disk as DiskFails}
use Rattle.bx_paxos_machines.specs.Beginning.{AreBegun, AreIdle, HasFirst, IsCalm}
use Rattle.bx_paxos_machines.proofs.Lists.{AreMadeTo}
use Rattle.bx_paxos_machines.proofs.making.begin_all.Given as goal

abbrev pub invariant-loop-place : goal.invariant-loop-place
invariant-loop-place r l = record {
  made : AreMadeTo l.nodes l.state l.origins l.place l.all.items;
  begun : r.R.Rack.tells l.fn.rack → HasFirst l.state (r.R.Rack.state l.fn.rack).reads → AreBegun l.state (r.R.Rack.state l.rack) l.all.items;
  idle : AreIdle l.state l.all.items;
  calm : r.R.Rack.tells l.fn.rack → IsCalm (r.R.Rack.state l.fn.rack) (r.R.Rack.state l.rack);
  rack : Counted {A = Unit {0}} r.R.Rack l.fn.rack l.rack (Ok tt) DiskFails;
}
