use Rattle.std.proofs.Common.{◌≡◌, ℕ, List, Ok}
use Rattle.bx_disk.specs.Kept.{Fails}
use Rattle.bx_calls.specs.Calls.{LeavesOnly}
use Rattle.bx_facts.specs.Writes.{Sent}
use Rattle.bx_members.specs.Members.{KeepsMembers, HasMembers}
use Rattle.bx_plain_store.specs.Out.{AreWritten, IsAlone, KeepsReplicas}
use Rattle.bx_plain_store.proofs.runs.put_runs.Given as goal

abbrev pub invariant-loop-i : goal.invariant-loop-i
invariant-loop-i g l = record {
  written : (writes : List Sent) (greatest : ℕ) (write : Sent) → g.R.Rack.tells l.fn.rack → IsAlone writes greatest write → write.runs ≡ l.runs → AreWritten (g.R.Rack.state l.rack) l.runs l.i;
  keeps : (writes : List Sent) (greatest : ℕ) (write : Sent) → g.R.Rack.tells l.fn.rack → IsAlone writes greatest write → write.runs ≡ l.runs → KeepsMembers writes greatest (g.R.Rack.state l.fn.rack) (g.R.Rack.state l.rack);
  any_moment : (writes : List Sent) (greatest : ℕ) (write : Sent) → g.R.Rack.tells l.fn.rack → IsAlone writes greatest write → write.runs ≡ l.runs → LeavesOnly (g.R.Rack.moment l.fn.rack) (g.R.Rack.moment l.rack) (g.R.Rack.left_since l.fn.rack) (g.R.Rack.left_since l.rack) (HasMembers writes greatest (g.R.Rack.state l.fn.rack));
  replicas : g.R.Rack.tells l.fn.rack → KeepsReplicas (g.R.Rack.state l.fn.rack) (g.R.Rack.state l.rack);
  rack : Fails {A = Unit {0}} g.R.Rack l.fn.rack l.rack (Ok tt);
}
