use Rattle.std.proofs.Common.{◌≡◌, ℕ, ◌<◌, List, Bool, false, Ok}
use Rattle.bx_disk.specs.Kept.{Faults}
use Rattle.bx_calls.specs.Calls.{LeavesOnly}
use Rattle.bx_facts.specs.Disks.{SameDisks}
use Rattle.bx_facts.specs.Writes.{Sent, member_disk}
use Rattle.bx_members.specs.Members.{HasMembers}
use Rattle.bx_plain_store.proofs.runs.sync_members.Given as goal

abbrev pub invariant-loop-device : goal.invariant-loop-device
invariant-loop-device g l = record {
  sure : (device sector : ℕ) (second : Bool) → g.R.Rack.tells l.fn.rack → device < l.device → (g.R.Rack.state l.rack).unsure (member_disk device second) sector ≡ false;
  keeps : g.R.Rack.tells l.fn.rack → SameDisks (g.R.Rack.state l.fn.rack) (g.R.Rack.state l.rack);
  any_moment : (writes : List Sent) (greatest : ℕ) → g.R.Rack.tells l.fn.rack → LeavesOnly (g.R.Rack.moment l.fn.rack) (g.R.Rack.moment l.rack) (g.R.Rack.left_since l.fn.rack) (g.R.Rack.left_since l.rack) (HasMembers writes greatest (g.R.Rack.state l.fn.rack));
  rack : Faults {A = Unit {0}} g.R.Rack l.fn.rack l.rack (Ok tt);
}
