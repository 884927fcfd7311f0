use Rattle.std.proofs.Common.{◌≡◌, ℕ, ◌+◌, ◌<◌, ◌/◌, length, List, Bool, Ok}
use Rattle.bx_disk.specs.Disks.{sector_of}
use Rattle.bx_disk.specs.Kept.{Fails}
use Rattle.bx_calls.specs.Calls.{HasSure, KeepsSure, LeavesOnly}
use Rattle.bx_facts.specs.Writes.{Sent, member_disk}
use Rattle.bx_members.specs.Members.{IsTaken, KeepsMembers, HasMembers}
use Rattle.bx_members.proofs.members.put_run.Given as goal

abbrev pub invariant-loop-i : goal.invariant-loop-i
invariant-loop-i g l = record {
  written : g.R.Rack.tells l.fn.rack → (j : ℕ) → j < l.i → (g.R.Rack.state l.rack).reads l.disk (l.run.place + j) ≡ sector_of l.run.bytes j;
  elsewhere : g.R.Rack.tells l.fn.rack → KeepsSure (g.R.Rack.state l.fn.rack) (g.R.Rack.state l.rack) l.disk l.run.place (length l.run.bytes / 512);
  keeps : (writes : List Sent) (greatest : ℕ) (second : Bool) → g.R.Rack.tells l.fn.rack → l.disk ≡ member_disk l.run.device second → IsTaken writes greatest l.run → KeepsMembers writes greatest (g.R.Rack.state l.fn.rack) (g.R.Rack.state l.rack);
  any_moment : (writes : List Sent) (greatest : ℕ) (second : Bool) → g.R.Rack.tells l.fn.rack → l.disk ≡ member_disk l.run.device second → IsTaken writes greatest l.run → LeavesOnly (g.R.Rack.moment l.fn.rack) (g.R.Rack.moment l.rack) (g.R.Rack.left_since l.fn.rack) (g.R.Rack.left_since l.rack) (HasMembers writes greatest (g.R.Rack.state l.fn.rack));
  sure_moment : g.R.Rack.tells l.fn.rack → LeavesOnly (g.R.Rack.moment l.fn.rack) (g.R.Rack.moment l.rack) (g.R.Rack.left_since l.fn.rack) (g.R.Rack.left_since l.rack) (HasSure (g.R.Rack.state l.fn.rack) l.disk l.run.place (length l.run.bytes / 512));
  rack : Fails {A = Unit {0}} g.R.Rack l.fn.rack l.rack (Ok tt);
}
