use Rattle.std.proofs.Common.{◌≡◌, ◌-◌, ℕ, Bool, Ok, List}
use Rattle.bx_calls.specs.Calls.{HasSure, KeepsSure, LeavesOnly}
use Rattle.bx_disk.specs.Kept.{Fails}
use Rattle.bx_facts.specs.Writes.{Sent, member_disk}
use Rattle.bx_members.specs.Members.{HasMembers, KeepsMembers}
use Rattle.bx_mirror_disks.specs.Puts.{AllLieIn, AreBrought}
use Rattle.bx_mirror_disks.proofs.Putting.{StandTo}
use Rattle.bx_mirror_disks.proofs.puts.put_runs.Given as goal

abbrev pub invariant-loop-i : goal.invariant-loop-i
invariant-loop-i g l = record {
  stands : (device : ℕ) (second : Bool) → g.R.Rack.tells l.fn.rack → l.disk ≡ member_disk device second → AllLieIn device l.room l.runs.1 → StandTo l.disk device l.runs.1 l.i (g.R.Rack.state l.rack);
  keeps : (writes : List Sent) (greatest device : ℕ) (second : Bool) → g.R.Rack.tells l.fn.rack → l.disk ≡ member_disk device second → AllLieIn device l.room l.runs.1 → AreBrought writes greatest device l.runs.1 → KeepsMembers writes greatest (g.R.Rack.state l.fn.rack) (g.R.Rack.state l.rack);
  any_moment : (writes : List Sent) (greatest device : ℕ) (second : Bool) → g.R.Rack.tells l.fn.rack → l.disk ≡ member_disk device second → AllLieIn device l.room l.runs.1 → AreBrought writes greatest device l.runs.1 → LeavesOnly (g.R.Rack.moment l.fn.rack) (g.R.Rack.moment l.rack) (g.R.Rack.left_since l.fn.rack) (g.R.Rack.left_since l.rack) (HasMembers writes greatest (g.R.Rack.state l.fn.rack));
  elsewhere : g.R.Rack.tells l.fn.rack → KeepsSure (g.R.Rack.state l.fn.rack) (g.R.Rack.state l.rack) l.disk 1 (l.room - 1);
  sure_moment : g.R.Rack.tells l.fn.rack → LeavesOnly (g.R.Rack.moment l.fn.rack) (g.R.Rack.moment l.rack) (g.R.Rack.left_since l.fn.rack) (g.R.Rack.left_since l.rack) (HasSure (g.R.Rack.state l.fn.rack) l.disk 1 (l.room - 1));
  rack : Fails {A = Unit {0}} g.R.Rack l.fn.rack l.rack (Ok tt);
}
