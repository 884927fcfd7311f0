use Rattle.std.proofs.Common.{◌≤◌, ◌-◌, Ok}
use Rattle.bx_disk.specs.Disks.{MayBeWritten}
use Rattle.bx_disk.specs.Kept.{FailsOn}
use Rattle.bx_calls.specs.Regions.{IsZero}
use Rattle.bx_calls.specs.Calls.{KeepsSure, HasSure, LeavesOnly}
use Rattle.bx_calls.proofs.zero.zero_pieces.Given as goal

abbrev pub invariant-loop-done : goal.invariant-loop-done
invariant-loop-done g l = record {
  over : l.done ≤ l.count;
  zero : g.R.Rack.tells l.fn.rack → IsZero (g.R.Rack.state l.rack).reads l.disk l.sector l.done;
  keeps : g.R.Rack.tells l.fn.rack → KeepsSure (g.R.Rack.state l.fn.rack) (g.R.Rack.state l.rack) l.disk l.sector l.count;
  any_moment : g.R.Rack.tells l.fn.rack → LeavesOnly (g.R.Rack.moment l.fn.rack) (g.R.Rack.moment l.rack) (g.R.Rack.left_since l.fn.rack) (g.R.Rack.left_since l.rack) (HasSure (g.R.Rack.state l.fn.rack) l.disk l.sector l.count);
  torn : g.R.Rack.tells l.fn.rack → MayBeWritten (g.R.Rack.state l.fn.rack) (g.R.Rack.state l.rack) l.disk l.sector l.count;
  rack : FailsOn {A = Unit {0}} g.R.Rack l.fn.rack l.rack l.disk (Ok tt);
}

abbrev pub decreases-loop-done : goal.decreases-loop-done
decreases-loop-done g l = l.count - l.done
