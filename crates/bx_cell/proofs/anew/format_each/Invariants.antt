use Rattle.std.proofs.Common.{Ok}
use Rattle.bx_disk.specs.Kept.{Fails}
use Rattle.bx_calls.specs.Calls.{LeavesOnly}
use Rattle.bx_cell.specs.Formats.{KeepsBeside, HasBeside, AreFormatted}
use Rattle.bx_cell.proofs.anew.format_each.Given as goal

abbrev pub invariant-loop-disk : goal.invariant-loop-disk
invariant-loop-disk g l = record {
  formatted : g.R.Rack.tells l.fn.rack → AreFormatted (g.R.Rack.state l.rack) l.disk l.base l.value;
  keeps : g.R.Rack.tells l.fn.rack → KeepsBeside (g.R.Rack.state l.fn.rack) (g.R.Rack.state l.rack) l.count l.base;
  any_moment : g.R.Rack.tells l.fn.rack → LeavesOnly (g.R.Rack.moment l.fn.rack) (g.R.Rack.moment l.rack) (g.R.Rack.left_since l.fn.rack) (g.R.Rack.left_since l.rack) (HasBeside (g.R.Rack.state l.fn.rack) l.count l.base);
  rack : Fails {A = Unit {0}} g.R.Rack l.fn.rack l.rack (Ok tt);
}
