use Rattle.std.proofs.Common.{Ok}
use Rattle.bx_disk.specs.Kept.{Fails}
use Rattle.bx_format.specs.Formats.{areas_truth, HoldsBlocks, KeepsFront}
use Rattle.bx_format.specs.Moments.{IsLabelSector, Spares}
use Rattle.bx_format.proofs.homes.write_areas.Given as goal

abbrev pub invariant-loop-area : goal.invariant-loop-area
invariant-loop-area g l = record {
  blocks : g.R.Rack.tells l.fn.rack → HoldsBlocks (g.R.Rack.state l.fn.rack).reads l.devices l.areas (areas_truth 0) → HoldsBlocks (g.R.Rack.state l.rack).reads l.devices l.areas (areas_truth l.area);
  front : g.R.Rack.tells l.fn.rack → KeepsFront (g.R.Rack.state l.fn.rack) (g.R.Rack.state l.rack);
  spares : g.R.Rack.tells l.fn.rack → Spares IsLabelSector (g.R.Rack.state l.fn.rack) (g.R.Rack.state l.rack) (g.R.Rack.moment l.fn.rack) (g.R.Rack.moment l.rack) (g.R.Rack.left_since l.fn.rack) (g.R.Rack.left_since l.rack);
  rack : Fails {A = Unit {0}} g.R.Rack l.fn.rack l.rack (Ok tt);
}
