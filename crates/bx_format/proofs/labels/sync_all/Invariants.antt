use Rattle.std.proofs.Common.{◌≡◌, ℕ, ◌<◌, false, Ok}
use Rattle.bx_disk.specs.Kept.{Faults}
use Rattle.bx_format.specs.Moments.{IsAnySector, Spares}
use Rattle.bx_format.proofs.labels.sync_all.Given as goal

abbrev pub invariant-loop-disk : goal.invariant-loop-disk
invariant-loop-disk g l = record {
  sure : (d s : ℕ) → g.R.Rack.tells l.fn.rack → d < l.disk → (g.R.Rack.state l.rack).unsure d s ≡ false;
  reads : g.R.Rack.tells l.fn.rack → (g.R.Rack.state l.rack).reads ≡ (g.R.Rack.state l.fn.rack).reads;
  spares : g.R.Rack.tells l.fn.rack → Spares IsAnySector (g.R.Rack.state l.fn.rack) (g.R.Rack.state l.rack) (g.R.Rack.moment l.fn.rack) (g.R.Rack.moment l.rack) (g.R.Rack.left_since l.fn.rack) (g.R.Rack.left_since l.rack);
  rack : Faults {A = Unit {0}} g.R.Rack l.fn.rack l.rack (Ok tt);
}
