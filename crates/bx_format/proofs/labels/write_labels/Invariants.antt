use Rattle.std.proofs.Common.{◌≡◌, length, Ok}
use Rattle.bx_disk.specs.Kept.{Fails}
use Rattle.bx_format.specs.Formats.{HasLabels, KeepsBehind}
use Rattle.bx_format.specs.Moments.{IsBehindLabel, Spares}
use Rattle.bx_format.proofs.labels.write_labels.Given as goal

abbrev pub invariant-loop-disk : goal.invariant-loop-disk
invariant-loop-disk g l = record {
  labels : g.R.Rack.tells l.fn.rack → HasLabels (g.R.Rack.state l.rack).reads (record { volume = l.volume; disk = 0; devices = l.devices; areas = l.areas }) l.disk;
  behind : g.R.Rack.tells l.fn.rack → KeepsBehind (g.R.Rack.state l.fn.rack) (g.R.Rack.state l.rack);
  sector : length l.sector ≡ 512;
  spares : g.R.Rack.tells l.fn.rack → Spares IsBehindLabel (g.R.Rack.state l.fn.rack) (g.R.Rack.state l.rack) (g.R.Rack.moment l.fn.rack) (g.R.Rack.moment l.rack) (g.R.Rack.left_since l.fn.rack) (g.R.Rack.left_since l.rack);
  rack : Fails {A = Unit {0}} g.R.Rack l.fn.rack l.rack (Ok tt);
}
