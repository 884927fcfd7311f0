use Rattle.std.proofs.Common.{◌≡◌, ℕ, ◌<◌, Some, Ok}
use Rattle.std.specs.Prelude.{slice_get}
use Rattle.bx_rows.specs.declared.device.DeviceRow.{DeviceRow}
use Rattle.bx_disk.specs.Kept.{Faults}
use Rattle.bx_homes.specs.Sources.{AreLabelled, HaveRoom}
use Rattle.bx_homes.proofs.sources.first_unlabelled.Given as goal

abbrev pub invariant-loop-device : goal.invariant-loop-device
invariant-loop-device g l = record {
  stays : g.R.Rack.state l.rack ≡ g.R.Rack.state l.fn.rack;
  rack : Faults {A = Unit {0}} g.R.Rack l.fn.rack l.rack (Ok tt);
  room : (d : ℕ) (row : DeviceRow) → d < l.device → slice_get l.rows d ≡ Some row → HaveRoom (g.R.Rack.state l.fn.rack).sizes l.first d row;
  done : g.R.Rack.tells l.fn.rack → (d : ℕ) (row : DeviceRow) → d < l.device → slice_get l.rows d ≡ Some row → AreLabelled (g.R.Rack.state l.fn.rack).sizes (g.R.Rack.state l.fn.rack).reads l.first d row;
}
