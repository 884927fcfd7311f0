use Rattle.std.proofs.Common.{◌≡◌, ℕ, ◌<◌, Some}
use Rattle.std.specs.Prelude.{slice_get}
use Rattle.bx_rows.specs.declared.device.DeviceRow.{DeviceRow}
use Rattle.bx_homes.specs.Sources.{HasSource}
use Rattle.bx_homes.proofs.sources.first_absent.Given as goal

abbrev pub invariant-loop-device : goal.invariant-loop-device
invariant-loop-device g l = record {
  done : (d : ℕ) (row : DeviceRow) → d < l.device → slice_get l.rows d ≡ Some row → HasSource (g.R.Rack.state l.rack).sizes d row;
}
