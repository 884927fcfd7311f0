use Rattle.std.proofs.Common.{◌≡◌, ◌↔◌, ℕ, ◌<◌, false, length, Some}
use Rattle.std.specs.Prelude.{slice_get}
use Rattle.bx_rows.specs.declared.device.DeviceRow.{DeviceRow}
use Rattle.bx_rows.specs.Modes.{IsReadAtA}
use Rattle.bx_logs.specs.Members.{member_in}
use Rattle.bx_overlay.proofs.volume_disks.members_of.Given as goal

abbrev pub invariant-loop-device : goal.invariant-loop-device
invariant-loop-device l = record {
  count : length l.seconds ≡ 4;
  done : (device : ℕ) (row : DeviceRow) → device < l.device → slice_get l.rows device ≡ Some row → (member_in l.seconds device ≡ false) ↔ IsReadAtA row.mode;
}
