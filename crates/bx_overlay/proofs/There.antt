-- The members that reads go to are on disks that are there and long enough.
use Rattle.std.proofs.Common.{◌≡◌, ◌↔◌, ℕ, ◌+◌, ◌*◌, ◌<◌, ◌≤◌, ⊎_elim, inr, Bool, true, false, arith, List, length, Some, sym, ap, ◌∙◌, subst, refl}
use Rattle.std.specs.Prelude.{slice_get, slice_index, nat_lt, if◌then◌else◌}
use Rattle.std.proofs.lemmas.Bool.Decides.{nat_tests}
use Rattle.std.proofs.lemmas.Option.{slice_get_cases}
use Rattle.bx_layout.specs.declared.label.Label.{Label}
use Rattle.bx_layout.specs.Labels.{IsLabel}
use Rattle.bx_places.specs.Places.{disk_sectors, member_sectors}
use Rattle.bx_rows.specs.declared.device.DeviceRow.{DeviceRow}
use Rattle.bx_rows.specs.Modes.{IsReadAtA, IsSource}
use Rattle.bx_volume.specs.Images.{member_disk}
use Rattle.bx_logs.specs.bx_homes.specs.Sources.{HasSource, HaveRoom}
use Rattle.bx_logs.specs.declared.members.Members.{Members}
use Rattle.bx_logs.specs.Members.{AreThere, disk_of, member_in}
use Rattle.bx_overlay.specs.Reading.{AreMembers}

-- a member's disk is as long as its device
pub long_as : (devices areas device : ℕ) (second : Bool) → disk_sectors devices areas (member_disk device second) ≡ member_sectors devices areas
long_as devices areas device second = ap (λ (t : Bool). if t then 21 else member_sectors devices areas) no_replica
  where
    no_replica : nat_lt (3 + 2 * device + (if second then 1 else 0)) 3 ≡ false
    no_replica = grind (arith, nat_tests)

-- the member that reads go to is a source
pub is_source : (mode : ℕ) (second : Bool) → (second ≡ false) ↔ IsReadAtA mode → IsSource mode second
is_source mode false reads = reads.0 refl
is_source mode true reads = inr (λ at_a. let no = reads.1 at_a in absurd (cc))

-- a device has a row
pub record HasRow (rows : List DeviceRow) (device : ℕ) : Type 0 where
  pub row : DeviceRow
  pub there : slice_get rows device ≡ Some row

pub row_of : (rows : List DeviceRow) (members : Members) (device : ℕ) → length rows ≡ members.devices → device < members.devices → HasRow rows device
row_of rows members device count less = ⊎_elim
    (λ here. record { row = here.0; there = here.2 })
    (λ past. absurd (omega (arith, less, count, past.0)))
    (slice_get_cases rows device).1

pub are_there : (sizes : List ℕ) (first : Label) (rows : List DeviceRow) (members : Members) → IsLabel first → length rows ≡ first.devices
    → ((device : ℕ) (row : DeviceRow) → slice_get rows device ≡ Some row → HasSource sizes device row)
    → ((device : ℕ) (row : DeviceRow) → slice_get rows device ≡ Some row → HaveRoom sizes first device row)
    → AreMembers first rows members → AreThere sizes members
are_there sizes first rows members label count sources rooms are = record {
  volume = record {
    least_devices = omega (arith, are.devices, label.least_devices);
    most_devices = omega (arith, are.devices, label.most_devices);
    least_areas = omega (arith, are.areas, label.least_areas);
    most_areas = omega (arith, are.areas, label.most_areas);
  };
  count = are.count;
  disk = λ device less. let here = row_of rows members device (count ∙ sym are.devices) less in sources device here.row here.there (member_in members.seconds device) (are.sources device here.row here.there);
  room = λ device less.
      let here = row_of rows members device (count ∙ sym are.devices) less in
      let second = member_in members.seconds device in
      let enough = rooms device here.row here.there second (is_source here.row.mode second (are.sources device here.row here.there)) in
      let long = long_as first.devices first.areas device second in
      let same : member_sectors first.devices first.areas ≡ member_sectors members.devices members.areas = ap (λ (n : ℕ). member_sectors n first.areas) (sym are.devices) ∙ ap (member_sectors members.devices) (sym are.areas) in
      subst (λ (n : ℕ). n ≤ slice_index sizes (disk_of members device)) (long ∙ same) enough;
}
