-- How a `format` ends, by its exit status.
use Rattle.std.specs.Prelude.{◌≡◌, ◌≢◌, ◌⊎◌, ℕ, [], ◌∷◌}
use Rattle.bx_base.specs.Faults.{Rose}
use Rattle.bx_calls.specs.Calls.{LeavesOnly}
use Rattle.bx_disk.specs.Counts.{NoneFalls, NoneRose}
use Rattle.bx_disk.specs.declared.rack.Rack as racks
use Rattle.bx_format.specs.Formats.{HasSizes}
use Rattle.bx_format.specs.Moments.{IsInTheMaking}
use Rattle.bx_layout.specs.declared.label.Label.{Label}
use Rattle.bx_rack_commands.specs.NewVolumes.{IsNewVolume}
use Rattle.bx_statuses.specs.Report.{IsAmong}

-- The rack was to be made a volume of this label.
pub record FormatEnds {R : Type 0} (rack : racks.Ghosts R) (label : Label) (old new : R) (status : ℕ) : Type 0 where
  pub among : IsAmong (0 ∷ 5 ∷ 9 ∷ []) status
  -- done: the rack is the volume, and at each moment on the way had what it had before, or no label, or all of the volume but labels
  pub made : status ≡ 0 → rack.tells old → IsNewVolume (rack.state new) label
  pub moments : status ≡ 0 → rack.tells old → LeavesOnly (rack.moment old) (rack.moment new) (rack.left_since old) (rack.left_since new) (IsInTheMaking (rack.state old) (rack.state new))
  pub sizes : status ≡ 0 → HasSizes (rack.state new).sizes label.devices label.areas
  -- a fault of the rack gives its status and no other; and without one it is done, unless memory runs out
  pub disk_fault : status ≡ 5 → Rose (rack.faults old) (rack.faults new)
  pub disk_first : status ≢ 5 → NoneRose (rack.faults old) (rack.faults new) (rack.faults_of old) (rack.faults_of new)
  pub complete : (Rose (rack.faults old) (rack.faults new) → ⊥) → (status ≡ 0) ⊎ (status ≡ 9)
  -- what holds however it ends
  pub later : NoneFalls (rack.faults old) (rack.faults new) (rack.faults_of old) (rack.faults_of new)
  pub keeps_telling : rack.tells old → rack.tells new
