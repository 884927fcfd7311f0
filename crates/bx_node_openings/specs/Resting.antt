-- A volume at rest: nothing is under way in its logs, and nothing of it is in doubt.
use Rattle.std.specs.Prelude.{◌≡◌, ◌⊎◌, ℕ, ◌<◌, ◌≤◌, false}
use Rattle.bx_disk.specs.Disks.{Disks, Image}
use Rattle.bx_facts.specs.Disks.{IsKept}
use Rattle.bx_facts.specs.Writes.{IsOfStore, IsSettled, Made}
use Rattle.bx_global.specs.declared.state.GlobalState.{GlobalState}
use Rattle.bx_layout.specs.Labels.{IsOpenGate}
use Rattle.bx_places.specs.Places.{IsBlock, IsVolume, gate_place}
use Rattle.bx_views.specs.Truths.{Truth}
use Rattle.bx_volume.specs.Overlay.{IsHome}
use Rattle.bx_volume.specs.Records.{gate_of}
use Rattle.bx_world_stays.specs.bx_world_logs.specs.Logs.{IsHomeSure}
use Rattle.bx_world_stays.specs.bx_world_standing.specs.Labels.{LabelsStand}

-- By a state all gates of the log slots are closed, and each block of the volume is in its home, and that is settled; and the labels of its disks stand.
-- (`held` is what the devices hold, `truth` what the blocks are.)
pub record VolumeRests (made : Made) (x : Disks) (s : GlobalState) (held : Image) (truth : Truth) : Type 0 where
  pub volume : IsVolume made.devices made.areas
  pub labels : LabelsStand made x
  pub members : IsOfStore made x s
  pub shut : (slot gate : ℕ) → slot < 8 → gate < 8 → IsOpenGate (gate_of held made.devices slot gate) → ⊥
  pub gates : (slot gate : ℕ) → slot < 8 → gate < 8 → IsSettled x s (gate_place slot gate made.devices).0 (gate_place slot gate made.devices).1 (gate_of held made.devices slot gate)
  pub homes : (at : ℕ) → IsBlock made.areas at → IsHome held made.devices at (truth at)
  pub sure : (at : ℕ) → IsBlock made.areas at → IsHomeSure (IsSettled x s) made.devices made.areas held at

-- What is sure on the disks of members, and in the labels of replicas, stays, and is sure.
pub record KeepsVolume (x y : Disks) : Type 0 where
  pub sizes : y.sizes ≡ x.sizes
  pub each : (d sector : ℕ) → (3 ≤ d) ⊎ (sector ≡ 0) → x.unsure d sector ≡ false → IsKept x y d sector
