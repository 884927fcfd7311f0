-- What one content of the disks shows of a volume, where a crash may leave it inside a step.
use Rattle.std.specs.Prelude.{ℕ, ◌<◌, Bool, false, List, slice_index}
use Rattle.bx_disk.specs.Disks.{Disks, Image, IsSector}
use Rattle.bx_facts.specs.Writes.{IsOfStore, IsSettled, Made, label_on}
use Rattle.bx_global.specs.declared.state.GlobalState.{GlobalState}
use Rattle.bx_views.specs.Truths.{Truth}
use Rattle.bx_volume.specs.Images.{AreSources, ShowsTruth}
use Rattle.bx_volume.specs.Overlay.{Logs}
use Rattle.bx_world_standing.specs.bx_world_logs.specs.Logs.{LogsStand, Slot}
use Rattle.bx_world_standing.specs.Labels.{LabelsStand}
use Rattle.bx_world_standing.specs.Standing.{Course}

-- What stands on disks in a state: the logs, in sectors that are settled in it; and each member that is a source in it has its label, on a whole
-- disk, on a volume of as many devices as the state has.
pub record StandsIn (x : Disks) (made : Made) (before : Image) (logs : Logs) (slots : ℕ → Slot) (truth : Truth) (s : GlobalState) : Type 0 where
  pub logs_stand : LogsStand (IsSettled x s) made.devices made.areas s.sessions before logs slots truth
  pub members : IsOfStore made x s

-- An image of disks of these sizes: each sector that there is has 512 bytes.
pub record IsOf (sizes : List ℕ) (image : Image) : Type 0 where
  pub each : (d s : ℕ) → s < slice_index sizes d → IsSector (image d s)

-- disks of these sizes that hold it, and surely
abbrev pub all_sure : List ℕ → Image → Disks
all_sure sizes image = record { sizes = sizes; reads = image; held = image; unsure = λ d s. false }

-- An image shows what a course has: the replicas' labels stand in it, and in each state that it is read as so do the logs.
pub record Shows (IsState : GlobalState → Type 0) (made : Made) (sizes : List ℕ) (image : Image) (c : Course) : Type 0 where
  pub labels : LabelsStand made (all_sure sizes image)
  pub stands : (s : GlobalState) → IsState s → StandsIn (all_sure sizes image) made c.before c.logs c.slots c.truth s

-- So does each image of disks of these sizes that a crash may leave.
abbrev pub MayShow : (Image → GlobalState → Type 0) → Made → List ℕ → Course → Image → Type 0
MayShow IsState made sizes c image = IsOf sizes image → Shows (IsState image) made sizes image c

-- An image has a truth of which this holds, in each state that it is read as and whichever source member a sector is read from; its first label is that of a replica of this volume.
pub record HasTruth (IsState : GlobalState → Type 0) (made : Made) (sizes : List ℕ) (image : Image) (Holds : Truth → Type 0) : Type 0 where
  pub replica : ℕ
  pub each : (s : GlobalState) → IsState s → (second : ℕ → ℕ → Bool) → AreSources s second
      → (logs : Logs) × (truth : Truth) × ShowsTruth sizes image s second (label_on made replica) logs truth × Holds truth
