-- Which file tree an image of a volume's disks stands for, once its global state is known.
use Rattle.std.specs.Prelude.{◌≡◌, ℕ, ◌+◌, ◌*◌, ◌<◌, ◌≤◌, ◌↔◌, Bool, false, if◌then◌else◌, List, length, slice_index, slice_get, Some}
use Rattle.bx_disk.specs.Disks.{Image}
use Rattle.bx_rows.specs.declared.device.DeviceRow.{DeviceRow}
use Rattle.bx_global.specs.declared.state.GlobalState.{GlobalState}
use Rattle.bx_rows.specs.Modes.{IsReadAtA, IsSource}
use Rattle.bx_layout.specs.declared.label.Label.{Label}
use Rattle.bx_layout.specs.Labels.{SpellsLabel}
use Rattle.bx_places.specs.Places.{disk_count, disk_sectors}
use Rattle.bx_tree_laws.specs.bx_model.specs.declared.tree.Tree.{Tree}
use Rattle.bx_tree_laws.specs.bx_model.specs.FileTrees.{IsFileTree}
use Rattle.bx_truth.specs.Stands.{StandsFor}
use Rattle.bx_truth.specs.bx_views.specs.Truths.{Truth}
use Rattle.bx_volume.specs.Overlay.{Logs, IsOverlaidTruth}

-- the disk of a device's member A (false) or B (true)
abbrev pub member_disk : ℕ → Bool → ℕ
member_disk device second = 3 + 2 * device + (if second then 1 else 0)

-- what the devices hold, each sector read off one of the members of its device
abbrev pub devices_of : Image → (ℕ → ℕ → Bool) → Image
devices_of image second device sector = image (member_disk device (second device sector)) sector

-- all sectors of a device read off the same member
abbrev pub by_device : (ℕ → Bool) → ℕ → ℕ → Bool
by_device second device sector = second device

-- a label of this very disk, which is as long as the label says
pub record IsOwnLabel (sizes : List ℕ) (image : Image) (disk : ℕ) (label : Label) : Type 0 where
  pub spells : SpellsLabel label (image disk 0)
  pub names : label.disk ≡ disk
  pub there : disk < disk_count label.devices
  pub long_enough : disk_sectors label.devices label.areas disk ≤ slice_index sizes disk

-- the label of the least disk that has one
pub record IsFirstLabel (sizes : List ℕ) (image : Image) (first : Label) : Type 0 where
  pub own : IsOwnLabel sizes image first.disk first
  pub least : (disk : ℕ) (label : Label) → disk < first.disk → IsOwnLabel sizes image disk label → ⊥

-- a disk has a label that counts: it is of the volume that the first label is of
pub record IsLabelled (sizes : List ℕ) (image : Image) (first : Label) (disk : ℕ) : Type 0 where
  pub label : Label
  pub own : IsOwnLabel sizes image disk label
  pub volume : label.volume ≡ first.volume
  pub devices : label.devices ≡ first.devices
  pub areas : label.areas ≡ first.areas

-- Each sector is read from a member that is a source in its device's mode.
abbrev pub AreSources : GlobalState → (ℕ → ℕ → Bool) → Type 0
AreSources state second = (device sector : ℕ) (row : DeviceRow) → slice_get state.devices device ≡ Some row → IsSource row.mode (second device sector)

-- Each device is read from the member that reads go to in its mode.
abbrev pub AreReadFrom : GlobalState → (ℕ → Bool) → Type 0
AreReadFrom state second = (device : ℕ) (row : DeviceRow) → slice_get state.devices device ≡ Some row → (second device ≡ false) ↔ IsReadAtA row.mode

-- The image, in this global state and with each sector read from this member, has the labels of a volume, of which the first is this one, and a truth,
-- whatever that stands for.
pub record ShowsTruth (sizes : List ℕ) (image : Image) (state : GlobalState) (second : ℕ → ℕ → Bool) (first : Label) (logs : Logs) (truth : Truth) : Type 0 where
  pub is_first : IsFirstLabel sizes image first
  pub devices : length state.devices ≡ first.devices
  pub labelled : (device : ℕ) (row : DeviceRow) (member : Bool) → slice_get state.devices device ≡ Some row → IsSource row.mode member
      → IsLabelled sizes image first (member_disk device member)
  pub is_truth : IsOverlaidTruth (devices_of image second) first.devices first.areas state.sessions logs truth

-- It has a truth that stands for the tree, which is a file tree.
pub record ShowsTree (sizes : List ℕ) (image : Image) (state : GlobalState) (second : ℕ → ℕ → Bool) (tree : Tree) : Type 0 where
  pub first : Label
  pub logs : Logs
  pub truth : Truth
  pub shows : ShowsTruth sizes image state second first logs truth
  pub volume : tree.volume ≡ first.volume
  pub stands : StandsFor first.areas truth tree
  pub is : IsFileTree tree

-- The image stands for the tree: in the global state that it tells, with each device read from the member that reads go to.
pub record ImageStandsFor (sizes : List ℕ) (IsState : Image → GlobalState → Type 0) (image : Image) (tree : Tree) : Type 0 where
  pub state : GlobalState
  pub is_state : IsState image state
  pub second : ℕ → Bool
  pub reads : AreReadFrom state second
  pub shows : ShowsTree sizes image state (by_device second) tree
