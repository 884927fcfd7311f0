-- A rack whose disks are a volume that was just made.
use Rattle.std.specs.Prelude.{◌≡◌, ◌⊎◌, ℕ, ◌<◌, false, Some}
use Rattle.bx_answers.specs.Handling.{first_held}
use Rattle.bx_cell.specs.Formats.{first}
use Rattle.bx_cell.specs.Halves.{cell_in}
use Rattle.bx_disk.specs.Disks.{Disks, Image}
use Rattle.bx_format.specs.Moments.{HasBehind, IsBare}
use Rattle.bx_global.specs.Bytes.{held_text}
use Rattle.bx_global.specs.Opening.{formatted_state}
use Rattle.bx_layout.specs.declared.label.Label.{Label}
use Rattle.bx_model.specs.declared.tree.Tree.{Tree}
use Rattle.bx_model.specs.Opening.{opening}
use Rattle.bx_rack_audit.specs.Alone.{IsOwnState, StandAlone}
use Rattle.bx_volume.specs.Records.{Logged}
use Rattle.bx_volume.specs.Volumes.{InDoubt, IsVolumeFor}

-- The cell of each replica holds the state that a volume of so many devices begins with.
pub record HaveFirstState (disks : Disks) (devices : ℕ) : Type 0 where
  pub each : (replica : ℕ) → replica < 3 → cell_in (disks.reads replica) 1 ≡ Some (first (held_text (first_held (formatted_state devices))))

-- The image has no label; or it has all that the disks have behind their labels, and the cells there hold that state.
abbrev pub IsBareOrWhole : Disks → ℕ → Image → Type 0
IsBareOrWhole disks devices image = IsBare disks.sizes image ⊎ (HaveFirstState disks devices × HasBehind disks image)

-- the tree of a new volume: the root alone, in so many areas
abbrev pub new_tree : Label → Tree
new_tree label = record (opening label.volume) { areas = label.areas }

-- All is sure. The cells tell the state that a volume begins with. In the state that its cells tell, the rack is a volume for the tree of a
-- new one, which it stands for as it reads, and no record is in doubt.
pub record IsNewVolume (disks : Disks) (label : Label) : Type 0 where
  pub sure : (d s : ℕ) → disks.unsure d s ≡ false
  pub state : IsOwnState disks.sizes disks.reads (formatted_state label.devices)
  pub volume : IsVolumeFor disks (IsOwnState disks.sizes) label.devices label.areas (λ before after. before ≡ after) (new_tree label)
  pub none_in_doubt : (slot : ℕ) (logged : Logged) → InDoubt disks (IsOwnState disks.sizes) label.devices label.areas slot logged → ⊥
  pub stands : StandAlone disks (new_tree label)
