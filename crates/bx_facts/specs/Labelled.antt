-- Which replicas are labelled: their disks have labels of their own, of the volume that the first of these labels is of, and are as long as a
-- replica's disk is.
use Rattle.std.specs.Prelude.{◌≡◌, ℕ, ◌<◌, ◌≤◌, List, slice_index}
use Rattle.bx_calls.specs.bx_disk.specs.Disks.{Image}
use Rattle.bx_records.specs.bx_layout.specs.Labels.{SpellsLabel}
use Rattle.bx_records.specs.bx_layout.specs.declared.label.Label.{Label}
use Rattle.bx_records.specs.bx_places.specs.Places.{replica_sectors}

-- the disk of a replica, which has all of its sectors
pub record IsWhole (sizes : List ℕ) (replica : ℕ) : Type 0 where
  pub low : replica < 3
  pub long_enough : replica_sectors ≤ slice_index sizes replica

-- a label that names the very disk that it stands on, which is whole
pub record IsOwnLabel (sizes : List ℕ) (image : Image) (replica : ℕ) (label : Label) : Type 0 where
  pub whole : IsWhole sizes replica
  pub spells : SpellsLabel label (image replica 0)
  pub names : label.disk ≡ replica

-- the label of the least replica that has one of its own
pub record IsFirstLabel (sizes : List ℕ) (image : Image) (first : Label) : Type 0 where
  pub own : IsOwnLabel sizes image first.disk first
  pub least : (replica : ℕ) (label : Label) → replica < first.disk → IsOwnLabel sizes image replica label → ⊥

-- the label that another disk of the same volume has
abbrev pub label_on : Label → ℕ → Label
label_on label disk = record { volume = label.volume; disk = disk; devices = label.devices; areas = label.areas }

-- The disk of a replica is whole and has the label that it has on the volume that the first label is of, and this volume has so many devices.
pub record IsReplicaLabelled (devices : ℕ) (sizes : List ℕ) (image : Image) (replica : ℕ) : Type 0 where
  pub whole : IsWhole sizes replica
  pub first : Label
  pub is_first : IsFirstLabel sizes image first
  pub devices_are : first.devices ≡ devices
  pub spells : SpellsLabel (label_on first replica) (image replica 0)
