-- The labels of replicas, by which it is known of which volume the disks of a cluster are.
use Rattle.std.specs.Prelude.{◌≡◌, ◌⊎◌, ℕ, ◌<◌, ◌≤◌, false, slice_index}
use Rattle.bx_disk.specs.Disks.{Disks}
use Rattle.bx_facts.specs.Writes.{Made, label_on}
use Rattle.bx_layout.specs.Labels.{SpellsLabel}
use Rattle.bx_layout.specs.declared.label.Label.{Label}
use Rattle.bx_places.specs.Places.{replica_sectors}

-- A replica's disk is whole and has its label, surely.
pub record IsLabelledSurely (made : Made) (x : Disks) (replica : ℕ) : Type 0 where
  pub low : replica < 3
  pub long : replica_sectors ≤ slice_index x.sizes replica
  pub reads : SpellsLabel (label_on made replica) (x.reads replica 0)
  pub sure : x.unsure replica 0 ≡ false

-- A disk is too short for a replica; or it surely has no label that names this disk.
abbrev pub HasNoLabel : Disks → ℕ → Type 0
HasNoLabel x d = (slice_index x.sizes d < replica_sectors) ⊎ ((x.unsure d 0 ≡ false) × ((label : Label) → SpellsLabel label (x.reads d 0) → label.disk ≡ d → ⊥))

-- Two replicas are labelled so, and none before the first of them has a label: the first label is the same however the disks are read.
pub record LabelsStand (made : Made) (x : Disks) : Type 0 where
  pub one : ℕ
  pub other : ℕ
  pub order : one < other
  pub is_one : IsLabelledSurely made x one
  pub is_other : IsLabelledSurely made x other
  pub none_before : (d : ℕ) → d < one → HasNoLabel x d
