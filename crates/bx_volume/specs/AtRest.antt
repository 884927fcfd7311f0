-- A rack at rest, as it was just formatted or after everything is written and synced.
use Rattle.std.specs.Prelude.{◌≡◌, ℕ, ◌<◌, Bool, false, length}
use Rattle.bx_disk.specs.Disks.{Image, Disks}
use Rattle.bx_global.specs.declared.state.GlobalState.{GlobalState}
use Rattle.bx_layout.specs.declared.label.Label.{Label}
use Rattle.bx_layout.specs.Labels.{IsOpenGate}
use Rattle.bx_places.specs.Places.{IsBlock}
use Rattle.bx_volume.specs.Images.{IsFirstLabel, IsLabelled, devices_of, member_disk}
use Rattle.bx_truth.specs.bx_views.specs.Truths.{Truth}
use Rattle.bx_volume.specs.Records.{gate_of}
use Rattle.bx_volume.specs.Overlay.{IsHome}

-- All is sure. The labels stand. On each member each block of a truth is in its home and all gates are closed. The state that is told
-- has as many devices as the labels say.
pub record IsAtRest (disks : Disks) (IsState : Image → GlobalState → Type 0) (first : Label) (truth : Truth) : Type 0 where
  pub sure : (d s : ℕ) → disks.unsure d s ≡ false
  pub is_first : IsFirstLabel disks.sizes disks.reads first
  pub labelled : (device : ℕ) (member : Bool) → device < first.devices → IsLabelled disks.sizes disks.reads first (member_disk device member)
  pub homes : (second : ℕ → ℕ → Bool) (at : ℕ) → IsBlock first.areas at → IsHome (devices_of disks.reads second) first.devices at (truth at)
  pub gates : (second : ℕ → ℕ → Bool) (slot gate : ℕ) → slot < 8 → gate < 8 → IsOpenGate (gate_of (devices_of disks.reads second) first.devices slot gate) → ⊥
  pub state : (told : GlobalState) → IsState disks.reads told → length told.devices ≡ first.devices
