-- A volume that was just made is at rest.
use Rattle.std.proofs.Common.{◌≡◌, ℕ, ◌<◌, ◌≤◌, arith, Bool, true, false, List, length, take, sym, ap, ◌∙◌, subst, refl}
use Rattle.std.specs.Prelude.{◌+◌, slice_index}
use Rattle.std.proofs.lemmas.Bool.Decides.{nat_tests}
use Rattle.bx_disk.specs.Disks.{Disks, Image, zeros}
use Rattle.bx_global.specs.declared.state.GlobalState.{GlobalState}
use Rattle.bx_layout.specs.declared.label.Label.{Label}
use Rattle.bx_layout.specs.Labels.{IsLabel, IsOpenGate}
use Rattle.bx_places.specs.Places.{IsBlock, block_place, disk_count, gate_place}
use Rattle.bx_truth.specs.Opening.{opening_truth}
use Rattle.bx_volume.specs.AtRest.{IsAtRest}
use Rattle.bx_volume.specs.Images.{IsFirstLabel, IsLabelled, IsOwnLabel, devices_of, member_disk}
use Rattle.bx_volume.specs.Overlay.{IsHome}
use Rattle.bx_volume.specs.Records.{gate_of}
use Rattle.bx_format.specs.Formats.{IsFormatted, IsMade, label_of}

-- zeros are no open gate
closed : (sector : List ℕ) → sector ≡ zeros → IsOpenGate sector → ⊥
unfolding zeros
closed sector zero opened = let first = ap (λ (l : List ℕ). slice_index l 0) (sym (ap (take 8) zero) ∙ opened) in omega (arith, first)

-- what was just made is made, whatever stands on the disks of replicas
made_of : (disks : Disks) (first : Label) → IsFormatted disks first → IsMade disks first
made_of disks first is = record {
  sizes = is.sizes;
  sure = is.sure;
  labels = is.labels;
  blocks = is.blocks;
  none = record { zero = λ disk sector member low high less. is.none.zero disk sector low high less };
}

module _ (disks : Disks) (first : Label) (is : IsLabel first) (made : IsMade disks first) where
  own : (disk : ℕ) → disk < disk_count first.devices → IsOwnLabel disks.sizes disks.reads disk (label_of first disk)
  own disk less = record {
    spells = record {
      is = record {
        volume = is.volume;
        disk = omega (arith, less, is.most_devices);
        least_devices = is.least_devices;
        most_devices = is.most_devices;
        least_areas = is.least_areas;
        most_areas = is.most_areas;
      };
      parts = made.labels.each disk less;
    };
    names = refl;
    there = less;
    long_enough = let e = made.sizes.each disk less in omega (arith, e);
  }

  low : (device : ℕ) (member : Bool) → device < first.devices → member_disk device member < disk_count first.devices
  low device true less = omega (arith, less)
  low device false less = omega (arith, less)

  -- each disk has a label that counts
  pub labelled : (disk : ℕ) → disk < disk_count first.devices → IsLabelled disks.sizes disks.reads first disk
  labelled disk less = record { label = label_of first disk; own = own disk less; volume = refl; devices = refl; areas = refl }

  -- and disk 0 has the first
  pub is_first : first.disk ≡ 0 → IsFirstLabel disks.sizes disks.reads first
  is_first zero = record {
    own = subst (λ (label : Label). IsOwnLabel disks.sizes disks.reads first.disk label) (λ i. record { volume = first.volume; disk = first.disk; devices = first.devices; areas = first.areas }) (own first.disk (omega (arith, zero)));
    least = λ disk label less other. absurd (omega (arith, zero, less));
  }

  member_at : (device : ℕ) (member : Bool) → 3 ≤ member_disk device member
  member_at device true = omega arith
  member_at device false = omega arith

  home : (second : ℕ → ℕ → Bool) (at : ℕ) → IsBlock first.areas at → IsHome (devices_of disks.reads second) first.devices at (opening_truth at)
  home second at is_block = record {
    is = (made.blocks.home false at is_block).is;
    reads = record { each = λ i less. (made.blocks.home (second (block_place at first.devices).0 ((block_place at first.devices).1 + i)) at is_block).reads.each i less };
  }

  shut : (second : ℕ → ℕ → Bool) (slot gate : ℕ) → slot < 8 → gate < 8 → IsOpenGate (gate_of (devices_of disks.reads second) first.devices slot gate) → ⊥
  shut second slot gate in_slots in_gates =
      closed (gate_of (devices_of disks.reads second) first.devices slot gate)
      (made.none.zero (member_disk (gate_place slot gate first.devices).0 (second (gate_place slot gate first.devices).0 (gate_place slot gate first.devices).1)) (gate_place slot gate first.devices).1
      (member_at (gate_place slot gate first.devices).0 (second (gate_place slot gate first.devices).0 (gate_place slot gate first.devices).1)) (omega arith) (omega (arith, in_slots, in_gates))
      (fits (second (gate_place slot gate first.devices).0 (gate_place slot gate first.devices).1)))
    where
      there : (gate_place slot gate first.devices).0 < first.devices
      there = let some = is.least_devices in grind arith

      on : (disk : ℕ) → 3 ≤ disk → disk < disk_count first.devices → (gate_place slot gate first.devices).1 < slice_index disks.sizes disk
      on disk member less = rw (made.sizes.each disk less) (grind (arith, nat_tests))

      fits : (member : Bool) → (gate_place slot gate first.devices).1 < slice_index disks.sizes (member_disk (gate_place slot gate first.devices).0 member)
      fits true = on (member_disk (gate_place slot gate first.devices).0 true) (omega arith) (low (gate_place slot gate first.devices).0 true there)
      fits false = on (member_disk (gate_place slot gate first.devices).0 false) (omega arith) (low (gate_place slot gate first.devices).0 false there)

  -- so the disks are at rest, in whatever state they tell of as many devices
  pub at_rest_in : (IsState : Image → GlobalState → Type 0) → first.disk ≡ 0 → ((told : GlobalState) → IsState disks.reads told → length told.devices ≡ first.devices) → IsAtRest disks IsState first opening_truth
  at_rest_in IsState zero devices = record {
    sure = made.sure;
    is_first = is_first zero;
    labelled = λ device member less. labelled (member_disk device member) (low device member less);
    homes = home;
    gates = shut;
    state = devices;
  }

pub at_rest : (disks : Disks) (first : Label) (is : IsLabel first) (made : IsFormatted disks first) (state : GlobalState) → first.disk ≡ 0 → length state.devices ≡ first.devices
    → IsAtRest disks (λ image told. told ≡ state) first opening_truth
at_rest disks first is made state zero devices =
    at_rest_in disks first is (made_of disks first made) (λ image told. told ≡ state) zero (λ told same. ap (λ (s : GlobalState). length s.devices) same ∙ devices)
