-- The label of a replica's disk is one of a volume's disk, and the other way round.
use Rattle.std.proofs.Common.{◌≡◌, ℕ, ◌+◌, ◌*◌, ◌<◌, ◌≤◌, true, List, refl, sym, ap, subst, ◌∙◌, arith}
use Rattle.std.specs.Prelude.{◌↔◌, nat_lt, slice_index, if◌then◌else◌}
use Rattle.std.proofs.lemmas.Bool.Decides.{nat_tests}
use Rattle.bx_disk.specs.Disks.{Image}
use Rattle.bx_facts.specs.Labelled as facts
use Rattle.bx_layout.proofs.LabelFields.{same_label}
use Rattle.bx_layout.specs.Labels.{SpellsLabel}
use Rattle.bx_layout.specs.declared.label.Label.{Label}
use Rattle.bx_places.specs.Places.{disk_sectors, replica_sectors}
use Rattle.bx_volume.specs.Images as volumes

replica_disk : (devices areas n : ℕ) → n < 3 → disk_sectors devices areas n ≡ replica_sectors
replica_disk devices areas n low = grind (arith, nat_tests, low)

to_volume : (sizes : List ℕ) (image : Image) (n : ℕ) (label : Label) → facts.IsOwnLabel sizes image n label → volumes.IsOwnLabel sizes image n label
to_volume sizes image n label own = record {
  spells = own.spells;
  names = own.names;
  there = (let low = own.whole.low in omega (arith, low));
  long_enough = subst (λ (k : ℕ). k ≤ slice_index sizes n) (sym (replica_disk label.devices label.areas n own.whole.low)) own.whole.long_enough;
}

of_volume : (sizes : List ℕ) (image : Image) (n : ℕ) (label : Label) → n < 3 → volumes.IsOwnLabel sizes image n label → facts.IsOwnLabel sizes image n label
of_volume sizes image n label low own = record {
  whole = record { low = low; long_enough = subst (λ (k : ℕ). k ≤ slice_index sizes n) (replica_disk label.devices label.areas n low) own.long_enough };
  spells = own.spells;
  names = own.names;
}

pub first_agrees : (sizes : List ℕ) (image : Image) (first : Label) → facts.IsFirstLabel sizes image first ↔ (volumes.IsFirstLabel sizes image first × (first.disk < 3))
first_agrees sizes image first = (
  λ is. (
    record {
      own = to_volume sizes image first.disk first is.own;
      least = λ disk label less own. is.least disk label less (of_volume sizes image disk label (let low = is.own.whole.low in omega (arith, less, low)) own);
    },
    is.own.whole.low,
  ),
  λ (is, low). record {
    own = of_volume sizes image first.disk first low is.own;
    least = λ n label less own. is.least n label less (to_volume sizes image n label own);
  },
)

pub labelled_agrees : (devices : ℕ) (sizes : List ℕ) (image : Image) (n : ℕ) → facts.IsReplicaLabelled devices sizes image n
    ↔ ((first : Label) × volumes.IsFirstLabel sizes image first × (first.disk < 3) × (first.devices ≡ devices) × (n < 3) × volumes.IsLabelled sizes image first n)
labelled_agrees devices sizes image n = (
  λ is.
      let first = (first_agrees sizes image is.first).0 is.is_first in (
        is.first,
        first.0,
        first.1,
        is.devices_are,
        is.whole.low,
        record {
          label = facts.label_on is.first n;
          own = to_volume sizes image n (facts.label_on is.first n) (record { whole = is.whole; spells = is.spells; names = refl });
          volume = refl;
          devices = refl;
          areas = refl;
        },
      ),
  λ (first, is_first, below, same, low, label).
      let own = of_volume sizes image n label.label low label.own in
      record {
        whole = own.whole;
        first = first;
        is_first = (first_agrees sizes image first).1 (is_first, below);
        devices_are = same;
        spells = subst (λ (l : Label). SpellsLabel l (image n 0)) (sym (same_label first.volume n first.devices first.areas label.label (sym label.volume) (sym own.names) (sym label.devices) (sym label.areas))) own.spells;
      },
)
