-- A volume that was just made is at rest, for stores that are made for it, in each state with as many devices.
use Rattle.std.proofs.Common.{◌≡◌, ℕ, ◌+◌, ◌/◌, ◌<◌, ◌≤◌, Bool, true, false, length, refl, sym, ◌∙◌, ap, arith}
use Rattle.std.specs.Prelude.{slice_index}
use Rattle.std.proofs.lemmas.Bool.Decides.{nat_tests}
use Rattle.std.proofs.Math.Nat.{mod-lt}
use Rattle.bx_disk.specs.Disks.{Disks, zeros}
use Rattle.bx_facts.specs.Writes.{IsOfStore, IsSourceIn, Made, label_on, member_disk, store_room}
use Rattle.bx_format.proofs.Rests.{at_rest}
use Rattle.bx_format.specs.Formats.{IsFormatted}
use Rattle.bx_global.specs.declared.state.GlobalState.{GlobalState}
use Rattle.bx_layout.specs.declared.label.Label.{Label}
use Rattle.bx_layout.specs.Labels.{IsLabel, SpellsLabel}
use Rattle.bx_node_openings.specs.Resting.{VolumeRests}
use Rattle.bx_places.specs.Places.{IsBlock, block_place, disk_count, disk_sectors, log_device, log_start}
use Rattle.bx_format_openings.proofs.Alike.{alike_settled, first_members, source_there}
use Rattle.bx_redo.proofs.Settled.{one_disk}
use Rattle.bx_truth.specs.Opening.{opening_truth}
use Rattle.bx_volume.proofs.Sizes.{block_bytes}
use Rattle.bx_volume.specs.AtRest.{IsAtRest}
use Rattle.bx_node_openings.specs.bx_world_standing.specs.Labels.{IsLabelledSurely, LabelsStand}

module _ (x : Disks) (volume nodes devices areas : ℕ) (s : GlobalState) (is : IsLabel (record { volume = volume; disk = 0; devices = devices; areas = areas })) (many : length s.devices ≡ devices)
    (made : IsFormatted x (record { volume = volume; disk = 0; devices = devices; areas = areas })) where
  abbrev first : Label
  first = record { volume = volume; disk = 0; devices = devices; areas = areas }

  abbrev its_store : Made
  its_store = record { volume = volume; nodes = nodes; devices = devices; areas = areas }

  rest : IsAtRest x (λ image told. told ≡ s) first opening_truth
  rest = at_rest x first is made s refl many

  disk_there : (device : ℕ) (second : Bool) → device < devices → member_disk device second < disk_count devices
  disk_there device true less = omega (arith, less)
  disk_there device false less = omega (arith, less)

  disk_far : (device : ℕ) (second : Bool) → 3 ≤ member_disk device second
  disk_far device true = omega arith
  disk_far device false = omega arith

  spells : (disk : ℕ) → disk < disk_count devices → SpellsLabel (label_on its_store disk) (x.reads disk 0)
  spells disk less = record {
    is = record {
      volume = is.volume;
      disk = omega (arith, less, is.most_devices);
      least_devices = is.least_devices;
      most_devices = is.most_devices;
      least_areas = is.least_areas;
      most_areas = is.most_areas;
    };
    parts = made.labels.each disk less;
  }

  replica : (disk : ℕ) → disk < 2 → IsLabelledSurely its_store x disk
  replica disk less = record {
    low = omega (arith, less);
    long = long (made.sizes.each disk (omega (arith, less)));
    reads = spells disk (omega (arith, less));
    sure = made.sure disk 0;
  }
    where
      long : slice_index x.sizes disk ≡ disk_sectors devices areas disk → 21 ≤ slice_index x.sizes disk
      long e = grind (arith, nat_tests, e, less)

  labels : LabelsStand its_store x
  labels = record { one = 0; other = 1; order = omega arith; is_one = replica 0 (omega arith); is_other = replica 1 (omega arith); none_before = λ d less. absurd (omega (arith, less)) }

  there : (device : ℕ) (second : Bool) → IsSourceIn s device second → device < devices
  there device second source = let low = source_there s device second source in omega (arith, low, many)

  members : IsOfStore its_store x s
  members = record {
    devices = many;
    labels = record {
      reads = λ device second source. spells (member_disk device second) (disk_there device second (there device second source));
      sure = λ device second source. made.sure (member_disk device second) 0;
      long = λ device second source. long device second (there device second source);
    };
  }
    where
      long : (device : ℕ) (second : Bool) → device < devices → store_room its_store ≤ slice_index x.sizes (member_disk device second)
      long device second less =
          let e = made.sizes.each (member_disk device second) (disk_there device second less) in
          let far = disk_far device second in
          grind (arith, nat_tests, e, far)

  -- both members read alike where the gates are, and where the homes
  gates_alike : (slot gate : ℕ) → slot < 8 → gate < 8 → x.reads (member_disk (log_device slot devices) true) (log_start slot + gate) ≡ x.reads (member_disk (log_device slot devices) false) (log_start slot + gate)
  gates_alike slot gate low few = zero true ∙ sym (zero false)
    where
      room : (second : Bool) → log_start slot + gate < slice_index x.sizes (member_disk (log_device slot devices) second)
      room second =
          let e = made.sizes.each (member_disk (log_device slot devices) second) (disk_there (log_device slot devices) second (mod-lt slot is.least_devices)) in
          let far = disk_far (log_device slot devices) second in
          rw e (grind (arith, nat_tests, far, low, few))

      zero : (second : Bool) → x.reads (member_disk (log_device slot devices) second) (log_start slot + gate) ≡ zeros
      zero second = made.none.zero (member_disk (log_device slot devices) second) (log_start slot + gate) (omega arith) (omega (arith, low, few)) (room second)

  homes_alike : (at i : ℕ) → IsBlock areas at → i < 9
      → x.reads (member_disk (block_place at devices).0 true) ((block_place at devices).1 + i) ≡ x.reads (member_disk (block_place at devices).0 false) ((block_place at devices).1 + i)
  homes_alike at i is_block few =
      let a = rest.homes (λ device sector. true) at is_block in
      let b = rest.homes (λ device sector. false) at is_block in
      let long = block_bytes (opening_truth at) b.is in
      ap (λ (n : ℕ). x.reads n ((block_place at devices).1 + i)) (sym (one_disk (block_place at devices).0 true)) ∙ a.reads.each i (omega (arith, few, long))
      ∙ sym (b.reads.each i (omega (arith, few, long))) ∙ ap (λ (n : ℕ). x.reads n ((block_place at devices).1 + i)) (one_disk (block_place at devices).0 false)

  pub formatted_rests : VolumeRests its_store x s (first_members x) opening_truth
  formatted_rests = record {
    volume = record { least_devices = is.least_devices; most_devices = is.most_devices; least_areas = is.least_areas; most_areas = is.most_areas };
    labels = labels;
    members = members;
    shut = λ slot gate low few. rest.gates (λ device sector. false) slot gate low few;
    gates = λ slot gate low few. alike_settled x s (log_device slot devices) (log_start slot + gate) (let less = mod-lt slot is.least_devices in omega (arith, less, many)) (λ second. made.sure _ _) (gates_alike slot gate low few);
    homes = λ at is_block. rest.homes (λ device sector. false) at is_block;
    sure = λ at is_block i few. alike_settled x s (block_place at devices).0 ((block_place at devices).1 + i) (let less = mod-lt (at / 1024) is.least_devices in omega (arith, less, many)) (λ second. made.sure _ _) (homes_alike at i is_block few);
  }
