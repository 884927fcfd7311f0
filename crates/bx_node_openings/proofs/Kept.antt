-- A volume at rest stays it, where what is sure on members and in labels stays; and in each state with the same devices.
use Rattle.std.proofs.Common.{◌≡◌, ◌⊎◌, inl, inr, ℕ, ◌<◌, ◌≤◌, Bool, true, false, List, length, refl, sym, ◌∙◌, ap, subst, arith}
use Rattle.std.specs.Prelude.{slice_get, slice_index}
use Rattle.bx_disk.specs.Disks.{Disks, Image}
use Rattle.bx_facts.specs.Disks.{IsKept, SameLabels, SameMembers}
use Rattle.bx_facts.specs.Writes.{IsOfStore, IsSettled, IsSourceIn, IsSourceRow, Made, label_on, member_disk, store_room}
use Rattle.bx_global.specs.declared.state.GlobalState.{GlobalState}
use Rattle.bx_layout.specs.Labels.{SpellsLabel}
use Rattle.bx_node_openings.specs.Resting.{KeepsVolume, VolumeRests}
use Rattle.bx_rows.specs.declared.device.DeviceRow.{DeviceRow}
use Rattle.bx_views.specs.Truths.{Truth}
use Rattle.bx_world_stays.proofs.Labels.{labels_keep}

-- a volume is kept where only the rest of replicas' disks is written
pub same_volume : (x y : Disks) → y.sizes ≡ x.sizes → SameMembers x y → SameLabels x y → KeepsVolume x y
same_volume x y sizes members labels = record { sizes = sizes; each = λ d sector of sure. by d sector of (below_or d) }
  where
    below_or : (d : ℕ) → (d < 3) ⊎ (3 ≤ d)
    below_or d = grind arith

    by : (d sector : ℕ) → (3 ≤ d) ⊎ (sector ≡ 0) → (d < 3) ⊎ (3 ≤ d) → IsKept x y d sector
    by d sector of (inr far) = members.each d sector far
    by d sector (inl far) (inl low) = absurd (omega (arith, far, low))
    by d sector (inr zero) (inl low) = subst (λ (k : ℕ). IsKept x y d k) (sym zero) (labels.each d low)

member_far : (device : ℕ) (second : Bool) → 3 ≤ member_disk device second
member_far device true = omega arith
member_far device false = omega arith

module _ (x y : Disks) (keeps : KeepsVolume x y) where
  -- what is settled stays so
  pub settled_keeps : (s : GlobalState) (device sector : ℕ) (content : List ℕ) → IsSettled x s device sector content → IsSettled y s device sector content
  settled_keeps s device sector content was = record {
    there = was.there;
    reads = λ second source. (kept second source).reads ∙ was.reads second source;
    sure = λ second source. (kept second source).sure (was.sure second source);
  }
    where
      kept : (second : Bool) → IsSourceIn s device second → IsKept x y (member_disk device second) sector
      kept second source = keeps.each (member_disk device second) sector (inl (member_far device second)) (was.sure second source)

  pub members_keep : (made : Made) (s : GlobalState) → IsOfStore made x s → IsOfStore made y s
  members_keep made s was = record {
    devices = was.devices;
    labels = record {
      reads = λ device second source. subst (λ (content : List ℕ). SpellsLabel (label_on made (member_disk device second)) content) (sym (kept device second source).reads) (was.labels.reads device second source);
      sure = λ device second source. (kept device second source).sure (was.labels.sure device second source);
      long = λ device second source. subst (λ (sizes : List ℕ). store_room made ≤ slice_index sizes (member_disk device second)) (sym keeps.sizes) (was.labels.long device second source);
    };
  }
    where
      kept : (device : ℕ) (second : Bool) → IsSourceIn s device second → IsKept x y (member_disk device second) 0
      kept device second source = keeps.each (member_disk device second) 0 (inl (member_far device second)) (was.labels.sure device second source)

  pub rests_keep : (made : Made) (s : GlobalState) (held : Image) (truth : Truth) → VolumeRests made x s held truth → VolumeRests made y s held truth
  rests_keep made s held truth was = record {
    volume = was.volume;
    labels = labels_keep made x y keeps.sizes (λ d low sure. let kept = keeps.each d 0 (inr refl) sure in (kept.reads, kept.sure sure)) was.labels;
    members = members_keep made s was.members;
    shut = was.shut;
    gates = λ slot gate low few. settled_keeps s _ _ _ (was.gates slot gate low few);
    homes = was.homes;
    sure = λ at is i few. settled_keeps s _ _ _ (was.sure at is i few);
  }

-- sessions and terms don't matter
module _ (x : Disks) (s t : GlobalState) (same : t.devices ≡ s.devices) where
  source_in : (device : ℕ) (second : Bool) → IsSourceIn t device second → IsSourceIn s device second
  source_in device second source = subst (λ (rows : List DeviceRow). IsSourceRow (slice_get rows device) second) same source

  pub settled_in : (device sector : ℕ) (content : List ℕ) → IsSettled x s device sector content → IsSettled x t device sector content
  settled_in device sector content was = record {
    there = let many = ap (λ (rows : List DeviceRow). length rows) same in let low = was.there in omega (arith, many, low);
    reads = λ second source. was.reads second (source_in device second source);
    sure = λ second source. was.sure second (source_in device second source);
  }

  pub rests_in : (made : Made) (held : Image) (truth : Truth) → VolumeRests made x s held truth → VolumeRests made x t held truth
  rests_in made held truth was = record {
    volume = was.volume;
    labels = was.labels;
    members = record {
      devices = ap (λ (rows : List DeviceRow). length rows) same ∙ was.members.devices;
      labels = record {
        reads = λ device second source. was.members.labels.reads device second (source_in device second source);
        sure = λ device second source. was.members.labels.sure device second (source_in device second source);
        long = λ device second source. was.members.labels.long device second (source_in device second source);
      };
    };
    shut = was.shut;
    gates = λ slot gate low few. settled_in _ _ _ (was.gates slot gate low few);
    homes = was.homes;
    sure = λ at is i few. settled_in _ _ _ (was.sure at is i few);
  }
