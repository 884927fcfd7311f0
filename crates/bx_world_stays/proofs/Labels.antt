-- Labels stay where their sectors do.
use Rattle.std.proofs.Common.{◌≡◌, inl, inr, ℕ, ◌<◌, ◌≤◌, Bool, true, false, eqb, List, refl, sym, ◌∙◌, subst, arith}
use Rattle.std.specs.Prelude.{slice_index}
use Rattle.std.proofs.lemmas.Bool.Decides.{nat_tests}
use Rattle.bx_disk.specs.Disks.{Disks}
use Rattle.bx_facts.specs.Disks.{Crashes, SameLabels}
use Rattle.bx_facts.specs.Writes.{Made, label_on}
use Rattle.bx_layout.specs.Labels.{SpellsLabel}
use Rattle.bx_places.specs.Places.{replica_sectors}
use Rattle.bx_world_standing.specs.Labels.{HasNoLabel, IsLabelledSurely, LabelsStand}

-- sure labels of replicas are kept
abbrev pub KeepsLabels : Disks → Disks → Type 0
KeepsLabels x y = (d : ℕ) → d < 3 → x.unsure d 0 ≡ false → (y.reads d 0 ≡ x.reads d 0) × (y.unsure d 0 ≡ false)

pub same_labels : (x y : Disks) → SameLabels x y → KeepsLabels x y
same_labels x y same d low is = ((same.each d low).reads, (same.each d low).sure is)

pub crash_labels : (disk : ℕ) (x y : Disks) → Crashes disk x y → KeepsLabels x y
crash_labels disk x y crash d low is = by (eqb d disk) refl
  where
    by : (t : Bool) → eqb d disk ≡ t → (y.reads d 0 ≡ x.reads d 0) × (y.unsure d 0 ≡ false)
    by true e = let same : d ≡ disk = grind (arith, nat_tests, e) in
        (subst (λ (k : ℕ). y.reads k 0 ≡ x.reads k 0) (sym same) (crash.sure 0 (subst (λ (k : ℕ). x.unsure k 0 ≡ false) same is)), subst (λ (k : ℕ). y.unsure k 0 ≡ false) (sym same) (crash.synced 0))
    by false e = let stays = crash.others d 0 (λ same. let f : eqb d disk ≡ true = grind (arith, nat_tests, same) in cc) in (stays.reads, stays.unsure ∙ is)

module _ (made : Made) (x y : Disks) (sizes : y.sizes ≡ x.sizes) (same : KeepsLabels x y) where
  labelled_keeps : (d : ℕ) → IsLabelledSurely made x d → IsLabelledSurely made y d
  labelled_keeps d is = record {
    low = is.low;
    long = subst (λ (n : List ℕ). replica_sectors ≤ slice_index n d) (sym sizes) is.long;
    reads = subst (λ (content : List ℕ). SpellsLabel (label_on made d) content) (sym (same d is.low is.sure).0) is.reads;
    sure = (same d is.low is.sure).1;
  }

  none_keeps : (d : ℕ) → d < 3 → HasNoLabel x d → HasNoLabel y d
  none_keeps d low (inl short) = inl (subst (λ (n : List ℕ). slice_index n d < replica_sectors) (sym sizes) short)
  none_keeps d low (inr (sure, none)) = let kept = same d low sure in inr (kept.1, λ label spells names. none label (subst (λ (content : List ℕ). SpellsLabel label content) kept.0 spells) names)

  pub labels_keep : LabelsStand made x → LabelsStand made y
  labels_keep is = record {
    one = is.one;
    other = is.other;
    order = is.order;
    is_one = labelled_keeps is.one is.is_one;
    is_other = labelled_keeps is.other is.is_other;
    none_before = λ d less. none_keeps d (let low = is.is_one.low in omega (arith, less, low)) (is.none_before d less);
  }
