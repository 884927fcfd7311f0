-- Source members with labels, device by device.
use Rattle.std.proofs.Common.{◌≡◌, ℕ, ◌+◌, ◌<◌, ◌⊎◌, ⊎_elim, true, false, List, Some, arith, refl, sym, ap, ◌∙◌, subst}
use Rattle.std.specs.Prelude.{slice_get}
use Rattle.bx_disk.specs.Disks.{Disks}
use Rattle.bx_layout.specs.declared.label.Label.{Label}
use Rattle.bx_rows.specs.declared.device.DeviceRow.{DeviceRow}
use Rattle.bx_rows.specs.Modes.{IsSource}
use Rattle.bx_volume.specs.Images.{IsLabelled, member_disk}
use Rattle.bx_homes.specs.Sources.{AreLabelled, IsFirstUnlabelled}

module _ (first : Label) where
  pub moved : {P : Type 0} (a b : Disks) (disk : ℕ) → a ≡ b → (P → IsLabelled a.sizes a.reads first disk) → P → IsLabelled b.sizes b.reads first disk
  moved a b disk same labelled p = subst (λ (s : Disks). IsLabelled s.sizes s.reads first disk) same (labelled p)

  pub moved_not : (a b : Disks) (disk : ℕ) → a ≡ b → (IsLabelled a.sizes a.reads first disk → ⊥) → IsLabelled b.sizes b.reads first disk → ⊥
  moved_not a b disk same without labelled = without (subst (λ (s : Disks). IsLabelled s.sizes s.reads first disk) (sym same) labelled)

  module _ (disks : Disks) (rows : List DeviceRow) (device : ℕ) (here : DeviceRow) (there : slice_get rows device ≡ Some here)
      (before : (d : ℕ) (row : DeviceRow) → d < device → slice_get rows d ≡ Some row → AreLabelled disks.sizes disks.reads first d row) where
    same_row : (row : DeviceRow) (d : ℕ) → d ≡ device → slice_get rows d ≡ Some row → here ≡ row
    same_row row d same is = let both = sym there ∙ ap (slice_get rows) (sym same) ∙ is in cc

    below_or : (n m : ℕ) → n < m + 1 → (n < m) ⊎ (n ≡ m)
    below_or n m less = grind (arith, less)

    pub one_more : (IsSource here.mode false → IsLabelled disks.sizes disks.reads first (member_disk device false))
        → (IsSource here.mode true → IsLabelled disks.sizes disks.reads first (member_disk device true))
        → (d : ℕ) (row : DeviceRow) → d < device + 1 → slice_get rows d ≡ Some row → AreLabelled disks.sizes disks.reads first d row
    one_more a b d row less is = ⊎_elim (λ under. before d row under is) (λ same. at d row same (same_row row d same is)) (below_or d device less)
      where
        of : AreLabelled disks.sizes disks.reads first device here
        of false source = a source
        of true source = b source

        at : (d : ℕ) (row : DeviceRow) → d ≡ device → here ≡ row → AreLabelled disks.sizes disks.reads first d row
        at d row same is = subst (λ (n : ℕ). AreLabelled disks.sizes disks.reads first n row) (sym same) (subst (AreLabelled disks.sizes disks.reads first device) is of)

    pub without_a : (disk : ℕ) → disk ≡ member_disk device false → IsSource here.mode false → (IsLabelled disks.sizes disks.reads first (member_disk device false) → ⊥)
        → IsFirstUnlabelled disks.sizes disks.reads first rows disk
    without_a disk is source without = record {
      device = device;
      row = here;
      member = false;
      there = there;
      source = source;
      disk_is = is;
      without = λ labelled. without (subst (IsLabelled disks.sizes disks.reads first) is labelled);
      before = before;
      before_it = λ _ _. refl;
    }

    pub without_b : (disk : ℕ) → disk ≡ member_disk device true → (IsSource here.mode false → IsLabelled disks.sizes disks.reads first (member_disk device false))
        → IsSource here.mode true → (IsLabelled disks.sizes disks.reads first (member_disk device true) → ⊥)
        → IsFirstUnlabelled disks.sizes disks.reads first rows disk
    without_b disk is a source without = record {
      device = device;
      row = here;
      member = true;
      there = there;
      source = source;
      disk_is = is;
      without = λ labelled. without (subst (IsLabelled disks.sizes disks.reads first) is labelled);
      before = before;
      before_it = λ of_a not_a. absurd (not_a (a of_a));
    }
