-- The first label is one.
use Rattle.std.proofs.Common.{◌≡◌, ◌⊎◌, inl, inr, ℕ, ◌<◌, List, sym, ◌∙◌, subst, arith}
use Rattle.bx_disk.specs.Disks.{Image}
use Rattle.bx_layout.proofs.LabelFields.{areas_in, devices_in}
use Rattle.bx_layout.specs.Labels.{SpellsLabel}
use Rattle.bx_layout.specs.declared.label.Label.{Label}
use Rattle.bx_volume.specs.Images.{IsFirstLabel}

module _ (sizes : List ℕ) (image : Image) (a b : Label) (first : IsFirstLabel sizes image a) (other : IsFirstLabel sizes image b) where
  same_disk : a.disk ≡ b.disk
  same_disk = by (order a.disk b.disk)
    where
      order : (n m : ℕ) → (n < m) ⊎ ((m < n) ⊎ (n ≡ m))
      order n m = grind arith

      by : (a.disk < b.disk) ⊎ ((b.disk < a.disk) ⊎ (a.disk ≡ b.disk)) → a.disk ≡ b.disk
      by (inl less) = absurd (other.least a.disk a less first.own)
      by (inr (inl more)) = absurd (first.least b.disk b more other.own)
      by (inr (inr same)) = same

  spells : SpellsLabel b (image a.disk 0)
  spells = subst (λ (disk : ℕ). SpellsLabel b (image disk 0)) (sym same_disk) other.own.spells

  pub same_devices : a.devices ≡ b.devices
  same_devices = sym (devices_in a (image a.disk 0) first.own.spells) ∙ devices_in b (image a.disk 0) spells

  pub same_areas : a.areas ≡ b.areas
  same_areas = sym (areas_in a (image a.disk 0) first.own.spells) ∙ areas_in b (image a.disk 0) spells
