-- Source members on disks that are long enough, device by device.
use Rattle.std.proofs.Common.{◌≡◌, ℕ, ◌+◌, ◌<◌, ◌⊎◌, ⊎_elim, true, false, List, Some, arith, sym, ap, ◌∙◌, subst}
use Rattle.std.specs.Prelude.{slice_get}
use Rattle.bx_layout.specs.declared.label.Label.{Label}
use Rattle.bx_rows.specs.declared.device.DeviceRow.{DeviceRow}
use Rattle.bx_rows.specs.Modes.{IsSource}
use Rattle.bx_volume.specs.Images.{member_disk}
use Rattle.bx_homes.specs.Sources.{IsLongEnough, HaveRoom}

module _ (sizes : List ℕ) (first : Label) (rows : List DeviceRow) (device : ℕ) (here : DeviceRow) (there : slice_get rows device ≡ Some here)
    (before : (d : ℕ) (row : DeviceRow) → d < device → slice_get rows d ≡ Some row → HaveRoom sizes first d row) where
  same_row : (row : DeviceRow) (d : ℕ) → d ≡ device → slice_get rows d ≡ Some row → here ≡ row
  same_row row d same is = let both = sym there ∙ ap (slice_get rows) (sym same) ∙ is in cc

  below_or : (n m : ℕ) → n < m + 1 → (n < m) ⊎ (n ≡ m)
  below_or n m less = grind (arith, less)

  pub rooms_too : (IsSource here.mode false → IsLongEnough sizes first (member_disk device false)) → (IsSource here.mode true → IsLongEnough sizes first (member_disk device true))
      → (d : ℕ) (row : DeviceRow) → d < device + 1 → slice_get rows d ≡ Some row → HaveRoom sizes first d row
  rooms_too a b d row less is = ⊎_elim (λ under. before d row under is) (λ same. at d row same (same_row row d same is)) (below_or d device less)
    where
      of : HaveRoom sizes first device here
      of false source = a source
      of true source = b source

      at : (d : ℕ) (row : DeviceRow) → d ≡ device → here ≡ row → HaveRoom sizes first d row
      at d row same is = subst (λ (n : ℕ). HaveRoom sizes first n row) (sym same) (subst (HaveRoom sizes first device) is of)
