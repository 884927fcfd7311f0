-- Sources with disks, device by device.
use Rattle.std.proofs.Common.{◌≡◌, ℕ, ◌+◌, ◌<◌, ◌⊎◌, ⊎_elim, List, Some, arith, sym, ap, ◌∙◌, subst}
use Rattle.std.specs.Prelude.{slice_get}
use Rattle.bx_rows.specs.declared.device.DeviceRow.{DeviceRow}
use Rattle.bx_homes.specs.Sources.{HasSource, IsFirstAbsent}

module _ (sizes : List ℕ) (rows : List DeviceRow) (device : ℕ) (here : DeviceRow) (there : slice_get rows device ≡ Some here)
    (before : (d : ℕ) (row : DeviceRow) → d < device → slice_get rows d ≡ Some row → HasSource sizes d row) where
  same_row : (row : DeviceRow) (d : ℕ) → d ≡ device → slice_get rows d ≡ Some row → here ≡ row
  same_row row d same is = let both = sym there ∙ ap (slice_get rows) (sym same) ∙ is in cc

  below_or : (n m : ℕ) → n < m + 1 → (n < m) ⊎ (n ≡ m)
  below_or n m less = grind (arith, less)

  pub one_more : HasSource sizes device here → (d : ℕ) (row : DeviceRow) → d < device + 1 → slice_get rows d ≡ Some row → HasSource sizes d row
  one_more has d row less is = ⊎_elim
      (λ under. before d row under is)
      (λ same. subst (λ (n : ℕ). HasSource sizes n row) (sym same) (subst (HasSource sizes device) (same_row row d same is) has))
      (below_or d device less)

  pub first : (HasSource sizes device here → ⊥) → IsFirstAbsent sizes rows device
  first without = record { row = here; there = there; absent = without; before = before }
