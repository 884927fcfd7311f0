-- A list of devices of which one is changed.
use Rattle.std.proofs.Common.{◌≡◌, ℕ, zero, suc, List, [], ◌∷◌, length, Some, refl, ap}
use Rattle.std.specs.Prelude.{slice_get, slice_set}
use Rattle.bx_rows.specs.declared.device.DeviceRow.{DeviceRow}
use Rattle.bx_rows.specs.Rows.{at_place}

pub length-at_place : (n : ℕ) (f : DeviceRow → DeviceRow) (rows : List DeviceRow) → length (at_place n f rows) ≡ length rows
length-at_place n f [] = refl
length-at_place zero f (row ∷ rows) = refl
length-at_place (suc n) f (row ∷ rows) = ap (λ (k : ℕ). suc k) (length-at_place n f rows)

pub at_place_same : (n : ℕ) (f : DeviceRow → DeviceRow) (rows : List DeviceRow) (x : DeviceRow) → slice_get rows n ≡ Some x → slice_get (at_place n f rows) n ≡ Some (f x)
at_place_same n f [] x e = absurd cc
at_place_same zero f (row ∷ rows) x e = let h : row ≡ x = cc in rw h refl
at_place_same (suc n) f (row ∷ rows) x e = at_place_same n f rows x e

pub at_place_at : (n : ℕ) (f : DeviceRow → DeviceRow) (rows : List DeviceRow) (i : ℕ) (x : DeviceRow) → i ≡ n → slice_get rows i ≡ Some x → slice_get (at_place n f rows) i ≡ Some (f x)
at_place_at n f rows i x is e = let here = rw is at e in rw is (at_place_same n f rows x here)

-- a row that is put in the place of another
pub set_at_place : (n : ℕ) (f : DeviceRow → DeviceRow) (rows : List DeviceRow) (x : DeviceRow) → slice_get rows n ≡ Some x → slice_set rows n (f x) ≡ at_place n f rows
set_at_place n f [] x e = absurd cc
set_at_place zero f (row ∷ rows) x e = let h : row ≡ x = cc in rw h refl
set_at_place (suc n) f (row ∷ rows) x e = ap (λ (rs : List DeviceRow). row ∷ rs) (set_at_place n f rows x e)

-- other places stay
pub at_place-other : (n : ℕ) (f : DeviceRow → DeviceRow) (rows : List DeviceRow) (i : ℕ) → (i ≡ n → ⊥) → slice_get (at_place n f rows) i ≡ slice_get rows i
at_place-other n f [] i ne = refl
at_place-other zero f (row ∷ rows) zero ne = absurd (ne refl)
at_place-other zero f (row ∷ rows) (suc i) ne = refl
at_place-other (suc n) f (row ∷ rows) zero ne = refl
at_place-other (suc n) f (row ∷ rows) (suc i) ne = at_place-other n f rows i (λ h. ne (ap (λ (k : ℕ). suc k) h))
