-- Past the last disk there is nothing that could be unsure.
use Rattle.std.proofs.Common.{◌≡◌, ℕ, ◌<◌, ◌≤◌, ◌⊎◌, inl, inr, arith, Bool, true, false, length, refl}
use Rattle.std.specs.Prelude.{slice_index}
use Rattle.std.proofs.lemmas.List.{get_or_past}
use Rattle.bx_disk.specs.Disks.{Disks}

pub all_sure : (disks : Disks) → ((d s : ℕ) → disks.unsure d s ≡ true → s < slice_index disks.sizes d) → ((d s : ℕ) → d < length disks.sizes → disks.unsure d s ≡ false)
    → (d s : ℕ) → disks.unsure d s ≡ false
all_sure disks there sure d s = by (side d) (decided (disks.unsure d s) refl)
  where
    side : (d : ℕ) → (d < length disks.sizes) ⊎ (length disks.sizes ≤ d)
    side d = grind arith

    decided : (b : Bool) → disks.unsure d s ≡ b → (disks.unsure d s ≡ true) ⊎ (disks.unsure d s ≡ false)
    decided true is = inl is
    decided false is = inr is

    by : (d < length disks.sizes) ⊎ (length disks.sizes ≤ d) → (disks.unsure d s ≡ true) ⊎ (disks.unsure d s ≡ false) → disks.unsure d s ≡ false
    by (inl here) any = sure d s here
    by (inr past) (inr is) = is
    by (inr past) (inl is) = let less = there d s is in let none = get_or_past disks.sizes d 0 past in absurd (omega (arith, less, none))
