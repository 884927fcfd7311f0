-- Sectors that aren't among those of a region.
use Rattle.std.proofs.Common.{◌≡◌, ℕ, ◌+◌, ◌-◌, ◌<◌, ◌≤◌, ◌⊎◌, arith, false, true, Bool}
use Rattle.std.specs.Prelude.{◌≢◌}
use Rattle.std.proofs.lemmas.Bool.Decides.{nat_tests}
use Rattle.bx_disk.specs.Disks.{is_within}

pub elsewhere : (device from count d s : ℕ) → d ≢ device → is_within device from count d s ≡ false
elsewhere device from count d s apart = grind (arith, nat_tests)

pub before_it : (device from count d s : ℕ) → s < from → is_within device from count d s ≡ false
before_it device from count d s less = grind (arith, nat_tests)

pub behind_it : (device from count d s : ℕ) → from + count ≤ s → is_within device from count d s ≡ false
behind_it device from count d s le = grind (arith, nat_tests)

pub decided : (b : Bool) → (b ≡ true) ⊎ (b ≡ false)
decided true = grind arith
decided false = grind arith

-- what is there is within
pub within_it : (device from count d s : ℕ) → d ≡ device → from ≤ s → s < from + count → is_within device from count d s ≡ true
within_it device from count d s on begins ends = grind (arith, nat_tests)

-- what is within is there
pub record Within (device from count d s : ℕ) : Type 0 where
  pub on : d ≡ device
  pub begins : from ≤ s
  pub ends : s < from + count

pub within_is : (device from count d s : ℕ) → is_within device from count d s ≡ true → Within device from count d s
within_is device from count d s is = record { on = grind (arith, nat_tests); begins = grind (arith, nat_tests); ends = grind (arith, nat_tests) }

-- which of eight sectors one is
pub part : (from s : ℕ) → from ≤ s → s < from + 8 → (n : ℕ) × (s ≡ from + n) × (n < 8)
part from s le less = (s - from, omega (arith, le), omega (arith, le, less))
