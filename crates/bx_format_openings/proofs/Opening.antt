-- The state that a cluster of a new volume begins with: its devices, which name no boot.
use Rattle.std.proofs.Common.{◌≡◌, ℕ, zero, suc, ◌≤◌, length, refl, ap, arith}
use Rattle.std.specs.Prelude.{IfSome, replicate, slice_get}
use Rattle.bx_facts.specs.Writes.{NamesUpTo}
use Rattle.bx_global.specs.Opening.{first_device, opening_state}

pub opening_devices : (nodes devices : ℕ) → length (opening_state nodes devices).devices ≡ devices
opening_devices nodes devices = many devices
  where
    many : (n : ℕ) → length (replicate n first_device) ≡ n
    many zero = refl
    many (suc n) = ap suc (many n)

first_names : (devices device : ℕ) → IfSome (slice_get (replicate devices first_device) device) (λ row. (row.boot_a ≤ 0) × (row.boot_b ≤ 0))
first_names zero device = tt
first_names (suc n) zero = (omega arith, omega arith)
first_names (suc n) (suc device) = first_names n device

pub opening_names : (nodes devices : ℕ) → NamesUpTo 0 (opening_state nodes devices)
opening_names nodes devices = record { each = λ device. first_names devices device }
