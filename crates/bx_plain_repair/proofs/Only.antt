-- Logs where slot 0 alone has records.
use Rattle.std.proofs.Common.{◌≡◌, refl, ℕ, zero, suc, arith, Bool, false, List, [], ◌∙◌, ap, sym}
use Rattle.std.specs.Prelude.{◌≢◌, ◌==◌, if◌then◌else◌}
use Rattle.std.proofs.lemmas.Bool.Decides.{nat_tests}
use Rattle.bx_volume.specs.Overlay.{Logs, with_log}
use Rattle.bx_volume.specs.Records.{Logged}
use Rattle.bx_plain_repair.specs.Resting.{only}

other_false : (slot : ℕ) → slot ≢ 0 → (slot == 0) ≡ false
other_false slot apart = grind (arith, nat_tests)

-- the other slots have none
pub others_none : (records : List Logged) (slot : ℕ) → slot ≢ 0 → only records slot ≡ []
others_none records slot apart = ap (λ (b : Bool). if b then records else []) (other_false slot apart)

-- logs of which no other slot has records are so
pub are_only : (logs : Logs) (records : List Logged) → logs 0 ≡ records → ((slot : ℕ) → slot ≢ 0 → logs slot ≡ []) → logs ≡ only records
are_only logs records same others = λ i slot. at slot i
  where
    at : (slot : ℕ) → logs slot ≡ only records slot
    at zero = same
    at (suc slot) = others (suc slot) (λ e. omega (arith, e)) ∙ sym (others_none records (suc slot) (λ e. omega (arith, e)))

with_false : (logs : Logs) (records : List Logged) (slot : ℕ) → slot ≢ 0 → with_log logs 0 records slot ≡ logs slot
with_false logs records slot apart = ap (λ (b : Bool). if b then records else logs slot) (other_false slot apart)

-- with other records in slot 0
pub with_only : (logs : Logs) (records : List Logged) → ((slot : ℕ) → slot ≢ 0 → logs slot ≡ []) → with_log logs 0 records ≡ only records
with_only logs records others = are_only (with_log logs 0 records) records refl (λ slot apart. with_false logs records slot apart ∙ others slot apart)

pub only_again : (old records : List Logged) → with_log (only old) 0 records ≡ only records
only_again old records = with_only (only old) records (others_none old)

-- none has records
pub only_none : only [] ≡ (λ slot. [])
only_none = λ i slot. at slot i
  where
    at : (slot : ℕ) → only [] slot ≡ []
    at zero = refl
    at (suc slot) = others_none [] (suc slot) (λ e. omega (arith, e))
