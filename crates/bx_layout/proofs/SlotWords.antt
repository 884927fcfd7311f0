-- Slots: a word that is written, and a bit that is set or cleared.
use Rattle.std.proofs.Common.{◌≡◌, ℕ, ◌*◌, ◌/◌, ◌%◌, ◌^◌, ◌<◌, Bool, true, false, cond, eqb, List, length, refl, ap, ◌∙◌, arith, inl, inr, eq-eqb, ne_eqb}
use Rattle.std.specs.Prelude.{replicate, slice_index, slice_set}
use Rattle.std.specs.Int.{w8, bit_not}
use Rattle.std.specs.Int.RustNames.{bit_and, bit_or}
use Rattle.std.proofs.lemmas.Bool.{cases_eq, cases_lt}
use Rattle.std.proofs.lemmas.List.{length-replicate, get_or-replicate, get_or_past, get_or-set_same, get_or-set_other}
use Rattle.std.proofs.lemmas.Nat.Bits.{bit_at_set_same, bit_at_set_other, bit_at_clear_same, bit_at_clear_other}
use Rattle.bx_layout.specs.Areas.{IsArea, bit}

-- a byte's bits once one of them is set or cleared
pub bit_set : (byte n other : ℕ) → n < 8 → bit (bit_or byte (1 * 2 ^ n % 2 ^ 8)) other ≡ cond (eqb other n) true (bit byte other)
bit_set byte n other lt =
    elim (cases_eq other n) [
      | inl same ↦ rw (same, eq-eqb n n refl) (ap (λ b. eqb b 1) (bit_at_set_same w8 byte n lt))
      | inr apart ↦ rw (ne_eqb other n apart) (ap (λ b. eqb b 1) (bit_at_set_other w8 byte n lt other apart))
    ]

pub bit_cleared : (byte n other : ℕ) → n < 8 → other < 8 → bit (bit_and byte (bit_not w8 (1 * 2 ^ n % 2 ^ 8))) other ≡ cond (eqb other n) false (bit byte other)
bit_cleared byte n other lt below =
    elim (cases_eq other n) [
      | inl same ↦ rw (same, eq-eqb n n refl) (ap (λ b. eqb b 1) (bit_at_clear_same w8 byte n lt))
      | inr apart ↦ rw (ne_eqb other n apart) (ap (λ b. eqb b 1) (bit_at_clear_other w8 byte n lt other below apart))
    ]

-- the bits of all slots once one byte is another
pub marked : (bytes : List ℕ) (slot other byte : ℕ) (dead : Bool) → slot < 8 * length bytes
    → ((n : ℕ) → n < 8 → bit byte n ≡ cond (eqb n (slot % 8)) dead (bit (slice_index bytes (slot / 8)) n))
    → bit (slice_index (slice_set bytes (slot / 8) byte) (other / 8)) (other % 8) ≡ cond (eqb other slot) dead (bit (slice_index bytes (other / 8)) (other % 8))
marked bytes slot other byte dead lt bits =
    elim (cases_eq (other / 8) (slot / 8)) [
      | inl same ↦
          elim (cases_eq (other % 8) (slot % 8)) [
            | inl alike ↦
                let one : eqb other slot ≡ true = eq-eqb _ _ (omega arith) in
                rw (same, get_or-set_same bytes (slot / 8) byte 0 (omega arith), bits (other % 8) (omega arith), one, eq-eqb _ _ alike) refl
            | inr apart ↦
                let one : eqb other slot ≡ false = ne_eqb _ _ (λ e. apart (ap (λ n. n % 8) e)) in
                rw (same, get_or-set_same bytes (slot / 8) byte 0 (omega arith), bits (other % 8) (omega arith), one, ne_eqb _ _ apart) refl
          ]
      | inr apart ↦
          let one : eqb other slot ≡ false = ne_eqb _ _ (λ e. apart (ap (λ n. n / 8) e)) in
          rw (one, get_or-set_other bytes (slot / 8) (other / 8) byte 0 apart) refl
    ]

-- an area of zeros
pub zero_area : (n m : ℕ) → n ≡ 960 → m ≡ 120 → IsArea (record { words = replicate n 0; dead = replicate m 0 })
zero_area n m words dead = record {
  words = length-replicate {A = ℕ} n 0 ∙ words;
  fits = λ slot.
      elim (cases_lt slot n) [
        | inl lt ↦ rw (get_or-replicate {A = ℕ} n slot 0 0 lt) (omega arith)
        | inr le ↦ rw (get_or_past {X = ℕ} (replicate n 0) slot 0 (omega (arith, length-replicate {A = ℕ} n 0))) (omega arith)
      ];
  dead = length-replicate {A = ℕ} m 0 ∙ dead;
}
