-- The test of a datagram tells exactly those that are a call's.
use Rattle.std.proofs.Common.{◌≡◌, ℕ, ◌^◌, ◌<◌, ◌≤◌, Bool, true, false, List, [], ◌∷◌, ◌++◌, length, take, drop, refl, sym, ap, ◌∙◌, inl, inr, arith}
use Rattle.std.specs.Prelude.{◌&&◌, nat_le}
use Rattle.std.specs.Int.{w32, to_be_bytes, from_be_bytes}
use Rattle.std.specs.Str.{bytes_eq}
use Rattle.std.proofs.lemmas.Bool.{cases_lt, le-leb, leb-true}
use Rattle.std.proofs.lemmas.List.{take-append-drop, length-take, length-drop, get_or-take, get_or_past}
use Rattle.std.proofs.lemmas.Nat.{be_bytes_4}
use Rattle.std.proofs.lemmas.Slice.Eq.{bytes_eq-Decides}
use Rattle.bx_xdr.specs.bx_base.specs.Bytes.{IsBytes, words}
use Rattle.bx_rpc.specs.Message.{IsCall, is_message}

both : (a b : Bool) → (a && b) ≡ true → (a ≡ true) × (b ≡ true)
both true true is = (refl, refl)
both true false is = absurd cc
both false b is = absurd cc

as_both : (a b : Bool) → a ≡ true → b ≡ true → (a && b) ≡ true
as_both a b is also = rw (is, also) refl

-- a datagram that is a call's passes
pub told : (datagram : List ℕ) (xid : ℕ) (text : List ℕ) → IsCall datagram xid text → is_message datagram ≡ true
told datagram xid text call =
    let whole : datagram ≡ words (xid ∷ 0 ∷ []) ++ text = call.reads.parts ∙ ap (λ (s : List ℕ). s ++ text) call.reads.spells.parts in
    let second : take 4 (drop 4 datagram) ≡ 0 ∷ 0 ∷ 0 ∷ 0 ∷ [] = ap (λ (d : List ℕ). take 4 (drop 4 d)) whole in
    as_both (nat_le (length datagram) 9216) (bytes_eq (take 4 (drop 4 datagram)) (0 ∷ 0 ∷ 0 ∷ 0 ∷ [])) (le-leb (length datagram) 9216 call.short)
    ((bytes_eq-Decides (take 4 (drop 4 datagram)) (0 ∷ 0 ∷ 0 ∷ 0 ∷ [])).1 second)

-- the first four of bytes are bytes
front_fits : (bytes : List ℕ) → IsBytes bytes → IsBytes (take 4 bytes)
front_fits bytes fits i =
    elim (cases_lt i 4) [
      | inl less ↦ rw (get_or-take 4 bytes i 0 less) (fits i)
      | inr past ↦ rw (get_or_past (take 4 bytes) i 0 (omega (arith, past, length-take 4 bytes))) (omega arith)
    ]

number_fits : (a b c d : ℕ) → a < 256 → b < 256 → c < 256 → d < 256 → from_be_bytes w32 (a ∷ b ∷ c ∷ d ∷ []) < 2 ^ 32
number_fits a b c d p q r s = omega (arith, p, q, r, s)

four_fit : (bytes : List ℕ) → IsBytes bytes → length bytes ≡ 4 → from_be_bytes w32 bytes < 2 ^ 32
four_fit [] fits long = absurd cc
four_fit (a ∷ []) fits long = absurd cc
four_fit (a ∷ b ∷ []) fits long = absurd cc
four_fit (a ∷ b ∷ c ∷ []) fits long = absurd cc
four_fit (a ∷ b ∷ c ∷ d ∷ []) fits long = number_fits a b c d (fits 0) (fits 1) (fits 2) (fits 3)
four_fit (a ∷ b ∷ c ∷ d ∷ e ∷ bytes) fits long = absurd (omega (arith, long))

-- bytes that pass are a call's
pub tells : (datagram : List ℕ) → IsBytes datagram → is_message datagram ≡ true → (xid : ℕ) × (text : List ℕ) × IsCall datagram xid text
tells datagram fits is =
    let passes = both (nat_le (length datagram) 9216) (bytes_eq (take 4 (drop 4 datagram)) (0 ∷ 0 ∷ 0 ∷ 0 ∷ [])) is in
    let second : take 4 (drop 4 datagram) ≡ 0 ∷ 0 ∷ 0 ∷ 0 ∷ [] = (bytes_eq-Decides (take 4 (drop 4 datagram)) (0 ∷ 0 ∷ 0 ∷ 0 ∷ [])).0 passes.1 in
    let long : 8 ≤ length datagram = omega (arith, ap length second, length-take 4 (drop 4 datagram), length-drop 4 datagram) in
    let first : List ℕ = take 4 datagram in
    let four : length first ≡ 4 = omega (arith, length-take 4 datagram, long) in
    let xid : ℕ = from_be_bytes w32 first in
    let number : to_be_bytes w32 xid ≡ first = be_bytes_4 first xid four (front_fits datagram fits) refl in
    let text : List ℕ = drop 4 (drop 4 datagram) in
    let behind : drop 4 datagram ≡ (0 ∷ 0 ∷ 0 ∷ 0 ∷ []) ++ text = sym (take-append-drop 4 (drop 4 datagram)) ∙ ap (λ (s : List ℕ). s ++ text) second in
    let whole : datagram ≡ words (xid ∷ 0 ∷ []) ++ text =
    sym (take-append-drop 4 datagram) ∙ ap (λ (s : List ℕ). s ++ drop 4 datagram) (sym number) ∙ ap (λ (s : List ℕ). to_be_bytes w32 xid ++ s) behind in (
      xid,
      text,
      record {
        short = leb-true (length datagram) 9216 passes.0;
        reads = record {
          spelling = words (xid ∷ 0 ∷ []);
          spells = record { count = refl; fit = (four_fit first (front_fits datagram fits) four, (omega arith, tt)); parts = refl };
          parts = whole;
        };
      },
    )

-- bytes that are no call's don't pass
pub fails : (datagram : List ℕ) → IsBytes datagram → ((xid : ℕ) (text : List ℕ) → IsCall datagram xid text → ⊥) → is_message datagram ≡ false
fails datagram fits none = by (is_message datagram) refl
  where
    by : (b : Bool) → is_message datagram ≡ b → b ≡ false
    by true is = (let call = tells datagram fits is in absurd (none call.0 call.1 call.2))
    by false is = refl
