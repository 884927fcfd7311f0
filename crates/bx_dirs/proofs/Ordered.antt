-- The order of the keys of numbers is that of the numbers.
use Rattle.std.proofs.Common.{◌≡◌, ℕ, ◌+◌, ◌*◌, ◌/◌, ◌%◌, ◌^◌, ◌<◌, ◌⊎◌, inl, inr, arith, Bool, true, false, List, [], ◌∷◌, ◌++◌, length, drop, cond, refl, sym, ap, ◌∙◌}
use Rattle.std.proofs.Common.{Ordering, Less, Equal, Greater}
use Rattle.std.specs.Prelude.{◌==◌, nat_lt}
use Rattle.std.specs.Int.{w32, to_be_bytes, from_be_bytes}
use Rattle.std.specs.Ordering.{is_lt, nat_cmp, ordering_then}
use Rattle.std.specs.Cmp.Lexicographic.{slice_cmp}
use Rattle.std.proofs.lemmas.Bool.Decides.{nat_tests}
use Rattle.std.proofs.lemmas.Nat.{from_be_bytes-to_be_bytes_4}
use Rattle.bx_page.specs.Keys.{is_below, IsBelow}
use Rattle.bx_page.proofs.Order.{same_from_cmp, greater_cmp}
use Rattle.bx_truth.specs.Keys.{name_key, entry_key}
use Rattle.bx_dirs.specs.Entries.{key_behind}

one_step : (x y : ℕ) (xs ys : List ℕ) → IsBelow (x ∷ xs) (y ∷ ys) → (x < y) ⊎ ((x ≡ y) × IsBelow xs ys)
one_step x y xs ys below = by (nat_lt x y) (x == y) refl refl
  where
    tested : (t u : Bool) → nat_lt x y ≡ t → (x == y) ≡ u → is_lt (ordering_then (cond t Less (cond u Equal Greater)) (slice_cmp nat_cmp xs ys)) ≡ true
    tested t u is_t is_u = (λ i. is_lt (ordering_then (cond (sym is_t i) Less (cond (sym is_u i) Equal Greater)) (slice_cmp nat_cmp xs ys))) ∙ below

    by : (t u : Bool) → nat_lt x y ≡ t → (x == y) ≡ u → (x < y) ⊎ ((x ≡ y) × IsBelow xs ys)
    by true u is_t is_u = inl (grind (arith, nat_tests, is_t))
    by false true is_t is_u = inr (grind (arith, nat_tests, is_u), tested false true is_t is_u)
    by false false is_t is_u = let e = tested false false is_t is_u in absurd cc

four : (a b c d e f g h : ℕ) → b < 256 → c < 256 → d < 256 → IsBelow (a ∷ b ∷ c ∷ d ∷ []) (e ∷ f ∷ g ∷ h ∷ [])
    → a * 16777216 + b * 65536 + c * 256 + d < e * 16777216 + f * 65536 + g * 256 + h
four a b c d e f g h fb fc fd below = one (one_step a e (b ∷ c ∷ d ∷ []) (f ∷ g ∷ h ∷ []) below)
  where
    one : (a < e) ⊎ ((a ≡ e) × IsBelow (b ∷ c ∷ d ∷ []) (f ∷ g ∷ h ∷ [])) → a * 16777216 + b * 65536 + c * 256 + d < e * 16777216 + f * 65536 + g * 256 + h
    one (inl less) = omega (arith, less, fb, fc, fd)
    one (inr (same, rest)) = two same (one_step b f (c ∷ d ∷ []) (g ∷ h ∷ []) rest)
      where
        two : a ≡ e → (b < f) ⊎ ((b ≡ f) × IsBelow (c ∷ d ∷ []) (g ∷ h ∷ [])) → a * 16777216 + b * 65536 + c * 256 + d < e * 16777216 + f * 65536 + g * 256 + h
        two same (inl less) = omega (arith, same, less, fc, fd)
        two same (inr (next, rest)) = three same next (one_step c g (d ∷ []) (h ∷ []) rest)
          where
            three : a ≡ e → b ≡ f → (c < g) ⊎ ((c ≡ g) × IsBelow (d ∷ []) (h ∷ [])) → a * 16777216 + b * 65536 + c * 256 + d < e * 16777216 + f * 65536 + g * 256 + h
            three same next (inl less) = omega (arith, same, next, less, fd)
            three same next (inr (third, rest)) = last (one_step d h [] [] rest)
              where
                last : (d < h) ⊎ ((d ≡ h) × IsBelow [] []) → a * 16777216 + b * 65536 + c * 256 + d < e * 16777216 + f * 65536 + g * 256 + h
                last (inl less) = omega (arith, same, next, third, less)
                last (inr (_, none)) = absurd cc

pub numbers_rise : (n m : ℕ) → n < 2 ^ 32 → m < 2 ^ 32 → IsBelow (entry_key n) (entry_key m) → n < m
numbers_rise n m fits_n fits_m below = by (one_step 2 2 (to_be_bytes w32 n) (to_be_bytes w32 m) below)
  where
    by : (2 < 2) ⊎ ((◌≡◌ {A = ℕ} 2 2) × IsBelow (to_be_bytes w32 n) (to_be_bytes w32 m)) → n < m
    by (inl less) = absurd (omega (arith, less))
    by (inr (same, rest)) =
        let value = four (n / 16777216 % 256) (n / 65536 % 256) (n / 256 % 256) (n % 256) (m / 16777216 % 256) (m / 65536 % 256) (m / 256 % 256) (m % 256) (omega arith) (omega arith) (omega arith) rest in
        omega (arith, value, fits_n, fits_m)

pub same_number : (n m : ℕ) → n < 2 ^ 32 → m < 2 ^ 32 → entry_key n ≡ entry_key m → n ≡ m
same_number n m fits_n fits_m same = sym (from_be_bytes-to_be_bytes_4 n fits_n) ∙ ap (λ (l : List ℕ). from_be_bytes w32 (drop 1 l)) same ∙ from_be_bytes-to_be_bytes_4 m fits_m

-- ---- the key behind a number's

then_then : (a b c : Ordering) → ordering_then a (ordering_then b c) ≡ ordering_then (ordering_then a b) c
then_then Less b c = refl
then_then Equal b c = refl
then_then Greater b c = refl

-- a byte more is above the same bytes, and else changes nothing
one_more : (xs ys : List ℕ) → length xs ≡ length ys → slice_cmp nat_cmp xs (ys ++ 0 ∷ []) ≡ ordering_then (slice_cmp nat_cmp xs ys) Less
one_more [] [] same = refl
one_more [] (y ∷ ys) same = absurd (omega (arith, same))
one_more (x ∷ xs) [] same = absurd (omega (arith, same))
one_more (x ∷ xs) (y ∷ ys) same = ap (ordering_then (nat_cmp x y)) (one_more xs ys (omega (arith, same))) ∙ then_then (nat_cmp x y) (slice_cmp nat_cmp xs ys) Less

behind_is : (n m : ℕ) → slice_cmp nat_cmp (entry_key n) (key_behind m) ≡ ordering_then (slice_cmp nat_cmp (entry_key n) (entry_key m)) Less
behind_is n m = one_more (entry_key n) (entry_key m) refl

module _ (n m : ℕ) (fits_n : n < 2 ^ 32) (fits_m : m < 2 ^ 32) where
  pub is_above : is_below (entry_key n) (key_behind m) ≡ false → m < n
  is_above not_below = by (slice_cmp nat_cmp (entry_key n) (entry_key m)) refl
    where
      tested : (o : Ordering) → slice_cmp nat_cmp (entry_key n) (entry_key m) ≡ o → is_lt (ordering_then o Less) ≡ false
      tested o is = ap (λ (p : Ordering). is_lt (ordering_then p Less)) (sym is) ∙ ap is_lt (sym (behind_is n m)) ∙ not_below

      by : (o : Ordering) → slice_cmp nat_cmp (entry_key n) (entry_key m) ≡ o → m < n
      by Less is = let e = tested Less is in absurd cc
      by Equal is = let e = tested Equal is in absurd cc
      by Greater is = numbers_rise m n fits_m fits_n (greater_cmp (entry_key n) (entry_key m) is)

  pub not_behind : m < n → is_below (entry_key n) (key_behind m) ≡ false
  not_behind less = by (slice_cmp nat_cmp (entry_key n) (entry_key m)) refl
    where
      by : (o : Ordering) → slice_cmp nat_cmp (entry_key n) (entry_key m) ≡ o → is_below (entry_key n) (key_behind m) ≡ false
      by Less is = let lower = numbers_rise n m fits_n fits_m (ap is_lt is) in absurd (omega (arith, less, lower))
      by Equal is = let same = same_number n m fits_n fits_m (same_from_cmp (entry_key n) (entry_key m) is) in absurd (omega (arith, less, same))
      by Greater is = ap is_lt (behind_is n m) ∙ ap (λ (p : Ordering). is_lt (ordering_then p Less)) is

-- a name's key is below that of any number
pub name_below : (text : List ℕ) (m : ℕ) → is_below (name_key text) (key_behind m) ≡ true
name_below text m = refl
