-- The order of the keys of pieces is that of their indexes, and four bytes are below others where their number is below the least one that isn't.
use Rattle.std.proofs.Common.{◌≡◌, ℕ, zero, suc, ◌+◌, ◌*◌, ◌/◌, ◌%◌, ◌^◌, ◌<◌, ◌≤◌, ◌⊎◌, inl, inr, arith, Bool, true, false, cond, List, [], ◌∷◌, length, get_or, refl, sym, ◌∙◌, Ordering, Less, Equal, Greater, Decides}
use Rattle.std.specs.Prelude.{◌==◌, nat_lt}
use Rattle.std.specs.Int.{w32, to_be_bytes}
use Rattle.std.specs.Ordering.{is_lt, nat_cmp, ordering_then}
use Rattle.std.specs.Cmp.Lexicographic.{slice_cmp}
use Rattle.std.proofs.lemmas.Bool.Decides.{nat_tests}
use Rattle.bx_page.specs.Keys.{is_below}
use Rattle.bx_truth.specs.Keys.{content_key}
use Rattle.bx_sizes.specs.FirstPieces.{IsLeastIndex}

no_true : false ≡ true → ⊥
no_true e = cc

-- the first bytes decide, where they differ
data Sides (x y : ℕ) (xs ys : List ℕ) : Type 0 where
  lower : x < y → is_below (x ∷ xs) (y ∷ ys) ≡ true → Sides x y xs ys
  same : x ≡ y → is_below (x ∷ xs) (y ∷ ys) ≡ is_below xs ys → Sides x y xs ys
  higher : y < x → is_below (x ∷ xs) (y ∷ ys) ≡ false → Sides x y xs ys

sides : (x y : ℕ) (xs ys : List ℕ) → Sides x y xs ys
sides x y xs ys = by (nat_lt x y) (x == y) refl refl
  where
    tested : (t u : Bool) → nat_lt x y ≡ t → (x == y) ≡ u → is_below (x ∷ xs) (y ∷ ys) ≡ is_lt (ordering_then (cond t Less (cond u Equal Greater)) (slice_cmp nat_cmp xs ys))
    tested t u is_t is_u = λ i. is_lt (ordering_then (cond (is_t i) Less (cond (is_u i) Equal Greater)) (slice_cmp nat_cmp xs ys))

    by : (t u : Bool) → nat_lt x y ≡ t → (x == y) ≡ u → Sides x y xs ys
    by true u is_t is_u = lower (grind (arith, nat_tests, is_t)) (tested true u is_t is_u)
    by false true is_t is_u = same (grind (arith, nat_tests, is_u)) (tested false true is_t is_u)
    by false false is_t is_u = higher (grind (arith, nat_tests, is_t, is_u)) (tested false false is_t is_u)

-- one, where there are more bytes than so many, else none
abbrev pub IsMore : ℕ → List ℕ → ℕ → Type 0
IsMore count bytes more = ((count < length bytes) × (more ≡ 1)) ⊎ ((length bytes ≤ count) × (more ≡ 0))

more_left : (count byte more : ℕ) (bytes : List ℕ) → IsMore (suc count) (byte ∷ bytes) more → IsMore count bytes more
more_left count byte more bytes (inl m) = inl (omega (arith, m.0), m.1)
more_left count byte more bytes (inr m) = inr (omega (arith, m.0), m.1)

at_most_one : (count more : ℕ) (bytes : List ℕ) → IsMore count bytes more → more ≤ 1
at_most_one count more bytes (inl m) = omega (arith, m.1)
at_most_one count more bytes (inr m) = omega (arith, m.1)

none_more : (count more : ℕ) → IsMore count [] more → more ≡ 0
none_more count more (inl m) = absurd (omega (arith, m.0))
none_more count more (inr m) = m.1

abbrev pub AreSmall : List ℕ → Type 0
AreSmall bytes = (place : ℕ) → get_or bytes place 0 < 256

-- ---- as many bytes as there are, digit by digit

none_left : (bytes : List ℕ) (more : ℕ) → IsMore 0 bytes more → Decides (is_below [] bytes) (0 < more)
none_left [] more m = (λ e. absurd (no_true e), λ p. absurd (omega (arith, none_more 0 more m, p)))
none_left (byte ∷ bytes) more (inl m) = (λ e. omega (arith, m.1), λ p. refl)
none_left (byte ∷ bytes) more (inr m) = absurd (omega (arith, m.0))

one_left : (d : ℕ) (bytes : List ℕ) (more : ℕ) → IsMore 1 bytes more → Decides (is_below (d ∷ []) bytes) (d < get_or bytes 0 0 + more)
one_left d [] more m = (λ e. absurd (no_true e), λ p. absurd (omega (arith, none_more 1 more m, p)))
one_left d (h ∷ bytes) more m = by (sides d h [] bytes)
  where
    most : more ≤ 1
    most = at_most_one 1 more (h ∷ bytes) m

    by : Sides d h [] bytes → Decides (is_below (d ∷ []) (h ∷ bytes)) (d < h + more)
    by (lower less is) = (λ e. omega (arith, less), λ p. is)
    by (same one is) = let rest = none_left bytes more (more_left 0 h more bytes m) in (λ e. (let p = rest.0 (sym is ∙ e) in omega (arith, one, p)), λ p. is ∙ rest.1 (omega (arith, one, p)))
    by (higher above is) = (λ e. absurd (no_true (sym is ∙ e)), λ p. absurd (omega (arith, above, most, p)))

two_left : (c d : ℕ) (bytes : List ℕ) (more : ℕ) → d < 256 → AreSmall bytes → IsMore 2 bytes more → Decides (is_below (c ∷ d ∷ []) bytes) (c * 256 + d < get_or bytes 0 0 * 256 + get_or bytes 1 0 + more)
two_left c d [] more less_d small m = (λ e. absurd (no_true e), λ p. absurd (omega (arith, none_more 2 more m, p)))
two_left c d (g ∷ bytes) more less_d small m = by (sides c g (d ∷ []) bytes)
  where
    most : more ≤ 1
    most = at_most_one 2 more (g ∷ bytes) m

    h : ℕ
    h = get_or bytes 0 0

    less_h : h < 256
    less_h = small 1

    by : Sides c g (d ∷ []) bytes → Decides (is_below (c ∷ d ∷ []) (g ∷ bytes)) (c * 256 + d < g * 256 + h + more)
    by (lower less is) = (λ e. omega (arith, less, less_d), λ p. is)
    by (same one is) =
        let rest = one_left d bytes more (more_left 1 g more bytes m) in (
          λ e. (let p : d < h + more = rest.0 (sym is ∙ e) in omega (arith, one, p)),
          λ p. (let q : d < h + more = omega (arith, one, p) in is ∙ rest.1 q),
        )
    by (higher above is) = (λ e. absurd (no_true (sym is ∙ e)), λ p. absurd (omega (arith, above, most, less_h, p)))

three_left : (b c d : ℕ) (bytes : List ℕ) (more : ℕ) → c < 256 → d < 256 → AreSmall bytes → IsMore 3 bytes more
    → Decides (is_below (b ∷ c ∷ d ∷ []) bytes) (b * 65536 + c * 256 + d < get_or bytes 0 0 * 65536 + get_or bytes 1 0 * 256 + get_or bytes 2 0 + more)
three_left b c d [] more less_c less_d small m = (λ e. absurd (no_true e), λ p. absurd (omega (arith, none_more 3 more m, p)))
three_left b c d (f ∷ bytes) more less_c less_d small m = by (sides b f (c ∷ d ∷ []) bytes)
  where
    most : more ≤ 1
    most = at_most_one 3 more (f ∷ bytes) m

    g : ℕ
    g = get_or bytes 0 0

    h : ℕ
    h = get_or bytes 1 0

    less_g : g < 256
    less_g = small 1

    less_h : h < 256
    less_h = small 2

    by : Sides b f (c ∷ d ∷ []) bytes → Decides (is_below (b ∷ c ∷ d ∷ []) (f ∷ bytes)) (b * 65536 + c * 256 + d < f * 65536 + g * 256 + h + more)
    by (lower less is) = (λ e. omega (arith, less, less_c, less_d), λ p. is)
    by (same one is) =
        let rest = two_left c d bytes more less_d (λ place. small (suc place)) (more_left 2 f more bytes m) in (
          λ e. (let p : c * 256 + d < g * 256 + h + more = rest.0 (sym is ∙ e) in omega (arith, one, p)),
          λ p. (let q : c * 256 + d < g * 256 + h + more = omega (arith, one, p) in is ∙ rest.1 q),
        )
    by (higher above is) = (λ e. absurd (no_true (sym is ∙ e)), λ p. absurd (omega (arith, above, most, less_g, less_h, p)))

four_left : (a b c d : ℕ) (bytes : List ℕ) (more : ℕ) → b < 256 → c < 256 → d < 256 → AreSmall bytes → IsMore 4 bytes more
    → Decides (is_below (a ∷ b ∷ c ∷ d ∷ []) bytes)
    (a * 16777216 + b * 65536 + c * 256 + d < get_or bytes 0 0 * 16777216 + get_or bytes 1 0 * 65536 + get_or bytes 2 0 * 256 + get_or bytes 3 0 + more)
four_left a b c d [] more less_b less_c less_d small m = (λ e. absurd (no_true e), λ p. absurd (omega (arith, none_more 4 more m, p)))
four_left a b c d (e ∷ bytes) more less_b less_c less_d small m = by (sides a e (b ∷ c ∷ d ∷ []) bytes)
  where
    most : more ≤ 1
    most = at_most_one 4 more (e ∷ bytes) m

    f : ℕ
    f = get_or bytes 0 0

    g : ℕ
    g = get_or bytes 1 0

    h : ℕ
    h = get_or bytes 2 0

    less_f : f < 256
    less_f = small 1

    less_g : g < 256
    less_g = small 2

    less_h : h < 256
    less_h = small 3

    by : Sides a e (b ∷ c ∷ d ∷ []) bytes → Decides (is_below (a ∷ b ∷ c ∷ d ∷ []) (e ∷ bytes)) (a * 16777216 + b * 65536 + c * 256 + d < e * 16777216 + f * 65536 + g * 256 + h + more)
    by (lower less is) = (λ t. omega (arith, less, less_b, less_c, less_d), λ p. is)
    by (same one is) =
        let rest = three_left b c d bytes more less_c less_d (λ place. small (suc place)) (more_left 3 e more bytes m) in (
          λ t. (let p : b * 65536 + c * 256 + d < f * 65536 + g * 256 + h + more = rest.0 (sym is ∙ t) in omega (arith, one, p)),
          λ p. (let q : b * 65536 + c * 256 + d < f * 65536 + g * 256 + h + more = omega (arith, one, p) in is ∙ rest.1 q),
        )
    by (higher above is) = (λ t. absurd (no_true (sym is ∙ t)), λ p. absurd (omega (arith, above, most, less_f, less_g, less_h, p)))

-- ---- numbers of four bytes

parts_of : (n : ℕ) → n < 2 ^ 32 → n / 16777216 % 256 * 16777216 + n / 65536 % 256 * 65536 + n / 256 % 256 * 256 + n % 256 ≡ n
parts_of n fits = omega (arith, fits)

pub number_below : (index : ℕ) (bytes : List ℕ) (more : ℕ) → index < 2 ^ 32 → AreSmall bytes → IsMore 4 bytes more
    → Decides (is_below (to_be_bytes w32 index) bytes)
    (index < get_or bytes 0 0 * 16777216 + get_or bytes 1 0 * 65536 + get_or bytes 2 0 * 256 + get_or bytes 3 0 + more)
number_below index bytes more fits small m =
    let parts = parts_of index fits in
    let all = four_left (index / 16777216 % 256) (index / 65536 % 256) (index / 256 % 256) (index % 256) bytes more (omega arith) (omega arith) (omega arith) small m in (
      λ e. (let p = all.0 e in omega (arith, parts, p)),
      λ p. all.1 (omega (arith, parts, p)),
    )

small_digits : (n : ℕ) → AreSmall (to_be_bytes w32 n)
small_digits n zero = omega arith
small_digits n (suc zero) = omega arith
small_digits n (suc (suc zero)) = omega arith
small_digits n (suc (suc (suc zero))) = omega arith
small_digits n (suc (suc (suc (suc place)))) = omega arith

-- the key of a piece isn't below that of a piece before it
pub not_before : (index at : ℕ) → index < 2 ^ 32 → at < 2 ^ 32 → at ≤ index → is_below (content_key index) (content_key at) ≡ false
not_before index at fits fits_at from = by (is_below (content_key index) (content_key at)) refl
  where
    tells : Decides (is_below (to_be_bytes w32 index) (to_be_bytes w32 at))
        (index < at / 16777216 % 256 * 16777216 + at / 65536 % 256 * 65536 + at / 256 % 256 * 256 + at % 256 + 0)
    tells = number_below index (to_be_bytes w32 at) 0 fits (small_digits at) (inr (omega arith, refl))

    by : (b : Bool) → is_below (content_key index) (content_key at) ≡ b → b ≡ false
    by false is = refl
    by true is = let less = tells.0 is in absurd (omega (arith, parts_of at fits_at, less, from))

-- ---- the first byte of a key

pub no_bytes : IsLeastIndex [] 0
no_bytes index fits = (λ e. absurd (no_true e), λ p. absurd (omega (arith, p)))

pub lower_byte : (byte : ℕ) (bytes : List ℕ) → byte < 3 → IsLeastIndex (byte ∷ bytes) 0
lower_byte byte bytes less index fits = by (sides 3 byte (to_be_bytes w32 index) bytes)
  where
    by : Sides 3 byte (to_be_bytes w32 index) bytes → Decides (is_below (content_key index) (byte ∷ bytes)) (index < 0)
    by (lower other is) = absurd (omega (arith, less, other))
    by (same one is) = absurd (omega (arith, less, one))
    by (higher above is) = (λ e. absurd (no_true (sym is ∙ e)), λ p. absurd (omega (arith, p)))

pub higher_byte : (byte : ℕ) (bytes : List ℕ) → 3 < byte → IsLeastIndex (byte ∷ bytes) 4294967296
higher_byte byte bytes less index fits = by (sides 3 byte (to_be_bytes w32 index) bytes)
  where
    by : Sides 3 byte (to_be_bytes w32 index) bytes → Decides (is_below (content_key index) (byte ∷ bytes)) (index < 4294967296)
    by (lower other is) = (λ e. fits, λ p. is)
    by (same one is) = absurd (omega (arith, less, one))
    by (higher above is) = absurd (omega (arith, less, above))

pub same_byte : (byte least : ℕ) (bytes : List ℕ) → byte ≡ 3 → ((number : ℕ) → number < 2 ^ 32 → Decides (is_below (to_be_bytes w32 number) bytes) (number < least)) → IsLeastIndex (byte ∷ bytes) least
same_byte byte least bytes three tells index fits = by (sides 3 byte (to_be_bytes w32 index) bytes)
  where
    by : Sides 3 byte (to_be_bytes w32 index) bytes → Decides (is_below (content_key index) (byte ∷ bytes)) (index < least)
    by (lower other is) = absurd (omega (arith, three, other))
    by (same one is) = (λ e. (tells index fits).0 (sym is ∙ e), λ p. is ∙ (tells index fits).1 p)
    by (higher above is) = absurd (omega (arith, three, above))
