-- Hex text that is read is spelled so, and bytes that are spelled so are read.
use Rattle.std.proofs.Common.{◌≡◌, ℕ, zero, suc, ◌+◌, ◌*◌, ◌/◌, ◌%◌, ◌<◌, ◌≤◌, ◌⊎◌, inl, inr, Bool, true, false, cond, ltb, leb, eqb, ◌&&◌, not, List, [], ◌∷◌, length, get_or, Option, Some, None, Result, Ok, Err, refl, sym, ap, subst, ◌∙◌, arith}
use Rattle.std.specs.List.{AllByRecursion, list_all}
use Rattle.std.specs.Result.{result_ok}
use Rattle.std.specs.Char.{is_ascii_uppercase}
use Rattle.std.proofs.lemmas.Bool.{and_parts, cases_lt, eqb-true, leb-true, le-leb, lt-ltb, le-ltb}
use Rattle.std.proofs.lemmas.Bool.Decides.{nat_tests}
use Rattle.hex.specs.Hex.{decode_of, decode_pairs, digit_or_error, hex_digit_value, encode_lower, encode_with, lower_digits, pair_value, value_at, ◌>>=◌}
use Rattle.hex.specs.declared.error.FromHexError.{FromHexError}
use Rattle.hex.proofs.HexLemmas.{length-encode_with, decode_of-encode_lower, decode_of-even, decode_of-ok}
use Rattle.bx_base.specs.Bytes.{IsBytes}
use Rattle.bx_script.specs.Reading.{datagram_of}
use Rattle.bx_script.proofs.Fields.{Lacks}

-- ---- the digits

abbrev glyph : ℕ → ℕ
glyph d = cond (ltb d 10) (48 + d) (87 + d)

-- the first n digits of the table are these
abbrev are_glyphs : ℕ → Bool
are_glyphs zero = true
are_glyphs (suc n) = eqb (get_or lower_digits n 0) (glyph n) && are_glyphs n

glyph_below : (n d : ℕ) → are_glyphs n ≡ true → d < n → get_or lower_digits d 0 ≡ glyph d
glyph_below zero d h lt = absurd (omega arith)
glyph_below (suc n) d h lt =
    let parts = and_parts (eqb (get_or lower_digits n 0) (glyph n)) (are_glyphs n) h in
    elim (cases_lt d n) [
      | inl below ↦ glyph_below n d parts.1 below
      | inr top ↦
          let same : d ≡ n = omega arith in
          rw same (eqb-true _ _ parts.0)
    ]

pub glyph_at : (d : ℕ) → d < 16 → get_or lower_digits d 0 ≡ glyph d
glyph_at d lt = glyph_below 16 d refl lt

-- a digit of hex text in lower case
abbrev pub IsGlyph : ℕ → Type 0
IsGlyph c = ((48 ≤ c) × (c ≤ 57)) ⊎ ((97 ≤ c) × (c ≤ 102))

is_glyph : (d : ℕ) → d < 16 → IsGlyph (get_or lower_digits d 0)
is_glyph d lt =
    elim (cases_lt d 10) [
      | inl low ↦ rw (glyph_at d lt, lt-ltb d 10 low) (inl (omega arith, omega arith))
      | inr high ↦ rw (glyph_at d lt, le-ltb d 10 high) (inr (omega arith, omega arith))
    ]

pub hex_glyphs : (bytes : List ℕ) → IsBytes bytes → AllByRecursion IsGlyph (encode_lower bytes)
unfolding encode_with
hex_glyphs [] fits = tt
hex_glyphs (b ∷ bytes) fits =
    let small : b < 256 = fits 0 in
    (is_glyph (b / 16) (omega arith), (is_glyph (b % 16) (omega arith), hex_glyphs bytes (λ i. fits (suc i))))

lacks_from_glyphs : (c : ℕ) (text : List ℕ) → c < 48 → AllByRecursion IsGlyph text → Lacks c text
lacks_from_glyphs c [] lt h = tt
lacks_from_glyphs c (x ∷ xs) lt h = (elim h.0 [ inl low ↦ omega arith | inr high ↦ omega arith ], lacks_from_glyphs c xs lt h.1)

-- hex text has no space and no line feed
pub Lacks-hex : (c : ℕ) (bytes : List ℕ) → c < 48 → IsBytes bytes → Lacks c (encode_lower bytes)
Lacks-hex c bytes lt fits = lacks_from_glyphs c (encode_lower bytes) lt (hex_glyphs bytes fits)

abbrev lower : ℕ → Bool
lower c = not (is_ascii_uppercase c)

lower_glyph : (c : ℕ) → IsGlyph c → lower c ≡ true
lower_glyph c (inl h) = grind (arith, nat_tests)
lower_glyph c (inr h) = grind (arith, nat_tests)

lower_from_glyphs : (text : List ℕ) → AllByRecursion IsGlyph text → list_all lower text ≡ true
lower_from_glyphs [] h = refl
lower_from_glyphs (c ∷ cs) h = rw (lower_glyph c h.0) (lower_from_glyphs cs h.1)

-- ---- what was read

bind_ok : {A B : Type 0} (r : Result A FromHexError) (f : A → Result B FromHexError) (y : B) → (r >>= f) ≡ Ok y → (x : A) × (r ≡ Ok x) × (f x ≡ Ok y)
bind_ok (Ok x) f y h = (x, refl, h)
bind_ok (Err e) f y h = absurd cc

abbrev ok : {A : Type 0} → A → Result A FromHexError
ok x = Ok x

ok_is : {A : Type 0} (x y : A) → ok x ≡ ok y → x ≡ y
ok_is x y e = cc

digit_read : (c i : ℕ) (o : Option ℕ) (v : ℕ) → digit_or_error c i o ≡ Ok v → o ≡ Some v
digit_read c i (Some w) v h = ap Some (ok_is w v h)
digit_read c i None v h = absurd cc

-- the digit of a value, where it is no letter in upper case
digit_of_value : (c v : ℕ) → hex_digit_value c ≡ Some v → lower c ≡ true → (v < 16) × (c ≡ glyph v)
digit_of_value c v h low = grind (arith, nat_tests)

pub pairs_take : (i : ℕ) (text bytes : List ℕ) → decode_pairs i text ≡ Ok bytes → list_all lower text ≡ true → text ≡ encode_lower bytes
unfolding decode_pairs encode_with
pairs_take i [] bytes e low = ap encode_lower (ok_is [] bytes e)
pairs_take i (a ∷ []) bytes e low = absurd cc
pairs_take i (a ∷ b ∷ rest) bytes e low =
    let read = bind_ok (pair_value a b i) (λ byte. decode_pairs (i + 2) rest >>= λ others. Ok (byte ∷ others)) bytes e in
    let p1 = bind_ok (value_at a i) (λ h. value_at b (i + 1) >>= λ l. Ok (h * 16 + l)) read.0 read.1 in
    let p2 = bind_ok (value_at b (i + 1)) (λ l. Ok (p1.0 * 16 + l)) read.0 p1.2 in
    let tail = bind_ok (decode_pairs (i + 2) rest) (λ others. Ok (read.0 ∷ others)) bytes read.2 in
    let low1 = and_parts (lower a) (list_all lower (b ∷ rest)) low in
    let low2 = and_parts (lower b) (list_all lower rest) low1.1 in
    let high = digit_of_value a p1.0 (digit_read a i (hex_digit_value a) p1.0 p1.1) low1.0 in
    let less = digit_of_value b p2.0 (digit_read b (i + 1) (hex_digit_value b) p2.0 p2.1) low2.0 in
    let byte : p1.0 * 16 + p2.0 ≡ read.0 = ok_is _ _ p2.2 in
    let front : a ≡ get_or lower_digits (read.0 / 16) 0 =
    let q : read.0 / 16 ≡ p1.0 = omega arith in rw q (high.1 ∙ sym (glyph_at p1.0 high.0)) in
    let back : b ≡ get_or lower_digits (read.0 % 16) 0 =
    let q : read.0 % 16 ≡ p2.0 = omega arith in rw q (less.1 ∙ sym (glyph_at p2.0 less.0)) in
    let others : rest ≡ encode_lower tail.0 = pairs_take (i + 2) rest tail.0 tail.1 low2.1 in
    let whole : a ∷ b ∷ rest ≡ encode_lower (read.0 ∷ tail.0) = cc in
    subst (λ (bs : List ℕ). a ∷ b ∷ rest ≡ encode_lower bs) (ok_is _ _ tail.2) whole

pub record IsDatagram (text bytes : List ℕ) : Type 0 where
  pub spelled : text ≡ encode_lower bytes
  pub short : length bytes ≤ 9216
  pub fits : IsBytes bytes

ok_of_some : (r : Result (List ℕ) FromHexError) (bytes : List ℕ) → result_ok r ≡ Some bytes → r ≡ Ok bytes
ok_of_some (Ok x) bytes e = cc
ok_of_some (Err e) bytes h = absurd cc

cond_none : {A : Type 0} (b : Bool) (o : Option A) (y : A) → cond b o None ≡ Some y → (b ≡ true) × (o ≡ Some y)
cond_none true o y e = (refl, e)
cond_none false o y e = absurd cc

pub datagram_takes : (text bytes : List ℕ) → datagram_of text ≡ Some bytes → IsDatagram text bytes
unfolding datagram_of
datagram_takes text bytes e =
    let a = cond_none (leb (length text) 18432 && list_all lower text) (result_ok (decode_of text)) bytes e in
    let b = and_parts (leb (length text) 18432) (list_all lower text) a.0 in
    let read = ok_of_some (decode_of text) bytes a.1 in
    let parts = decode_of-ok text bytes read in
    let at_most : length text ≤ 18432 = leb-true _ _ b.0 in
    record {
      spelled = pairs_take 0 text bytes (sym (decode_of-even text parts.0) ∙ read) b.1;
      short = omega (arith, parts.2);
      fits = parts.3;
    }

pub datagram_again : (bytes : List ℕ) → length bytes ≤ 9216 → IsBytes bytes → datagram_of (encode_lower bytes) ≡ Some bytes
unfolding datagram_of
datagram_again bytes short fits =
    let len = length-encode_with lower_digits bytes in
    let at_most : leb (length (encode_lower bytes)) 18432 ≡ true = le-leb _ _ (omega arith) in
    rw (at_most, lower_from_glyphs (encode_lower bytes) (hex_glyphs bytes fits), decode_of-encode_lower bytes fits) refl
