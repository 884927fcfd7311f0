-- A number that is read is spelled so, and what is spelled so is read.
use Rattle.std.proofs.Common.{◌≡◌, ℕ, zero, suc, ◌^◌, ◌<◌, ◌≤◌, true, cond, ltb, leb, eqb, ◌&&◌, not, List, [], ◌∷◌, length, get_or, Some, None, Result, Ok, Err, refl, sym, ap, arith, rules, inl, inr}
use Rattle.std.specs.Fmt.{decimal}
use Rattle.std.specs.List.{list_all}
use Rattle.std.specs.Result.{result_ok, OkIff}
use Rattle.std.specs.Char.{is_ascii_digit}
use Rattle.std.specs.Str.{IsAscii, IsUtf8}
use Rattle.std.proofs.lemmas.Str.{IsUtf8-from_ascii}
use Rattle.std.proofs.lemmas.Str.Ascii.{IsAscii-nil, IsAscii-cons}
use Rattle.std.specs.Str.Parse.{digits_value, ParsesUnsigned}
use Rattle.std.proofs.lemmas.Str.Parse.{IsNumeralModel, numerals_by_value, parse_digits}
use Rattle.std.proofs.lemmas.Fmt.{digits_decimal, digits_value-decimal, decimal_nonempty, first_decimal, decimal_digit, decimal-digits_value}
use Rattle.std.proofs.lemmas.Bool.Decides.{nat_tests}
use Rattle.std.proofs.lemmas.Bool.{and_parts, cases_lt, ltb-true, lt-ltb, le-ltb, leb-true, le-leb}
use Rattle.std.proofs.lemmas.Option.{cond_some}
use Rattle.bx_script.specs.Reading.{is_numeral, number_of}
use Rattle.bx_script.proofs.Fields.{Lacks}

-- std's words for digits
pub own : IsNumeralModel (λ ds. list_all is_ascii_digit ds ≡ true) (digits_value 10)
own = numerals_by_value _ (search rules)

-- what parsing digits gives
parsed_as : {E : Type 0} (v : ℕ) (r : Result ℕ E) → OkIff r (v < 2 ^ 64) v → result_ok r ≡ cond (ltb v (2 ^ 64)) (Some v) None
parsed_as v (Ok x) h = rw (lt-ltb v (2 ^ 64) h.0, h.1) refl
parsed_as v (Err e) h =
    elim (cases_lt v (2 ^ 64)) [
      | inl lt ↦ absurd (h lt)
      | inr le ↦ rw (le-ltb v (2 ^ 64) le) refl
    ]

some_digits : {E : Type 0} (bs : List ℕ) (r : Result ℕ E) → OkIff r ((0 < length bs) × (digits_value 10 bs < 2 ^ 64)) (digits_value 10 bs) → 0 < length bs → OkIff r (digits_value 10 bs < 2 ^ 64) (digits_value 10 bs)
some_digits bs (Ok x) h some = (h.0.1, h.1)
some_digits bs (Err e) h some = λ lt. h (some, lt)

-- the parts of the test of a numeral
numeral_parts : (field : List ℕ) → is_numeral field ≡ true → (0 < length field) × (get_or field 0 0 ≡ 48 → length field ≡ 1) × (list_all is_ascii_digit field ≡ true)
unfolding is_numeral
numeral_parts field h =
    let a = and_parts _ (list_all is_ascii_digit field) h in
    let b = and_parts (ltb 0 (length field)) (not (ltb 1 (length field) && eqb (get_or field 0 0) 48)) a.0 in
    let some : 0 < length field = ltb-true _ _ b.0 in
    (some, λ zero. grind (arith, nat_tests), a.1)

pub parsed : {E : Type 0} (bs : List ℕ) (r : Result ℕ E) → ParsesUnsigned 64 10 bs r → is_numeral bs ≡ true
    → result_ok r ≡ cond (ltb (digits_value 10 bs) (2 ^ 64)) (Some (digits_value 10 bs)) None
parsed bs r h numeral =
    let p = numeral_parts bs numeral in
    parsed_as (digits_value 10 bs) r (some_digits bs r (parse_digits own 64 bs r h p.2) p.0)

-- digits are text
IsAscii-digits : (bs : List ℕ) → list_all is_ascii_digit bs ≡ true → IsAscii bs
IsAscii-digits [] h = IsAscii-nil
IsAscii-digits (c ∷ cs) h =
    let parts = and_parts (is_ascii_digit c) (list_all is_ascii_digit cs) h in
    IsAscii-cons c cs (grind arith) (IsAscii-digits cs parts.1)

pub IsUtf8-digits : (bs : List ℕ) → is_numeral bs ≡ true → IsUtf8 bs
IsUtf8-digits bs h = IsUtf8-from_ascii bs (IsAscii-digits bs (numeral_parts bs h).2)

-- ---- the two laws

pub record IsNumber (most n : ℕ) (field : List ℕ) : Type 0 where
  pub spelled : field ≡ decimal n
  pub within : n ≤ most

pub number_takes : (most : ℕ) (field : List ℕ) (n : ℕ) → most < 2 ^ 64 → number_of most field ≡ Some n → IsNumber most n field
unfolding number_of
number_takes most field n small e =
    let a = cond_some (is_numeral field && leb (digits_value 10 field) most) (digits_value 10 field) n e in
    let b = and_parts (is_numeral field) (leb (digits_value 10 field) most) a.0 in
    let p = numeral_parts field b.0 in
    let within : digits_value 10 field ≤ most = leb-true _ _ b.1 in
    let spelled : decimal (digits_value 10 field) ≡ field = decimal-digits_value own field p.2 p.0 p.1 (omega arith) in
    rw (← a.1) (record { spelled = sym spelled; within = within })

-- a printed number is a numeral
numeral_from : (field : List ℕ) → 0 < length field → (get_or field 0 0 ≡ 48 → length field ≡ 1) → list_all is_ascii_digit field ≡ true → is_numeral field ≡ true
unfolding is_numeral
numeral_from field some first digits = rw digits (grind (arith, nat_tests))

one_zero : (n : ℕ) → n < 2 ^ 64 → get_or (decimal n) 0 0 ≡ 48 → length (decimal n) ≡ 1
one_zero zero lt h = ap length (decimal_digit 0 (omega arith))
one_zero (suc n) lt h = absurd (omega (arith, first_decimal (suc n) (omega arith) lt))

pub number_again : (most n : ℕ) → most < 2 ^ 64 → n ≤ most → number_of most (decimal n) ≡ Some n
unfolding number_of
number_again most n small le =
    let lt : n < 2 ^ 64 = omega arith in
    let numeral = numeral_from (decimal n) (decimal_nonempty n lt) (one_zero n lt) (digits_decimal own n lt) in
    let within : leb n most ≡ true = le-leb n most le in
    rw (numeral, digits_value-decimal own n lt, within) refl

-- printed numbers have no space and no line feed
lacks_from_digits : (c : ℕ) (field : List ℕ) → c < 48 → list_all is_ascii_digit field ≡ true → Lacks c field
lacks_from_digits c [] lt h = tt
lacks_from_digits c (d ∷ ds) lt h =
    let parts = and_parts (is_ascii_digit d) (list_all is_ascii_digit ds) h in
    (grind arith, lacks_from_digits c ds lt parts.1)

pub Lacks-decimal : (c n : ℕ) → c < 48 → n < 2 ^ 64 → Lacks c (decimal n)
Lacks-decimal c n lt small = lacks_from_digits c (decimal n) lt (digits_decimal own n small)
