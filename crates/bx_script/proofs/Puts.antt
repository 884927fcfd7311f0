-- A line of fields, put behind a text piece by piece: what is there and what is left to put are always the whole.
use Rattle.std.proofs.Common.{◌≡◌, ℕ, ◌+◌, ◌/◌, ◌%◌, ◌<◌, ◌≤◌, List, [], ◌∷◌, ◌++◌, length, drop, get_or, refl, sym, ap, ◌∙◌, append_assoc}
use Rattle.std.specs.Fmt.{decimal}
use Rattle.std.proofs.lemmas.List.{append-nil, drop_all, drop_more}
use Rattle.hex.specs.Hex.{encode_lower, encode_with, lower_digits}
use Rattle.bx_base.specs.Text.{ended, spaced}
use Rattle.bx_script.specs.TraceText.{fields_of}

-- numbers, each with a space before it
abbrev pub spaced_numbers : List ℕ → List ℕ
spaced_numbers [] = []
spaced_numbers (number ∷ numbers) = 32 ∷ decimal number ++ spaced_numbers numbers

pub spaced_fields : (word numbers bytes : List ℕ) → spaced (fields_of word numbers bytes) ≡ word ++ (spaced_numbers numbers ++ 32 ∷ encode_lower bytes)
spaced_fields word [] bytes = refl
spaced_fields word (number ∷ numbers) bytes =
    ap (λ (rest : List ℕ). word ++ 32 ∷ rest) (spaced_fields (decimal number) numbers bytes ∙ sym (append_assoc (decimal number) (spaced_numbers numbers) (32 ∷ encode_lower bytes)))

-- a byte is put, as two digits
pub byte_step : (before middle after whole bytes : List ℕ) (i high low : ℕ) → i < length bytes → high ≡ get_or bytes i 0 / 16 → low ≡ get_or bytes i 0 % 16
    → middle ≡ before ++ get_or lower_digits high 0 ∷ [] → after ≡ middle ++ get_or lower_digits low 0 ∷ []
    → before ++ encode_lower (drop i bytes) ≡ whole → after ++ encode_lower (drop (i + 1) bytes) ≡ whole
unfolding encode_with
byte_step before middle after whole bytes i high low lt h l first second e =
    let whole_is : before ++ encode_lower (get_or bytes i 0 ∷ drop (i + 1) bytes) ≡ whole = rw (drop_more bytes i 0 lt) at e in
    rw (second, first, h, l) (simp append_assoc whole_is)

pub bytes_done : (text whole bytes : List ℕ) (i : ℕ) → length bytes ≤ i → text ++ encode_lower (drop i bytes) ≡ whole → text ≡ whole
unfolding encode_with
bytes_done text whole bytes i le e = sym (append-nil text) ∙ rw (drop_all i bytes le) at e

-- the line is whole
pub line_done : (old word numbers bytes put spaced_text hexed text : List ℕ) (i : ℕ) → length numbers ≤ i → put ++ spaced_numbers (drop i numbers) ≡ old ++ (word ++ spaced_numbers numbers)
    → spaced_text ≡ put ++ 32 ∷ [] → hexed ≡ spaced_text ++ encode_lower bytes → text ≡ hexed ++ 10 ∷ [] → text ≡ old ++ ended (spaced (fields_of word numbers bytes))
line_done old word numbers bytes put spaced_text hexed text i le e s h t =
    let put_is : put ≡ old ++ (word ++ spaced_numbers numbers) = sym (append-nil put) ∙ rw (drop_all i numbers le) at e in
    rw (t, h, s, put_is, spaced_fields word numbers bytes) (simp append_assoc)
