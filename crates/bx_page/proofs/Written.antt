-- What is written one behind the other, and how long it is.
use Rattle.std.proofs.Common.{◌≡◌, ℕ, ◌-◌, ◌*◌, ◌≤◌, List, [], ◌∷◌, ◌++◌, length, take, refl, sym, ap, subst, ◌∙◌, append_assoc, arith}
use Rattle.std.specs.Prelude.{sum_by, replicate}
use Rattle.std.specs.List.{flat_map}
use Rattle.std.specs.Int.{w16, w64, to_be_bytes}
use Rattle.std.proofs.lemmas.List.{length-append}
use Rattle.std.proofs.lemmas.List.Concat.{flat_map-cons}
use Rattle.std.proofs.lemmas.List.Sums.{sum_by-cons}
use Rattle.bx_page.specs.declared.entry.Entry.{Entry}
use Rattle.bx_page.specs.Contents.{Contents, entry_size, high_bytes, size}
use Rattle.bx_base.specs.Writing.{Writes}
use Rattle.bx_base.proofs.Written.{writes_then, padded_written}
use Rattle.bx_page.specs.Spelling.{numbers, high_len, entry_bytes, page_bytes}

pub length-entry_bytes : (e : Entry) → length (entry_bytes e) ≡ entry_size e
length-entry_bytes e = omega (arith, length-append e.key e.value)

pub length-entries : (es : List Entry) → length (flat_map entry_bytes es) ≡ sum_by entry_size es
length-entries [] = refl
length-entries (e ∷ es) =
    ap length (flat_map-cons entry_bytes e es) ∙ length-append (entry_bytes e) (flat_map entry_bytes es) ∙ omega (arith, length-entry_bytes e, length-entries es, sum_by-cons entry_size e es)

-- each entry takes at least four bytes
pub count-le : (es : List Entry) → 4 * length es ≤ sum_by entry_size es
count-le [] = omega arith
count-le (e ∷ es) = omega (arith, count-le es, sum_by-cons entry_size e es)

-- the bytes before the zeros
abbrev pub front : Contents → List ℕ
front p = numbers p ++ (high_bytes p.high ++ flat_map entry_bytes p.entries)

pub length-front : (p : Contents) → length (front p) ≡ size p
length-front p = omega (arith, length-append (high_bytes p.high) (flat_map entry_bytes p.entries), length-entries p.entries)

pub page_bytes_is : (p : Contents) → page_bytes p ≡ front p ++ replicate (4096 - size p) 0
page_bytes_is p = sym (ap (λ (t : List ℕ). numbers p ++ t) (append_assoc (high_bytes p.high) (flat_map entry_bytes p.entries) (replicate (4096 - size p) 0)))

-- the front and zeros behind it
pub ended : (p : Contents) (old now last : List ℕ) (end : ℕ) → Writes old now 0 end (front p) → length old ≡ 4096 → last ≡ take end now ++ replicate (length now - end) 0 → last ≡ page_bytes p
ended p old now last end w len is =
    let zeros : length old - length (front p) ≡ 4096 - size p = omega (arith, len, length-front p) in
    padded_written old now last (front p) end w is ∙ ap (λ (n : ℕ). front p ++ replicate n 0) zeros ∙ sym (page_bytes_is p)

-- the parts that are written one behind the other are the front
pub all_written : (p : Contents) (old b1 b2 b3 b4 b5 : List ℕ) (a1 a2 a3 a4 a5 count : ℕ) (es : List Entry) → count ≡ length p.entries → es ≡ p.entries
    → Writes old b1 0 a1 (to_be_bytes w16 p.level) → Writes b1 b2 a1 a2 (to_be_bytes w16 count) → Writes b2 b3 a2 a3 (to_be_bytes w64 p.right)
    → Writes b3 b4 a3 a4 (to_be_bytes w16 (high_len p.high) ++ (0 ∷ 0 ∷ high_bytes p.high)) → Writes b4 b5 a4 a5 (flat_map entry_bytes es) → Writes old b5 0 a5 (front p)
all_written p old b1 b2 b3 b4 b5 a1 a2 a3 a4 a5 count es c e w1 w2 w3 w4 w5 =
    let two = subst (λ (n : ℕ). Writes b1 b2 a1 a2 (to_be_bytes w16 n)) c w2 in
    let five = subst (λ (xs : List Entry). Writes b4 b5 a4 a5 (flat_map entry_bytes xs)) e w5 in
    writes_then old b1 b5 0 a1 a5 (to_be_bytes w16 p.level) _ w1 (writes_then b1 b2 b5 a1 a2 a5 (to_be_bytes w16 (length p.entries)) _ two (writes_then b2 b3 b5 a2 a3 a5 (to_be_bytes w64 p.right) _ w3 (writes_then b3 b4 b5 a3 a4 a5 (to_be_bytes w16 (high_len p.high) ++ (0 ∷ 0 ∷ high_bytes p.high)) (flat_map entry_bytes p.entries) w4 five)))
