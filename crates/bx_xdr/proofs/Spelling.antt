-- How the spelling of an item is cut from the bytes behind it.
use Rattle.std.proofs.Common.{◌≡◌, ℕ, ◌+◌, ◌<◌, ◌≤◌, List, ◌++◌, length, take, drop, refl, sym, ap, ◌∙◌, append_assoc, arith}
use Rattle.std.specs.Int.{w32, to_be_bytes, from_be_bytes}
use Rattle.std.proofs.lemmas.List.{take_at, drop_at, take-append-drop, length-take, length-drop}
use Rattle.std.proofs.lemmas.Nat.{from_be_bytes-to_be_bytes_4}
use Rattle.bx_xdr.specs.Items.{padding_len, SpellsWord, SpellsWords, SpellsFixed, SpellsOpaque, SpellsList, Reads, Lacks, HasOneReading}
use Rattle.bx_xdr.proofs.Grammar.{Split, split, reads_then}
use Rattle.bx_xdr.proofs.Words.{words_once}

-- fronts of one length are told by the whole
fronts_same : (x y a b : List ℕ) → length x ≡ length y → x ++ a ≡ y ++ b → (x ≡ y) × (a ≡ b)
fronts_same x y a b len e = (
  sym (take_at x a (length y) len) ∙ ap (take (length y)) e ∙ take_at y b (length y) refl,
  sym (drop_at x a (length y) len) ∙ ap (drop (length y)) e ∙ drop_at y b (length y) refl,
)

-- a text begins with one word at most
pub word_same : (v w : ℕ) (text a b : List ℕ) → Reads (SpellsWord v) text a → Reads (SpellsWord w) text b → (v ≡ w) × (a ≡ b)
word_same v w text a b p q =
    let left : text ≡ to_be_bytes w32 v ++ a = p.parts ∙ ap (λ (s : List ℕ). s ++ a) p.spells.parts in
    let right : text ≡ to_be_bytes w32 w ++ b = q.parts ∙ ap (λ (s : List ℕ). s ++ b) q.spells.parts in
    let same = fronts_same (to_be_bytes w32 v) (to_be_bytes w32 w) a b refl (sym left ∙ right) in
    (sym (from_be_bytes-to_be_bytes_4 v p.spells.fits) ∙ ap (from_be_bytes w32) same.0 ∙ from_be_bytes-to_be_bytes_4 w q.spells.fits, same.1)

-- content and padding that are behind each other
fixed_parts : (n : ℕ) (x text a : List ℕ) → (p : Reads (SpellsFixed n x) text a) → text ≡ x ++ (p.spells.padding ++ a)
fixed_parts n x text a p = p.parts ∙ ap (λ (s : List ℕ). s ++ a) p.spells.parts ∙ append_assoc x p.spells.padding a

-- a text begins with one content of a length at most
pub fixed_same : (n : ℕ) (text a b x y : List ℕ) → Reads (SpellsFixed n x) text a → Reads (SpellsFixed n y) text b → (x ≡ y) × (a ≡ b)
fixed_same n text a b x y p q =
    let front = fronts_same x y (p.spells.padding ++ a) (q.spells.padding ++ b) (omega (arith, p.spells.len, q.spells.len)) (sym (fixed_parts n x text a p) ∙ fixed_parts n y text b q) in
    let behind = fronts_same p.spells.padding q.spells.padding a b (p.spells.padded ∙ sym q.spells.padded) front.1 in
    (front.0, behind.1)

-- what is cut off at n, and then at the padding
pub fixed_cut : (n k : ℕ) (text : List ℕ) → k ≡ padding_len n → n + k ≤ length text → Reads (SpellsFixed n (take n text)) text (drop k (drop n text))
fixed_cut n k text is long =
    let padding = take k (drop n text) in
    record {
      spelling = take n text ++ padding;
      spells = record {
        padding = padding;
        len = omega (arith, length-take n text);
        padded = omega (arith, is, length-take k (drop n text), length-drop n text);
        parts = refl;
      };
      parts = sym (take-append-drop n text) ∙ ap (λ (s : List ℕ). take n text ++ s) (sym (take-append-drop k (drop n text))) ∙ sym (append_assoc (take n text) padding (drop k (drop n text)));
    }

-- opaque data is a word and as much content
pub halves : (max : ℕ) (x text a : List ℕ) → Reads (SpellsOpaque max x) text a → Split (SpellsWord (length x)) (SpellsFixed (length x) x) text a
halves max x text a p = split (record { spelling = p.spelling; spells = p.spells.parts; parts = p.parts })

pub joined : (max n : ℕ) (x text middle a : List ℕ) → n ≤ max → Reads (SpellsWord n) text middle → Reads (SpellsFixed n x) middle a → Reads (SpellsOpaque max x) text a
joined max n x text middle a short p q =
    let len : n ≡ length x = sym q.spells.len in
    let whole = reads_then (rw len at p) (rw len at q) in
    record {
      spelling = whole.spelling;
      spells = record { short = omega arith; parts = whole.spells };
      parts = whole.parts;
    }

-- a text begins with one opaque data at most
pub opaque_same : (max : ℕ) → HasOneReading (SpellsOpaque max)
opaque_same max text a b x y p q =
    let left = halves max x text a p in
    let right = halves max y text b q in
    let front = word_same (length x) (length y) text left.middle right.middle left.first right.first in
    fixed_same (length y) right.middle a b x y (rw (front.0, front.1) at left.second) right.second

-- no opaque data is where its length isn't, is too great, or isn't followed by content
pub without_length : (max : ℕ) (text : List ℕ) → Lacks SpellsWord text → Lacks (SpellsOpaque max) text
without_length max text none x a p = none (length x) _ (halves max x text a p).first

pub too_long : (max n : ℕ) (text middle : List ℕ) → Reads (SpellsWord n) text middle → max < n → Lacks (SpellsOpaque max) text
too_long max n text middle word long x a p =
    let parts = halves max x text a p in
    let same = word_same (length x) n text parts.middle middle parts.first word in
    absurd (omega (arith, same.0, p.spells.short))

pub without_content : (max n : ℕ) (text middle : List ℕ) → Reads (SpellsWord n) text middle → Lacks (SpellsFixed n) middle → Lacks (SpellsOpaque max) text
without_content max n text middle word none x a p =
    let parts = halves max x text a p in
    let same = word_same (length x) n text parts.middle middle parts.first word in
    none x a (rw (same.0, same.1) at parts.second)

-- a list is a word and as many words
pub list_halves : (max : ℕ) (x text a : List ℕ) → Reads (SpellsList max x) text a → Split (SpellsWord (length x)) (SpellsWords (length x) x) text a
list_halves max x text a p = split (record { spelling = p.spelling; spells = p.spells.parts; parts = p.parts })

pub list_joined : (max n : ℕ) (x text middle a : List ℕ) → n ≤ max → Reads (SpellsWord n) text middle → Reads (SpellsWords n x) middle a → Reads (SpellsList max x) text a
list_joined max n x text middle a short p q =
    let len : n ≡ length x = sym q.spells.count in
    let whole = reads_then (rw len at p) (rw len at q) in
    record {
      spelling = whole.spelling;
      spells = record { short = omega arith; parts = whole.spells };
      parts = whole.parts;
    }

pub list_same : (max : ℕ) → HasOneReading (SpellsList max)
list_same max text a b x y p q =
    let left = list_halves max x text a p in
    let right = list_halves max y text b q in
    let front = word_same (length x) (length y) text left.middle right.middle left.first right.first in
    words_once (length y) right.middle a b x y (rw (front.0, front.1) at left.second) right.second

pub list_without_length : (max : ℕ) (text : List ℕ) → Lacks SpellsWord text → Lacks (SpellsList max) text
list_without_length max text none x a p = none (length x) _ (list_halves max x text a p).first

pub list_too_long : (max n : ℕ) (text middle : List ℕ) → Reads (SpellsWord n) text middle → max < n → Lacks (SpellsList max) text
list_too_long max n text middle word long x a p =
    let parts = list_halves max x text a p in
    let same = word_same (length x) n text parts.middle middle parts.first word in
    absurd (omega (arith, same.0, p.spells.short))

pub list_without_words : (max n : ℕ) (text middle : List ℕ) → Reads (SpellsWord n) text middle → Lacks (SpellsWords n) middle → Lacks (SpellsList max) text
list_without_words max n text middle word none x a p =
    let parts = list_halves max x text a p in
    let same = word_same (length x) n text parts.middle middle parts.first word in
    none x a (rw (same.0, same.1) at parts.second)

pub word_once : HasOneReading SpellsWord
word_once text a b v w p q = word_same v w text a b p q
