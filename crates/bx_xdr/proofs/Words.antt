-- Words of four bytes, the highest first: what they read as, and that they are told apart.
use Rattle.std.proofs.Common.{◌≡◌, ℕ, suc, ◌+◌, ◌*◌, ◌^◌, ◌<◌, ◌≤◌, List, [], ◌∷◌, ◌++◌, length, get_or, take, drop, refl, sym, ap, ◌∙◌, arith, inl, inr}
use Rattle.std.specs.Int.{w32, to_be_bytes, from_be_bytes}
use Rattle.std.proofs.lemmas.List.{take-append-drop, length-append, length-take, length-drop, get_or-drop, get_or-take, get_or_past, drop-drop, drop_all, append-nil}
use Rattle.std.proofs.lemmas.Bool.{cases_lt}
use Rattle.std.proofs.lemmas.Nat.{be_bytes_4, from_be_bytes-to_be_bytes_4}
use Rattle.bx_base.specs.Bytes.{IsBytes, words}
use Rattle.bx_xdr.specs.Items.{AreWords, SpellsWords, Reads}
use Rattle.byteorder.specs.Endian.{big_number}
use Rattle.byteorder.specs.Numbers.{big_from-lt}

pub AreWords-each : (xs : List ℕ) → ((i : ℕ) → get_or xs i 0 < 2 ^ 32) → AreWords xs
AreWords-each [] fits = tt
AreWords-each (x ∷ xs) fits = (fits 0, AreWords-each xs (λ i. fits (suc i)))

IsBytes-drop : (n : ℕ) (bytes : List ℕ) → IsBytes bytes → IsBytes (drop n bytes)
IsBytes-drop n bytes h i = rw get_or-drop (h (n + i))

IsBytes-take : (n : ℕ) (bytes : List ℕ) → IsBytes bytes → IsBytes (take n bytes)
IsBytes-take n bytes h i =
    elim (cases_lt i n) [
      | inl lt ↦ rw (get_or-take n bytes i 0 lt) (h i)
      | inr le ↦ rw (get_or_past (take n bytes) i 0 (omega (arith, length-take n bytes))) (omega arith)
    ]

-- four bytes for each word
pub length-words : (xs : List ℕ) → length (words xs) ≡ 4 * length xs
length-words [] = refl
length-words (x ∷ xs) = let h = length-words xs in omega (arith, length-append (to_be_bytes w32 x) (words xs))

-- the word that the first four bytes read as is those bytes
first_word : (bytes : List ℕ) → IsBytes bytes → 4 ≤ length bytes → bytes ≡ to_be_bytes w32 (big_number 4 bytes) ++ drop 4 bytes
first_word bytes fits long =
    let number : big_number 4 bytes ≡ from_be_bytes w32 (take 4 bytes) =
    omega (arith, get_or-take 4 bytes 0 0 (omega arith), get_or-take 4 bytes 1 0 (omega arith), get_or-take 4 bytes 2 0 (omega arith), get_or-take 4 bytes 3 0 (omega arith)) in
    let front : to_be_bytes w32 (big_number 4 bytes) ≡ take 4 bytes =
    be_bytes_4 (take 4 bytes) (big_number 4 bytes) (omega (arith, length-take 4 bytes)) (IsBytes-take 4 bytes fits) number in
    sym (take-append-drop 4 bytes) ∙ ap (λ (word : List ℕ). word ++ drop 4 bytes) (sym front)

-- the numbers that stand in the bytes as words
pub words_read : (xs bytes : List ℕ) → IsBytes bytes → 4 * length xs ≤ length bytes
    → ((k : ℕ) → k < length xs → get_or xs k 0 ≡ big_number 4 (drop (4 * k) bytes))
    → bytes ≡ words xs ++ drop (4 * length xs) bytes
words_read [] bytes fits long reads = refl
words_read (x ∷ xs) bytes fits long reads =
    let first : bytes ≡ to_be_bytes w32 x ++ drop 4 bytes =
    first_word bytes fits (omega arith) ∙ ap (λ (n : ℕ). to_be_bytes w32 n ++ drop 4 bytes) (sym (reads 0 (omega arith))) in
    let others : drop 4 bytes ≡ words xs ++ drop (4 * length xs) (drop 4 bytes) =
    words_read xs (drop 4 bytes) (IsBytes-drop 4 bytes fits) (omega (arith, length-drop 4 bytes)) (λ k lt.
    let same : drop (4 * k) (drop 4 bytes) ≡ drop (4 * suc k) bytes = drop-drop (4 * k) 4 bytes ∙ ap (λ (n : ℕ). drop n bytes) (omega arith) in
    rw same (reads (suc k) (omega arith))) in
    let rest : drop (4 * length xs) (drop 4 bytes) ≡ drop (4 * suc (length xs)) bytes = drop-drop (4 * length xs) 4 bytes ∙ ap (λ (n : ℕ). drop n bytes) (omega arith) in
    first ∙ ap (λ (tail : List ℕ). to_be_bytes w32 x ++ tail) (others ∙ ap (λ (tail : List ℕ). words xs ++ tail) rest)

-- a word is told by its bytes, whatever comes behind them
word_same : (x y : ℕ) (a b : List ℕ) → x < 2 ^ 32 → y < 2 ^ 32 → to_be_bytes w32 x ++ a ≡ to_be_bytes w32 y ++ b → (x ≡ y) × (a ≡ b)
word_same x y a b fx fy e =
    let bytes : to_be_bytes w32 x ≡ to_be_bytes w32 y = ap (take 4) e in (
      sym (from_be_bytes-to_be_bytes_4 x fx) ∙ ap (from_be_bytes w32) bytes ∙ from_be_bytes-to_be_bytes_4 y fy,
      ap (drop 4) e,
    )

-- words are told by their bytes
pub words_same : (xs ys a b : List ℕ) → length xs ≡ length ys → AreWords xs → AreWords ys → words xs ++ a ≡ words ys ++ b → (xs ≡ ys) × (a ≡ b)
words_same [] [] a b len fx fy e = (refl, e)
words_same [] (y ∷ ys) a b len fx fy e = absurd (omega arith)
words_same (x ∷ xs) [] a b len fx fy e = absurd (omega arith)
words_same (x ∷ xs) (y ∷ ys) a b len fx fy e =
    let first = word_same x y (words xs ++ a) (words ys ++ b) fx.0 fy.0 e in
    let others = words_same xs ys a b (omega arith) fx.1 fy.1 first.1 in
    (ap (λ (n : ℕ). n ∷ xs) first.0 ∙ ap (λ (tail : List ℕ). y ∷ tail) others.0, others.1)

-- the words at the front of the bytes, which were read from the front alone
pub front_read : (n : ℕ) (xs front bytes : List ℕ) → IsBytes bytes → n ≡ 4 * length xs → n ≤ length bytes → front ≡ take n bytes
    → ((k : ℕ) → k < length xs → get_or xs k 0 ≡ big_number 4 (drop (4 * k) front))
    → bytes ≡ words xs ++ drop n bytes
front_read n xs front bytes fits four long is reads =
    let size : length front ≡ n = ap length is ∙ omega (arith, length-take n bytes) in
    let inside : IsBytes front = λ i. rw is (IsBytes-take n bytes fits i) in
    let whole : front ≡ words xs ++ drop (4 * length xs) front = words_read xs front inside (omega arith) reads in
    let none : drop (4 * length xs) front ≡ [] = drop_all (4 * length xs) front (omega arith) in
    let exact : front ≡ words xs = whole ∙ ap (λ (tail : List ℕ). words xs ++ tail) none ∙ append-nil (words xs) in
    sym (take-append-drop n bytes) ∙ ap (λ (head : List ℕ). head ++ drop n bytes) (sym is ∙ exact)

-- words that were read are words
pub read_fits : (n : ℕ) (xs front bytes : List ℕ) → IsBytes bytes → front ≡ take n bytes
    → ((k : ℕ) → k < length xs → get_or xs k 0 ≡ big_number 4 (drop (4 * k) front))
    → (i : ℕ) → get_or xs i 0 < 2 ^ 32
read_fits n xs front bytes fits is reads i =
    let inside : IsBytes front = λ j. rw is (IsBytes-take n bytes fits j) in
    elim (cases_lt i (length xs)) [
      | inl lt ↦ rw (reads i lt) (big_from-lt 0 4 (drop (4 * i) front) (IsBytes-drop (4 * i) front inside))
      | inr past ↦ rw (get_or_past xs i 0 past) (omega arith)
    ]

-- the words that were read from the front of the bytes
pub words_cut : (m n : ℕ) (xs front rest bytes : List ℕ) → IsBytes bytes → m ≡ length xs → n ≡ 4 * m → n ≤ length bytes → front ≡ take n bytes → rest ≡ drop n bytes
    → ((k : ℕ) → k < length xs → get_or xs k 0 ≡ big_number 4 (drop (4 * k) front))
    → Reads (SpellsWords m xs) bytes rest
words_cut m n xs front rest bytes fits size four long is behind reads = record {
  spelling = words xs;
  spells = record { count = sym size; fit = AreWords-each xs (read_fits n xs front bytes fits is reads); parts = refl };
  parts = front_read n xs front bytes fits (omega arith) long is reads ∙ ap (λ (s : List ℕ). words xs ++ s) (sym behind);
}

-- a text that begins with words has four bytes for each
pub words_long : (n : ℕ) (xs text rest : List ℕ) → Reads (SpellsWords n xs) text rest → 4 * n ≤ length text
words_long n xs text rest p =
    omega (arith, p.spells.count, length-words xs, ap length p.spells.parts, ap length p.parts, length-append p.spelling rest)

-- a text begins with n words in one way at most
pub words_once : (n : ℕ) (text a b xs ys : List ℕ) → Reads (SpellsWords n xs) text a → Reads (SpellsWords n ys) text b → (xs ≡ ys) × (a ≡ b)
words_once n text a b xs ys p q =
    let left : text ≡ words xs ++ a = p.parts ∙ ap (λ (s : List ℕ). s ++ a) p.spells.parts in
    let right : text ≡ words ys ++ b = q.parts ∙ ap (λ (s : List ℕ). s ++ b) q.spells.parts in
    words_same xs ys a b (p.spells.count ∙ sym q.spells.count) p.spells.fit q.spells.fit (sym left ∙ right)
