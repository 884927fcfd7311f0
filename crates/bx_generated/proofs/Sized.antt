-- The bytes of datagrams are bytes, and not too many.
use Rattle.std.proofs.Common.{◌≡◌, ℕ, zero, suc, ◌+◌, ◌*◌, ◌^◌, ◌<◌, ◌≤◌, List, [], ◌∷◌, ◌++◌, length, replicate, refl, arith}
use Rattle.std.specs.Prelude.{codes, decimal}
use Rattle.std.specs.List.{AllByRecursion}
use Rattle.std.specs.Int.{w64, to_be_bytes}
use Rattle.std.specs.Str.{IsAscii}
use Rattle.std.proofs.lemmas.List.{length-append}
use Rattle.std.proofs.lemmas.Fmt.{IsAscii-decimal, length-decimal-le}
use Rattle.bx_base.specs.Bytes.{IsBytes, words}
use Rattle.bx_places.specs.Handles.{file_text}
use Rattle.bx_xdr.specs.Items.{fixed_text, opaque_text, padding_len, word_text}
use Rattle.bx_generated.specs.Datagrams.{arguments, attributes_text, datagram, header, name_of, number_of, place_text, root_text, written_handle}
use Rattle.bx_generated.specs.declared.draws.Draw.{Draw}
use Rattle.bx_generated.specs.declared.draws.Procedure.{Procedure}
use Rattle.bx_generated.specs.declared.draws.Procedure.TheVariants.{Create, Lookup, Remove, Mkdir, Rmdir, Rename, Readdir, Write, Statfs, Symlink}

abbrev IsByte : ℕ → Type 0
IsByte byte = byte < 256

-- bytes, at most so many
pub record AreBytes (most : ℕ) (bytes : List ℕ) : Type 0 where
  pub each : AllByRecursion IsByte bytes
  pub few : length bytes ≤ most

all_append : (a b : List ℕ) → AllByRecursion IsByte a → AllByRecursion IsByte b → AllByRecursion IsByte (a ++ b)
all_append [] b p q = q
all_append (x ∷ a) b p q = (p.0, all_append a b p.1 q)

both : (m n : ℕ) (a b : List ℕ) → AreBytes m a → AreBytes n b → AreBytes (m + n) (a ++ b)
both m n a b p q = record { each = all_append a b p.each q.each; few = omega (arith, length-append a b, p.few, q.few) }

all_zeros : (n : ℕ) → AllByRecursion IsByte (replicate n 0)
all_zeros zero = tt
all_zeros (suc n) = (omega arith, all_zeros n)

length-zeros : (n : ℕ) → length (replicate {A = ℕ} n 0) ≡ n
length-zeros zero = refl
length-zeros (suc n) = let h = length-zeros n in omega (arith, h)

zeros : (n : ℕ) → AreBytes n (replicate n 0)
zeros n = record { each = all_zeros n; few = omega (arith, length-zeros n) }

word : (n : ℕ) → AreBytes 4 (word_text n)
word n = record { each = (omega arith, (omega arith, (omega arith, (omega arith, tt)))); few = omega arith }

eight : (n : ℕ) → AreBytes 8 (to_be_bytes w64 n)
eight n = record { each = (omega arith, (omega arith, (omega arith, (omega arith, (omega arith, (omega arith, (omega arith, (omega arith, tt)))))))); few = omega arith }

all_words : (numbers : List ℕ) → AreBytes (4 * length numbers) (words numbers)
all_words [] = record { each = tt; few = omega arith }
all_words (n ∷ numbers) =
    let first = word n in
    let others = all_words numbers in
    record { each = all_append (word_text n) (words numbers) first.each others.each; few = omega (arith, length-append (word_text n) (words numbers), first.few, others.few) }

padded : (m : ℕ) (content : List ℕ) → AreBytes m content → AreBytes (m + 3) (fixed_text content)
padded m content p =
    let pad = zeros (padding_len (length content)) in
    record { each = all_append content (replicate (padding_len (length content)) 0) p.each pad.each; few = omega (arith, length-append content (replicate (padding_len (length content)) 0), p.few, pad.few) }

sized : (m : ℕ) (content : List ℕ) → AreBytes m content → AreBytes (4 + (m + 3)) (opaque_text content)
sized m content p = both 4 (m + 3) (word_text (length content)) (fixed_text content) (word (length content)) (padded m content p)

all_ascii : (text : List ℕ) → IsAscii text → AllByRecursion IsByte text
all_ascii [] p = tt
all_ascii (c ∷ text) p = (let h = p 0 in omega (arith, h), all_ascii text (λ i. p (suc i)))

name : (n : ℕ) → n < 100 → AreBytes 3 (name_of n)
name n small = record {
  each = (omega arith, all_ascii (decimal n) (IsAscii-decimal n (omega (arith, small))));
  few = omega (arith, length-decimal-le 2 n (omega arith) (omega (arith, small)) (omega (arith, small)));
}

file : (volume handle : ℕ) → AreBytes 35 (fixed_text (file_text volume handle))
file volume handle =
    padded 32 (file_text volume handle) (
    both 8 24 (codes "BOXWOOD1") (to_be_bytes w64 volume ++ (to_be_bytes w64 handle ++ replicate 8 0)) (record { each = (omega arith, (omega arith, (omega arith, (omega arith, (omega arith, (omega arith, (omega arith, (omega arith, tt)))))))); few = omega arith })
    (both 8 16 (to_be_bytes w64 volume) (to_be_bytes w64 handle ++ replicate 8 0) (eight volume) (both 8 8 (to_be_bytes w64 handle) (replicate 8 0) (eight handle) (zeros 8))))

root : (volume : ℕ) → AreBytes 35 (root_text volume)
unfolding root_text
root volume = file volume 1

place : (volume n : ℕ) → n < 100 → AreBytes 45 (place_text volume n)
unfolding place_text
place volume n small = both 35 10 (root_text volume) (opaque_text (name_of n)) (root volume) (sized 3 (name_of n) (name n small))

attributes : (mode : ℕ) → AreBytes 32 (attributes_text mode)
unfolding attributes_text
attributes mode = all_words (mode ∷ 4294967295 ∷ 4294967295 ∷ 4294967295 ∷ 4294967295 ∷ 4294967295 ∷ 4294967295 ∷ 4294967295 ∷ [])

all_letters : (n : ℕ) → AllByRecursion IsByte (replicate n 120)
all_letters zero = tt
all_letters (suc n) = (omega arith, all_letters n)

length-letters : (n : ℕ) → length (replicate {A = ℕ} n 120) ≡ n
length-letters zero = refl
length-letters (suc n) = let h = length-letters n in omega (arith, h)

content : AreBytes 100 (replicate 100 120)
content = record { each = all_letters 100; few = omega (arith, length-letters 100) }

more : (m n : ℕ) (bytes : List ℕ) → m ≤ n → AreBytes m bytes → AreBytes n bytes
more m n bytes le p = record { each = p.each; few = omega (arith, le, p.few) }

arguments_are : (volume : ℕ) (procedure : Procedure) (first second : ℕ) → first < 100 → second < 100 → AreBytes 200 (arguments volume procedure first second)
unfolding arguments
arguments_are volume Create first second p q = more 77 200 _ (omega arith) (both 45 32 (place_text volume first) (attributes_text 420) (place volume first p) (attributes 420))
arguments_are volume Lookup first second p q = more 45 200 _ (omega arith) (place volume first p)
arguments_are volume Remove first second p q = more 45 200 _ (omega arith) (place volume first p)
arguments_are volume Mkdir first second p q = more 77 200 _ (omega arith) (both 45 32 (place_text volume first) (attributes_text 493) (place volume first p) (attributes 493))
arguments_are volume Rmdir first second p q = more 45 200 _ (omega arith) (place volume first p)
arguments_are volume Rename first second p q = more 90 200 _ (omega arith) (both 45 45 (place_text volume first) (place_text volume second) (place volume first p) (place volume second q))
arguments_are volume Readdir first second p q = more 43 200 _ (omega arith) (both 35 8 (root_text volume) (words (0 ∷ 4096 ∷ [])) (root volume) (all_words (0 ∷ 4096 ∷ [])))
arguments_are volume Write first second p q =
    more 154 200 _ (omega arith) (
    both 35 119 (fixed_text (file_text volume (written_handle first))) (words (0 ∷ 97 * second ∷ 0 ∷ []) ++ opaque_text (replicate 100 120)) (file volume (written_handle first))
    (both 12 107 (words (0 ∷ 97 * second ∷ 0 ∷ [])) (opaque_text (replicate 100 120)) (all_words (0 ∷ 97 * second ∷ 0 ∷ [])) (sized 100 (replicate 100 120) content)))
arguments_are volume Statfs first second p q = more 35 200 _ (omega arith) (root volume)
arguments_are volume Symlink first second p q =
    more 85 200 _ (omega arith) (
    both 45 40 (place_text volume first) (opaque_text (codes "f") ++ attributes_text 4294967295) (place volume first p)
    (both 8 32 (opaque_text (codes "f")) (attributes_text 4294967295) (record { each = (omega arith, (omega arith, (omega arith, (omega arith, (omega arith, (omega arith, (omega arith, (omega arith, tt)))))))); few = omega arith }) (attributes 4294967295)))

header_is : (number : ℕ) (procedure : Procedure) → AreBytes 40 (header number procedure)
unfolding header
header_is number procedure = all_words (number ∷ 0 ∷ 2 ∷ 100003 ∷ 2 ∷ number_of procedure ∷ 0 ∷ 0 ∷ 0 ∷ 0 ∷ [])

pub datagram_are : (volume number : ℕ) (draw : Draw) → draw.first < 100 → draw.second < 100 → AreBytes 240 (datagram volume number draw)
unfolding datagram
datagram_are volume number draw p q =
    both 40 200 (header number draw.procedure) (arguments volume draw.procedure draw.first draw.second) (header_is number draw.procedure) (arguments_are volume draw.procedure draw.first draw.second p q)

pub IsBytes-from_each : (bytes : List ℕ) → AllByRecursion IsByte bytes → IsBytes bytes
IsBytes-from_each [] p i = omega arith
IsBytes-from_each (b ∷ bytes) p zero = p.0
IsBytes-from_each (b ∷ bytes) p (suc i) = IsBytes-from_each bytes p.1 i
