-- A post's packets as the list that contracts see.
use Rattle.std.proofs.Common.{◌≡◌, ℕ, zero, suc, ◌+◌, ◌<◌, List, [], ◌∷◌, ◌++◌, length, map, filter, true, false, set, get_or, ◌==◌, refl, arith, ap, sym, ◌∙◌, subst, Some, None}
use Rattle.std.proofs.lemmas.Bool.Decides.{nat_tests}
use Rattle.std.specs.Prelude.{if◌then◌else◌, Bool, slice_get, Option}
use Rattle.std.specs.Option.{option_map}
use Rattle.bx_post.specs.declared.packets.Packet.{Packet}
use Rattle.bx_post.specs.declared.post.Slot.{Slot}
use Rattle.bx_post.specs.Posts.{Posted, is_waiting, packet_from, settled_from, numbered, letter_of}
use Rattle.bx_post.specs.Slots.{AreNumbered, posted, posted_of, slot_waits}
use Rattle.std.specs.Prelude.{OnSome, IsSome, take, drop}
use Rattle.bx_post.specs.declared.packets.Letter.{Letter}
use Rattle.bx_post.specs.Posts.{fresh}
use Rattle.bx_post.specs.Slots.{count_from}
use Rattle.bx_post.specs.Slots.{IsKept}
use Rattle.bx_post.proofs.Posts.{beyond, under}

pub as_long : (slots : List Slot) → length (posted slots) ≡ length slots
as_long [] = refl
as_long (slot ∷ rest) = ap suc (as_long rest)

pub posted_behind : (slots others : List Slot) → posted (slots ++ others) ≡ posted slots ++ posted others
posted_behind [] others = refl
posted_behind (slot ∷ rest) others = ap (λ xs. posted_of slot ∷ xs) (posted_behind rest others)

pub numbered_behind : (first : ℕ) (slots others : List Slot) → AreNumbered first slots → AreNumbered (first + length slots) others → AreNumbered first (slots ++ others)
numbered_behind first [] others are more = let e : first + 0 ≡ first = omega arith in let P : ℕ → Type 0 = λ n. AreNumbered n others in subst P e more
numbered_behind first (slot ∷ rest) others are more =
    let e : first + suc (length rest) ≡ first + 1 + length rest = omega arith in
    let P : ℕ → Type 0 = λ n. AreNumbered n others in
    (are.0, numbered_behind (first + 1) rest others are.1 (subst P e more))

packet_is : (slot : Slot) (number : ℕ) → slot.packet.number ≡ number → numbered number (letter_of slot.packet) ≡ slot.packet
packet_is slot number is = ap (λ n. numbered n (letter_of slot.packet)) (sym is)

abbrev pub packet_of : Slot → Packet
packet_of slot = slot.packet

pub packet_at : (first number at : ℕ) (slots : List Slot) → AreNumbered first slots → number ≡ first + at → packet_from first number (posted slots) ≡ option_map packet_of (slice_get slots at)
packet_at first number at [] are is = refl
packet_at first number zero (slot ∷ rest) are is =
    let same : (first == number) ≡ true = grind (arith, nat_tests) in
    let from : number ≡ first = omega (arith, is) in
    let one : slot.packet.number ≡ number = are.0 ∙ sym from in
    ap (λ t. if t then Some (numbered number (letter_of slot.packet)) else packet_from (first + 1) number (posted rest)) same ∙ ap Some (packet_is slot number one)
packet_at first number (suc at) (slot ∷ rest) are is =
    let other : (first == number) ≡ false = grind (arith, nat_tests) in
    let more = packet_at (first + 1) number at rest are.1 (omega arith) in
    ap (λ t. if t then Some (numbered number (letter_of slot.packet)) else packet_from (first + 1) number (posted rest)) other ∙ more

-- the one with this number isn't pending any more
pub settled_at : (first number at : ℕ) (slots : List Slot) (slot : Slot) → number ≡ first + at → slice_get slots at ≡ Some slot
    → posted (set slots at (record slot { waits = false })) ≡ settled_from first number (posted slots)
settled_at first number at [] slot is there = cc
settled_at first number zero (one ∷ rest) slot is there =
    let same : (first == number) ≡ true = grind (arith, nat_tests) in
    let it : slot ≡ one = cc in
    let tail : posted rest ≡ settled_from (first + 1) number (posted rest) = sym (beyond (first + 1) number (posted rest) (omega arith)) in
    ap (λ s. posted_of (record s { waits = false }) ∷ posted rest) it
    ∙ ap (λ xs. posted_of (record one { waits = false }) ∷ xs) tail
    ∙ sym (ap (λ t. (if t then record (posted_of one) { waits = false } else posted_of one) ∷ settled_from (first + 1) number (posted rest)) same)
settled_at first number (suc at) (one ∷ rest) slot is there =
    let other : (first == number) ≡ false = grind (arith, nat_tests) in
    ap (λ xs. posted_of one ∷ xs) (settled_at (first + 1) number at rest slot (omega arith) there)
    ∙ sym (ap (λ t. (if t then record (posted_of one) { waits = false } else posted_of one) ∷ settled_from (first + 1) number (posted rest)) other)

pub still_numbered : (first at : ℕ) (slots : List Slot) (slot : Slot) → slice_get slots at ≡ Some slot → AreNumbered first slots → AreNumbered first (set slots at (record slot { waits = false }))
still_numbered first at [] slot there are = tt
still_numbered first zero (one ∷ rest) slot there are = let it : slot ≡ one = cc in (ap (λ s. s.packet.number) it ∙ are.0, are.1)
still_numbered first (suc at) (one ∷ rest) slot there are = (are.0, still_numbered (first + 1) at rest slot there are.1)

-- the packets that are left
pub left_over : (slots : List Slot) → posted (filter slot_waits slots) ≡ filter is_waiting (posted slots)
left_over [] = refl
left_over (slot ∷ rest) = by_test slot.waits refl (left_over rest)
  where
    by_test : (t : Bool) → slot.waits ≡ t → posted (filter slot_waits rest) ≡ filter is_waiting (posted rest) → posted (filter slot_waits (slot ∷ rest)) ≡ filter is_waiting (posted_of slot ∷ posted rest)
    by_test true is more = ap (λ t. posted (if t then slot ∷ filter slot_waits rest else filter slot_waits rest)) is ∙ ap (λ xs. posted_of slot ∷ xs) more ∙ sym (ap (λ t. if t then posted_of slot ∷ filter is_waiting (posted rest) else filter is_waiting (posted rest)) is)
    by_test false is more = ap (λ t. posted (if t then slot ∷ filter slot_waits rest else filter slot_waits rest)) is ∙ more ∙ sym (ap (λ t. if t then posted_of slot ∷ filter is_waiting (posted rest) else filter is_waiting (posted rest)) is)

-- an element that was read
pub got : {A : Type 0} (xs : List A) (at : ℕ) (x : A) → at < length xs → x ≡ get_or xs at x → slice_get xs at ≡ Some x
got [] at x inside is = absurd (omega arith)
got (y ∷ ys) zero x inside is = ap Some (sym is)
got (y ∷ ys) (suc at) x inside is = got ys at x (omega arith) is

pub inside_of : {A : Type 0} (xs : List A) (at : ℕ) (x : A) → slice_get xs at ≡ Some x → at < length xs
inside_of [] at x is = cc
inside_of (y ∷ ys) zero x is = omega arith
inside_of (y ∷ ys) (suc at) x is = omega (arith, inside_of ys at x is)

pub on_some : {A : Type 0} (o : Option A) (P : Type 0) → IsSome o → OnSome o P → P
on_some None P some holds = cc
on_some (Some x) P some holds = holds

-- a packet numbered anew
abbrev pub renumbered : Slot → ℕ → Slot
renumbered slot n = record slot { packet = record slot.packet { number = n } }

pub same_posted : (at n : ℕ) (slots : List Slot) (slot : Slot) → slice_get slots at ≡ Some slot → posted (set slots at (renumbered slot n)) ≡ posted slots
same_posted at n [] slot there = cc
same_posted zero n (one ∷ rest) slot there = let it : slot ≡ one = cc in ap (λ s. posted_of s ∷ posted rest) it
same_posted (suc at) n (one ∷ rest) slot there = ap (λ xs. posted_of one ∷ xs) (same_posted at n rest slot there)

pub numbered_more : (first at n : ℕ) (slots : List Slot) (slot : Slot) → n ≡ first + at → slice_get slots at ≡ Some slot → AreNumbered first (take at slots) → AreNumbered first (take (suc at) (set slots at (renumbered slot n)))
numbered_more first at n [] slot is there are = cc
numbered_more first zero n (one ∷ rest) slot is there are = (omega (arith, is), tt)
numbered_more first (suc at) n (one ∷ rest) slot is there are = (are.0, numbered_more (first + 1) at n rest slot (omega arith) there are.1)

pub counted : (first at n : ℕ) (xs : List ℕ) → n ≡ first + at → at < length xs → set (count_from first at ++ drop at xs) at n ≡ count_from first (suc at) ++ drop (suc at) xs
counted first at n [] is inside = absurd (omega arith)
counted first zero n (x ∷ xs) is inside = let from : n ≡ first = omega (arith, is) in ap (λ m. m ∷ xs) from
counted first (suc at) n (x ∷ xs) is inside = ap (λ ys. first ∷ ys) (counted (first + 1) at n xs (omega arith) (omega arith))

pub count_more : (first count : ℕ) → count_from first (count + 1) ≡ count_from first count ++ (first + count) ∷ []
count_more first zero = let e : first + 0 ≡ first = omega arith in ap (λ n. n ∷ []) (sym e)
count_more first (suc count) =
    let next : suc count + 1 ≡ suc (count + 1) = omega arith in
    let along : first + 1 + count ≡ first + suc count = omega arith in
    ap (count_from first) next ∙ ap (λ xs. first ∷ xs) (count_more (first + 1) count ∙ ap (λ n. count_from (first + 1) count ++ n ∷ []) along)

pub fresh_behind : (letters : List Letter) (letter : Letter) → map fresh (letters ++ letter ∷ []) ≡ map fresh letters ++ fresh letter ∷ []
fresh_behind [] letter = refl
fresh_behind (one ∷ rest) letter = ap (λ xs. fresh one ∷ xs) (fresh_behind rest letter)

pub as_fresh : (letters : List Letter) → length (map fresh letters) ≡ length letters
as_fresh [] = refl
as_fresh (one ∷ rest) = ap suc (as_fresh rest)

pub packet_none : (first number : ℕ) (all : List Posted) → number < first → packet_from first number all ≡ None
packet_none first number [] low = refl
packet_none first number (one ∷ rest) low =
    let other : (first == number) ≡ false = grind (arith, nat_tests) in
    ap (λ t. if t then Some (numbered number one.letter) else packet_from (first + 1) number rest) other ∙ packet_none (first + 1) number rest (omega arith)

-- a number that waits is that of a packet
pub number_inside : (slots : List Slot) (waiting : List ℕ) (number i : ℕ) → IsKept slots waiting → slice_get waiting i ≡ Some number → number < 1 + length slots
number_inside slots waiting number i kept there =
    let P : List ℕ → Type 0 = λ ws. slice_get ws i ≡ Some number in
    omega (arith, under 1 number (posted slots) i (subst P kept.pending there), as_long slots)
