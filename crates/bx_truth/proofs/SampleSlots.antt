-- The slots of the sample volume: which are in use, and what the chunks are.
use Rattle.std.proofs.Common.{◌≡◌, ℕ, zero, suc, ◌+◌, ◌/◌, ◌%◌, ◌^◌, ◌<◌, ◌≤◌, ◌⊎◌, ⊎_elim, inl, inr, arith, Bool, true, false, List, [], ◌∷◌, ◌++◌, length, get_or, sym, ap, ◌∙◌, subst, refl, Some, None}
use Rattle.std.specs.Prelude.{◌≢◌, ◌&&◌, ◌==◌, if◌then◌else◌, replicate}
use Rattle.std.proofs.lemmas.Bool.Decides.{nat_tests}
use Rattle.std.proofs.lemmas.List.{length-append, length-replicate}
use Rattle.bx_views.specs.bx_layout.specs.declared.block.Block.{Block}
use Rattle.bx_views.specs.bx_layout.specs.Areas.{IsArea, SpellsArea, in_use, generation_in, bit, is_dead}
use Rattle.bx_places.specs.Places.{block_area, block_slot}
use Rattle.bx_truth.specs.Chunks.{IsSlot, IsAreaBlock, IsChunked, is_slot, chunks_of, block_at, handle_of, own_block, word_in, word_at, dead_in, dead_at}
use Rattle.bx_truth.specs.Opening.{free_block}
use Rattle.bx_truth.specs.Sample.{nth, blocks, sample_slots, sample_area, sample_truth, inode_block, tree_block, piece_block}
use Rattle.bx_truth.proofs.Cases.{eq_true, eq_false}
use Rattle.bx_truth.proofs.OpeningSlots.{zeros_at, bit_zero}
use Rattle.bx_truth.proofs.Same.{IsChunk, chunk_is}
use Rattle.bx_truth.proofs.Words.{word_is, dead_is}

-- ---- the area

-- a word, so many times, and zeros behind
word_by : (n m x i : ℕ) → ((i < n) × (get_or (replicate n x ++ replicate m 0) i 0 ≡ x)) ⊎ ((n ≤ i) × (get_or (replicate n x ++ replicate m 0) i 0 ≡ 0))
word_by zero m x i = inr (omega arith, zeros_at m i)
word_by (suc n) m x zero = inl (omega arith, refl)
word_by (suc n) m x (suc i) = ⊎_elim (λ here. inl (let l = here.0 in omega (arith, l), here.1)) (λ past. inr (let l = past.0 in omega (arith, l), past.1)) (word_by n m x i)

small : (w : ℕ) → (w ≡ 2 ^ 31 + 1) ⊎ (w ≡ 0) → w < 2 ^ 32
small w is = ⊎_elim (λ e. omega (arith, e)) (λ e. omega (arith, e)) is

long : (n m x y : ℕ) → length (replicate n x ++ replicate m y) ≡ n + m
long n m x y = length-append (replicate n x) (replicate m y) ∙ sum (length (replicate n x)) (length (replicate m y)) (length-replicate {A = ℕ} n x) (length-replicate {A = ℕ} m y)
  where
    sum : (a b : ℕ) → a ≡ n → b ≡ m → a + b ≡ n + m
    sum a b is_a is_b = omega (arith, is_a, is_b)

sample_is : IsArea sample_slots
sample_is = record {
  words = long 11 949 (2 ^ 31 + 1) 0;
  fits = λ slot. small _ (⊎_elim (λ first. inl first.1) (λ other. inr other.1) (word_by 11 949 (2 ^ 31 + 1) slot));
  dead = ap (λ (n : ℕ). suc (suc n)) (length-replicate {A = ℕ} 118 0);
}

sample_spells : SpellsArea sample_slots sample_area.payload
unfolding sample_area
sample_spells = record { is = sample_is; parts = refl }

own_is : IsAreaBlock 0 sample_area
unfolding sample_area
own_is = record { handle = refl; kind = refl; slots = sample_slots; spells = record { is = sample_is; parts = refl } }

-- ---- the slots

in_first : (block : ℕ) → IsSlot 1 block → block < 960
in_first block is = let area = is.area in let slot = is.slot in omega (arith, area, slot)

area_is : (block : ℕ) → IsSlot 1 block → block_area block ≡ 0
area_is block is = let area = is.area in omega (arith, area)

slot_is : (block : ℕ) → IsSlot 1 block → block_slot block ≡ block
slot_is block is = let less = in_first block is in omega (arith, less)

own_here : (block : ℕ) → IsSlot 1 block → sample_truth (own_block (block_area block)) ≡ sample_area
own_here block is = ap (λ (a : ℕ). sample_truth (own_block a)) (area_is block is)

word_of : (block : ℕ) → IsSlot 1 block → word_at sample_truth block ≡ get_or (replicate 11 (2 ^ 31 + 1) ++ replicate 949 0) block 0
word_of block is =
    ap (λ (b : Block). word_in b.payload (block_slot block)) (own_here block is)
    ∙ ap (word_in sample_area.payload) (slot_is block is)
    ∙ word_is sample_slots sample_area.payload block sample_spells (in_first block is)

pub word_cases : (block : ℕ) → IsSlot 1 block → ((block < 11) × (word_at sample_truth block ≡ 2 ^ 31 + 1)) ⊎ ((11 ≤ block) × (word_at sample_truth block ≡ 0))
word_cases block is = ⊎_elim (λ here. inl (here.0, word_of block is ∙ here.1)) (λ past. inr (past.0, word_of block is ∙ past.1)) (word_by 11 949 (2 ^ 31 + 1) block)

-- the marks: that of slot 10 alone
bits_of_four : (k : ℕ) → k < 8 → k ≢ 2 → bit 4 k ≡ false
bits_of_four zero less other = refl
bits_of_four (suc zero) less other = refl
bits_of_four (suc (suc zero)) less other = absurd (other refl)
bits_of_four (suc (suc (suc zero))) less other = refl
bits_of_four (suc (suc (suc (suc zero)))) less other = refl
bits_of_four (suc (suc (suc (suc (suc zero))))) less other = refl
bits_of_four (suc (suc (suc (suc (suc (suc zero)))))) less other = refl
bits_of_four (suc (suc (suc (suc (suc (suc (suc zero))))))) less other = refl
bits_of_four (suc (suc (suc (suc (suc (suc (suc (suc k)))))))) less other = absurd (omega (arith, less))

bit_by : (byte k : ℕ) → k < 8 → (byte ≡ 1 → k ≢ 2) → bit (get_or (0 ∷ 4 ∷ replicate 118 0) byte 0) k ≡ false
bit_by zero k less other = bit_zero k
bit_by (suc zero) k less other = bits_of_four k less (other refl)
bit_by (suc (suc byte)) k less other = ap (λ (b : ℕ). bit b k) (zeros_at 118 byte) ∙ bit_zero k

dead_of : (block : ℕ) → IsSlot 1 block → dead_at sample_truth block ≡ is_dead sample_slots block
dead_of block is =
    ap (λ (b : Block). dead_in b.payload (block_slot block)) (own_here block is)
    ∙ ap (dead_in sample_area.payload) (slot_is block is)
    ∙ dead_is sample_slots sample_area.payload block sample_spells (in_first block is)

pub dead_not : (block : ℕ) → IsSlot 1 block → block ≢ 10 → dead_at sample_truth block ≡ false
dead_not block is other = dead_of block is ∙ bit_by (block / 8) (block % 8) (omega arith) (λ byte place. other (omega (arith, byte, place)))

pub tenth : IsSlot 1 10
tenth = record { area = omega arith; slot = omega arith }

pub dead_tenth : dead_at sample_truth 10 ≡ true
dead_tenth = dead_of 10 tenth

-- ---- the blocks

pub block_is : (block : ℕ) → IsSlot 1 block → sample_truth block ≡ get_or blocks block free_block
block_is block is = ap (λ (t : Bool). if t then sample_area else get_or blocks block free_block) (eq_false (block_slot block) 960 (λ e. let less = is.slot in omega (arith, e, less)))

heads : (k : ℕ) → k < 11 → (get_or blocks k free_block).handle ≡ nth k
unfolding inode_block tree_block piece_block
heads zero less = refl
heads (suc zero) less = refl
heads (suc (suc zero)) less = refl
heads (suc (suc (suc zero))) less = refl
heads (suc (suc (suc (suc zero)))) less = refl
heads (suc (suc (suc (suc (suc zero))))) less = refl
heads (suc (suc (suc (suc (suc (suc zero)))))) less = refl
heads (suc (suc (suc (suc (suc (suc (suc zero))))))) less = refl
heads (suc (suc (suc (suc (suc (suc (suc (suc zero)))))))) less = refl
heads (suc (suc (suc (suc (suc (suc (suc (suc (suc zero))))))))) less = refl
heads (suc (suc (suc (suc (suc (suc (suc (suc (suc (suc zero)))))))))) less = refl
heads (suc (suc (suc (suc (suc (suc (suc (suc (suc (suc (suc k))))))))))) less = absurd (omega (arith, less))

no_block : (xs : List Block) (k : ℕ) → length xs ≤ k → get_or xs k free_block ≡ free_block
no_block [] k le = refl
no_block (x ∷ xs) zero le = absurd (omega (arith, le))
no_block (x ∷ xs) (suc k) le = no_block xs k (omega (arith, le))

free_head : free_block.handle ≡ 0
unfolding free_block
free_head = refl

handle_is : (k : ℕ) → k < 960 → handle_of k 1 ≡ nth k
handle_is k less = omega (arith, less)

pub sample_chunked : IsChunked 1 sample_truth
sample_chunked = record {
  own = λ area less. subst (λ (a : ℕ). IsAreaBlock a (sample_truth (own_block a))) (sym (none area less)) own_is;
  used = λ block slot used. used_by block slot used (word_cases block slot);
  unused = λ block slot unused. unused_by block slot unused (word_cases block slot);
}
  where
    none : (area : ℕ) → area < 1 → area ≡ 0
    none area less = omega (arith, less)

    used_by : (block : ℕ) → IsSlot 1 block → in_use (word_at sample_truth block) ≡ true
        → ((block < 11) × (word_at sample_truth block ≡ 2 ^ 31 + 1)) ⊎ ((11 ≤ block) × (word_at sample_truth block ≡ 0))
        → (sample_truth block).handle ≡ handle_of block (generation_in (word_at sample_truth block))
    used_by block slot used (inl (less, w)) =
        ap (λ (b : Block). b.handle) (block_is block slot) ∙ heads block less ∙ sym (handle_is block (in_first block slot)) ∙ ap (λ (n : ℕ). handle_of block (generation_in n)) (sym w)
    used_by block slot used (inr (past, w)) = let no : in_use 0 ≡ true = sym (ap in_use w) ∙ used in absurd cc

    unused_by : (block : ℕ) → IsSlot 1 block → in_use (word_at sample_truth block) ≡ false
        → ((block < 11) × (word_at sample_truth block ≡ 2 ^ 31 + 1)) ⊎ ((11 ≤ block) × (word_at sample_truth block ≡ 0))
        → (sample_truth block).handle ≡ 0
    unused_by block slot unused (inl (less, w)) = let no : in_use (2 ^ 31 + 1) ≡ false = sym (ap in_use w) ∙ unused in absurd cc
    unused_by block slot unused (inr (past, w)) = ap (λ (b : Block). b.handle) (block_is block slot ∙ no_block blocks block past) ∙ free_head

-- ---- the chunks

all_tests : (t u e : Bool) (b : Block) → t ≡ true → u ≡ true → e ≡ true → (if (t && (u && e)) then Some b else None) ≡ Some b
all_tests true true true b is_t is_u is_e = refl
all_tests true true false b is_t is_u is_e = absurd cc
all_tests true false e b is_t is_u is_e = absurd cc
all_tests false u e b is_t is_u is_e = absurd cc

pub slot_there : (k : ℕ) → k < 11 → IsSlot 1 k
slot_there k less = record { area = omega (arith, less); slot = omega (arith, less) }

slot_tested : (k : ℕ) → k < 11 → is_slot 1 k ≡ true
slot_tested k less = grind (arith, nat_tests, less)

pub word_there : (k : ℕ) → k < 11 → word_at sample_truth k ≡ 2 ^ 31 + 1
word_there k less = ⊎_elim (λ here. here.1) (λ past. let le = past.0 in absurd (omega (arith, le, less))) (word_cases k (slot_there k less))

block_back : (k : ℕ) → k < 11 → block_at (nth k) ≡ k
block_back k less = omega (arith, less)

pub chunk_there : (k : ℕ) → k < 11 → chunks_of 1 sample_truth (nth k) ≡ Some (get_or blocks k free_block)
chunk_there k less =
    (λ i. if (is_slot 1 (block_back k less i) && (in_use (word_at sample_truth (block_back k less i)) && (nth k == handle_of (block_back k less i) (generation_in (word_at sample_truth (block_back k less i))))))
    then Some (sample_truth (block_back k less i)) else None)
    ∙ all_tests (is_slot 1 k) (in_use (word_at sample_truth k)) (nth k == handle_of k (generation_in (word_at sample_truth k))) (sample_truth k)
    (slot_tested k less) (ap in_use (word_there k less))
    (ap (λ (w : ℕ). nth k == handle_of k (generation_in w)) (word_there k less) ∙ eq_true (nth k) (handle_of k 1) (sym (handle_is k (omega (arith, less)))))
    ∙ ap Some (block_is k (slot_there k less))

pub chunk_cases : (handle : ℕ) (block : Block) → chunks_of 1 sample_truth handle ≡ Some block → (k : ℕ) × (k < 11) × (handle ≡ nth k) × (block ≡ get_or blocks k free_block)
chunk_cases handle block chunk = by (chunk_is 1 sample_truth handle block chunk)
  where
    by : IsChunk 1 sample_truth handle block → (k : ℕ) × (k < 11) × (handle ≡ nth k) × (block ≡ get_or blocks k free_block)
    by c = which (word_cases (block_at handle) c.slot)
      where
        which : ((block_at handle < 11) × (word_at sample_truth (block_at handle) ≡ 2 ^ 31 + 1)) ⊎ ((11 ≤ block_at handle) × (word_at sample_truth (block_at handle) ≡ 0))
            → (k : ℕ) × (k < 11) × (handle ≡ nth k) × (block ≡ get_or blocks k free_block)
        which (inl (less, w)) = (
          block_at handle,
          less,
          c.is_handle ∙ ap (λ (n : ℕ). handle_of (block_at handle) (generation_in n)) w ∙ handle_is (block_at handle) (in_first (block_at handle) c.slot),
          sym c.is_block ∙ block_is (block_at handle) c.slot,
        )
        which (inr (past, w)) = let no : in_use 0 ≡ true = sym (ap in_use w) ∙ c.used in absurd cc
