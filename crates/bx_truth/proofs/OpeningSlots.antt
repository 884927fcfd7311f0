-- The slots and the chunks of a volume that was just made.
use Rattle.std.proofs.Common.{◌≡◌, ℕ, zero, suc, ◌+◌, ◌*◌, ◌/◌, ◌%◌, ◌^◌, ◌<◌, ◌≤◌, ◌⊎◌, ⊎_elim, inl, inr, arith, Bool, true, false, List, ◌∷◌, length, get_or, sym, ap, ◌∙◌, subst, refl}
use Rattle.std.specs.Prelude.{◌≢◌, replicate, ◌==◌, if◌then◌else◌}
use Rattle.std.proofs.lemmas.Bool.Decides.{nat_tests}
use Rattle.std.proofs.lemmas.List.{length-replicate}
use Rattle.std.proofs.Math.Nat.{zero-div}
use Rattle.bx_views.specs.bx_layout.specs.declared.block.Block.{Block}
use Rattle.bx_views.specs.bx_layout.specs.Areas.{IsArea, SpellsArea, bit, in_use, generation_in}
use Rattle.bx_places.specs.Places.{block_area, block_slot}
use Rattle.bx_truth.specs.Chunks.{IsSlot, IsAreaBlock, IsChunked, handle_of, own_block, word_in, word_at, dead_at, dead_in}
use Rattle.bx_truth.specs.Opening.{opening_truth, opening_slots, opening_words, area_block, root_block, page_block, free_block}
use Rattle.bx_truth.proofs.Cases.{eq_true, eq_false}
use Rattle.bx_truth.proofs.Words.{word_is, dead_is}

pub zeros_at : (n i : ℕ) → ◌≡◌ {A = ℕ} (get_or (replicate n 0) i 0) 0
zeros_at zero i = refl
zeros_at (suc n) zero = refl
zeros_at (suc n) (suc i) = zeros_at n i

pub bit_zero : (k : ℕ) → bit 0 k ≡ false
bit_zero k = ap (λ (n : ℕ). n % 2 == 1) (zero-div (2 ^ k))

-- ---- the areas

first_words : List ℕ
first_words = (2 ^ 31 + 1) ∷ (2 ^ 31 + 1) ∷ replicate 958 0

words_by : (b : Bool) → length (if b then (2 ^ 31 + 1) ∷ (2 ^ 31 + 1) ∷ replicate 958 0 else replicate 960 0) ≡ 960
words_by true = ap (λ (n : ℕ). suc (suc n)) (length-replicate {A = ℕ} 958 0)
words_by false = length-replicate {A = ℕ} 960 0

-- what a word is: in use in the first two slots of the first area, and else 0
word_by : (b : Bool) (slot : ℕ) → ((b ≡ true) × (slot < 2) × (get_or (if b then (2 ^ 31 + 1) ∷ (2 ^ 31 + 1) ∷ replicate 958 0 else replicate 960 0) slot 0 ≡ 2 ^ 31 + 1))
    ⊎ (((b ≡ false) ⊎ (2 ≤ slot)) × (get_or (if b then (2 ^ 31 + 1) ∷ (2 ^ 31 + 1) ∷ replicate 958 0 else replicate 960 0) slot 0 ≡ 0))
word_by true zero = inl (refl, omega arith, refl)
word_by true (suc zero) = inl (refl, omega arith, refl)
word_by true (suc (suc slot)) = inr (inr (omega arith), zeros_at 958 slot)
word_by false slot = inr (inl refl, zeros_at 960 slot)

small : (w : ℕ) → (w ≡ 2 ^ 31 + 1) ⊎ (w ≡ 0) → w < 2 ^ 32
small w is = ⊎_elim (λ e. omega (arith, e)) (λ e. omega (arith, e)) is

pub opening_area : (area : ℕ) → IsArea (opening_slots area)
opening_area area = record {
  words = words_by (area == 0);
  fits = λ slot. small _ (⊎_elim (λ first. inl first.2) (λ other. inr other.1) (word_by (area == 0) slot));
  dead = length-replicate {A = ℕ} 120 0;
}

pub opening_spells : (area : ℕ) → SpellsArea (opening_slots area) (area_block area).payload
unfolding area_block
opening_spells area = record { is = opening_area area; parts = refl }

pub own_is : (area : ℕ) → opening_truth (own_block area) ≡ area_block area
own_is area =
    rw (eq_true (block_slot (own_block area)) 960 (slot area)) (ap area_block (whole area))
  where
    slot : (area : ℕ) → (1024 * area + 960) % 1024 ≡ 960
    slot area = omega arith

    whole : (area : ℕ) → (1024 * area + 960) / 1024 ≡ area
    whole area = omega arith

-- ---- the words of slots

pub word_of : (areas block : ℕ) → IsSlot areas block → word_at opening_truth block ≡ get_or (opening_words (block_area block)) (block_slot block) 0
word_of areas block is =
    ap (λ (b : Block). word_in b.payload (block_slot block)) (own_is (block_area block))
    ∙ word_is (opening_slots (block_area block)) (area_block (block_area block)).payload (block_slot block) (opening_spells (block_area block)) is.slot

pub dead_of : (areas block : ℕ) → IsSlot areas block → dead_at opening_truth block ≡ false
dead_of areas block is =
    ap (λ (b : Block). dead_in b.payload (block_slot block)) (own_is (block_area block))
    ∙ dead_is (opening_slots (block_area block)) (area_block (block_area block)).payload (block_slot block) (opening_spells (block_area block)) is.slot
    ∙ ap (λ (byte : ℕ). bit byte (block_slot block % 8)) (zeros_at 120 (block_slot block / 8)) ∙ bit_zero (block_slot block % 8)

-- a slot is one of the two that are in use, or its word is 0
pub word_cases : (areas block : ℕ) → IsSlot areas block
    → (((block ≡ 0) ⊎ (block ≡ 1)) × (word_at opening_truth block ≡ 2 ^ 31 + 1)) ⊎ ((block ≢ 0) × (block ≢ 1) × (word_at opening_truth block ≡ 0))
word_cases areas block is = by (word_by (block_area block == 0) (block_slot block))
  where
    first : (block : ℕ) → (block / 1024 == 0) ≡ true → block % 1024 < 2 → (block ≡ 0) ⊎ (block ≡ 1)
    first block area slot = grind (arith, nat_tests)

    later : (block n : ℕ) → n < 2 → ((block / 1024 == 0) ≡ false) ⊎ (2 ≤ block % 1024) → block ≢ n
    later block n less other same = grind (arith, nat_tests)

    by : (((block_area block == 0) ≡ true) × (block_slot block < 2) × (get_or (opening_words (block_area block)) (block_slot block) 0 ≡ 2 ^ 31 + 1))
        ⊎ ((((block_area block == 0) ≡ false) ⊎ (2 ≤ block_slot block)) × (get_or (opening_words (block_area block)) (block_slot block) 0 ≡ 0))
        → (((block ≡ 0) ⊎ (block ≡ 1)) × (word_at opening_truth block ≡ 2 ^ 31 + 1)) ⊎ ((block ≢ 0) × (block ≢ 1) × (word_at opening_truth block ≡ 0))
    by (inl (area, slot, w)) = inl (first block area slot, word_of areas block is ∙ w)
    by (inr (other, w)) = inr (later block 0 (omega arith) other, later block 1 (omega arith) other, word_of areas block is ∙ w)

-- ---- the blocks

pub free_is : (areas block : ℕ) → IsSlot areas block → block ≢ 0 → block ≢ 1 → opening_truth block ≡ free_block
free_is areas block is not_root not_page = rw (eq_false (block_slot block) 960 (λ e. let less = is.slot in omega (arith, e, less))) (rw (eq_false block 0 not_root) (rw (eq_false block 1 not_page) refl))

pub opening_chunked : (areas : ℕ) → IsChunked areas opening_truth
unfolding area_block root_block page_block free_block
opening_chunked areas = record {
  own = λ area less. subst (IsAreaBlock area) (sym (own_is area)) record { handle = refl; kind = refl; slots = opening_slots area; spells = opening_spells area };
  used = λ block slot used. used_by block slot used (word_cases areas block slot);
  unused = λ block slot unused. unused_by block slot unused (word_cases areas block slot);
}
  where
    used_by : (block : ℕ) → IsSlot areas block → in_use (word_at opening_truth block) ≡ true
        → (((block ≡ 0) ⊎ (block ≡ 1)) × (word_at opening_truth block ≡ 2 ^ 31 + 1)) ⊎ ((block ≢ 0) × (block ≢ 1) × (word_at opening_truth block ≡ 0))
        → (opening_truth block).handle ≡ handle_of block (generation_in (word_at opening_truth block))
    used_by block slot used (inl (inl root, w)) = ap (λ (n : ℕ). (opening_truth n).handle) root ∙ sym (ap (λ (n : ℕ). handle_of n (generation_in (2 ^ 31 + 1))) root) ∙ ap (λ (n : ℕ). handle_of block (generation_in n)) (sym w)
    used_by block slot used (inl (inr page, w)) = ap (λ (n : ℕ). (opening_truth n).handle) page ∙ sym (ap (λ (n : ℕ). handle_of n (generation_in (2 ^ 31 + 1))) page) ∙ ap (λ (n : ℕ). handle_of block (generation_in n)) (sym w)
    used_by block slot used (inr (not_root, not_page, w)) = let no : in_use 0 ≡ true = sym (ap in_use w) ∙ used in absurd cc

    unused_by : (block : ℕ) → IsSlot areas block → in_use (word_at opening_truth block) ≡ false
        → (((block ≡ 0) ⊎ (block ≡ 1)) × (word_at opening_truth block ≡ 2 ^ 31 + 1)) ⊎ ((block ≢ 0) × (block ≢ 1) × (word_at opening_truth block ≡ 0))
        → (opening_truth block).handle ≡ 0
    unused_by block slot unused (inl (which, w)) = let no : in_use (2 ^ 31 + 1) ≡ false = sym (ap in_use w) ∙ unused in absurd cc
    unused_by block slot unused (inr (not_root, not_page, w)) = ap (λ (b : Block). b.handle) (free_is areas block slot not_root not_page)
