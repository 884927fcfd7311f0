-- How many slots of a truth are free.
use Rattle.std.proofs.Common.{◌≡◌, ℕ, suc, ◌+◌, ◌<◌, inl, inr, arith, cond, List, [], ◌∷◌, length, get_or, Result, Ok, Err, refl, sym, ap, subst, ◌∙◌}
use Rattle.std.specs.Prelude.{count_by}
use Rattle.std.specs.List.{range_with_len}
use Rattle.std.proofs.lemmas.List.Sums.{sum_by-cons}
use Rattle.bx_base.specs.declared.names.Mode.TheVariants.{Shared}
use Rattle.bx_layout.specs.declared.area.AreaBlock.{AreaBlock}
use Rattle.bx_layout.specs.declared.block.Block.{Block}
use Rattle.bx_layout.specs.Areas.{SpellsArea, is_free}
use Rattle.bx_truth.specs.Chunks.{IsAreaBlock, IsChunked, own_block, word_in}
use Rattle.bx_truth.specs.bx_views.specs.Truths.{Held, IsTruth, Truth}
use Rattle.bx_truth.proofs.Words.{word_is}
use Rattle.bx_chunks.specs.Areas.{HasSlots, area_in_turn}
use Rattle.bx_chunks.specs.Counting.{CountsAt, CountsIn, HasFreeCount, HoldsFree, Sums, free_in, free_slots}
use Rattle.bx_chunks.specs.declared.error.ChunkError.{ChunkError}
use Rattle.bx_chunks.specs.declared.error.ChunkError.TheVariants.{Need, Stale, Full, OutOfMemory, Crowded}
use Rattle.bx_chunks.proofs.Sums.{sums_are, sum_turned}

-- the words of a list that pass, counted by their places
count_places : (words : List ℕ) (g : ℕ → ℕ) (a : ℕ) → ((i : ℕ) → i < length words → g (a + i) ≡ get_or words i 0)
    → count_by (λ s. is_free (g s)) (range_with_len a (length words)) ≡ count_by is_free words
count_places [] g a same = refl
count_places (word ∷ words) g a same =
    sum_by-cons (λ (s : ℕ). cond (is_free (g s)) 1 0) a (range_with_len (a + 1) (length words))
    ∙ by (count_by (λ s. is_free (g s)) (range_with_len (a + 1) (length words))) (count_by is_free words) (g a) word (first a (same 0 (omega arith)))
    (count_places words g (a + 1) (λ i less. next i (same (suc i) (omega (arith, less)))))
    ∙ sym (sum_by-cons (λ (w : ℕ). cond (is_free w) 1 0) word words)
  where
    first : (n : ℕ) → g (n + 0) ≡ word → g n ≡ word
    first n e = let same : n ≡ n + 0 = omega arith in ap g same ∙ e

    next : (i : ℕ) → g (a + suc i) ≡ get_or words i 0 → g (a + 1 + i) ≡ get_or words i 0
    next i e = let same : a + 1 + i ≡ a + suc i = omega arith in ap g same ∙ e

    by : (x y v w : ℕ) → v ≡ w → x ≡ y → cond (is_free v) 1 0 + x ≡ cond (is_free w) 1 0 + y
    by x y v w e f = λ i. cond (is_free (e i)) 1 0 + f i

count_words : (area : AreaBlock) (payload : List ℕ) → SpellsArea area payload → free_in payload ≡ count_by is_free area.words
unfolding free_in
count_words area payload spells =
    ap (λ (n : ℕ). count_by (λ slot. is_free (word_in payload slot)) (range_with_len 0 n)) (sym spells.is.words)
    ∙ count_places area.words (word_in payload) 0 (λ i less. place i less)
  where
    none : (i : ℕ) → 0 + i ≡ i
    none i = omega arith

    place : (i : ℕ) → i < length area.words → word_in payload (0 + i) ≡ get_or area.words i 0
    place i less = ap (word_in payload) (none i) ∙ word_is area payload i spells (omega (arith, less, spells.is.words))

abbrev pub free_at : Truth → ℕ → ℕ
free_at truth area = free_in (truth (own_block area)).payload

pub area_slots : (area : ℕ) (block : Block) → (a : IsAreaBlock area block) → HasSlots area a.slots block
area_slots area block a = record { handle = a.handle; kind = a.kind; spells = a.spells }

pub free_is : (held : Held) (areas : ℕ) (truth : Truth) → IsTruth held truth → IsChunked areas truth → (area count : ℕ) → area < areas → HoldsFree held area count → count ≡ free_at truth area
free_is held areas truth same is area count less holds = by holds.counts
  where
    there : truth (own_block area) ≡ holds.block
    there = same.each (own_block area) Shared holds.block holds.there

    own : IsAreaBlock area (truth (own_block area))
    own = is.own area less

    by : HasFreeCount area holds.block count → count ≡ free_at truth area
    by (inl counted) = counted.2 ∙ sym (count_words counted.0 holds.block.payload counted.1.spells) ∙ ap (λ (b : Block). free_in b.payload) (sym there)
    by (inr none) = absurd (none.0 own.slots (subst (HasSlots area own.slots) there (area_slots area (truth (own_block area)) own)))

pub counts_in : (held : Held) (areas : ℕ) (truth : Truth) → IsTruth held truth → IsChunked areas truth → (r : Result ℕ ChunkError) → CountsAt held areas r → CountsIn areas truth r
counts_in held areas truth same is (Ok count) counts = sums_are (HoldsFree held) (free_at truth) areas count (λ i last less holds. free_is held areas truth same is i last less holds) counts
counts_in held areas truth same is (Err (Need at mode)) counts = tt
counts_in held areas truth same is (Err OutOfMemory) counts = tt
counts_in held areas truth same is (Err Stale) counts = counts
counts_in held areas truth same is (Err (Full spare)) counts = counts
counts_in held areas truth same is (Err Crowded) counts = counts

pub spare_is : (held : Held) (near areas spare : ℕ) (truth : Truth) → IsTruth held truth → IsChunked areas truth → ((turn : ℕ) → turn < areas → area_in_turn near areas turn < areas)
    → Sums (λ turn. HoldsFree held (area_in_turn near areas turn)) areas spare → spare ≡ free_slots areas truth
spare_is held near areas spare truth same is within sums =
    sums_are (λ turn. HoldsFree held (area_in_turn near areas turn)) (λ turn. free_at truth (area_in_turn near areas turn)) areas spare
    (λ i last less holds. free_is held areas truth same is (area_in_turn near areas i) last (within i less) holds) sums
    ∙ sum_turned (free_at truth) near areas
