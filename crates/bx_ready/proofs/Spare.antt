-- How many slots are free, where one after the other is taken until none is left.
use Rattle.std.proofs.Common.{◌≡◌, ℕ, zero, suc, ◌+◌, ◌*◌, ◌<◌, ◌≤◌, Bool, true, false, cond, arith, get_or, inl, inr, List, refl, sym, ap, ◌∙◌, subst, Ok, Err}
use Rattle.std.specs.Prelude.{◌≢◌, ◌⊎◌}
use Rattle.std.proofs.lemmas.List.{get_or-set_other}
use Rattle.bx_chunks.specs.Allocating.{AddsChunk, AllocatesAt}
use Rattle.bx_chunks.specs.Counting.{free_in, free_slots}
use Rattle.bx_chunks.specs.declared.error.ChunkError.TheVariants.{Full}
use Rattle.bx_chunks.proofs.Allocates.{allocates_in}
use Rattle.bx_chunks.proofs.Counted.{free_at}
use Rattle.bx_chunks.proofs.Sums.{sum_below, sum_suc}
use Rattle.bx_layout.specs.declared.area.AreaBlock.{AreaBlock}
use Rattle.bx_layout.specs.declared.block.Block.{Block}
use Rattle.bx_layout.specs.Areas.{is_free, taken_word, with_word}
use Rattle.bx_places.specs.Places.{block_area, block_slot}
use Rattle.bx_records.specs.Drafts.{Changed}
use Rattle.bx_truth.specs.Chunks.{IsChunked, IsSlot, is_free_at, own_block, word_in}
use Rattle.bx_truth.specs.Slots.{TakesSlot}
use Rattle.bx_truth.proofs.Cases.{same_or}
use Rattle.bx_truth.proofs.SlotWords.{other_own}
use Rattle.bx_truth.proofs.Words.{word_is}
use Rattle.bx_views.specs.Truths.{Held, IsTruth, Truth, with_draft}

-- ---- sums

sum_le : (f g : ℕ → ℕ) (n : ℕ) → ((i : ℕ) → i < n → f i ≤ g i) → sum_below f n ≤ sum_below g n
sum_le f g zero le = omega arith
sum_le f g (suc n) le =
    let rest = sum_le f g n (λ i less. le i (omega (arith, less))) in
    let last = le n (omega arith) in
    omega (arith, sum_suc f n, sum_suc g n, rest, last)

-- all but one of the numbers are at most the others
sum_one : (f g : ℕ → ℕ) (n at : ℕ) → ((i : ℕ) → i < n → i ≢ at → f i ≤ g i) → f at ≤ g at + 1 → sum_below f n ≤ sum_below g n + 1
sum_one f g zero at others here = omega arith
sum_one f g (suc n) at others here = by (sum_one f g n at (λ i less ne. others i (omega (arith, less)) ne) here) (same_or n at)
  where
    by : sum_below f n ≤ sum_below g n + 1 → (n ≡ at) ⊎ (n ≢ at) → sum_below f (suc n) ≤ sum_below g (suc n) + 1
    by rest (inl same) =
        let low = sum_le f g n (λ i less. others i (omega (arith, less)) (λ e. omega (arith, less, e, same))) in
        let last : f n ≤ g n + 1 = subst (λ (m : ℕ). f m ≤ g m + 1) (sym same) here in
        omega (arith, sum_suc f n, sum_suc g n, low, last)
    by rest (inr other) =
        let last = others n (omega arith) other in
        omega (arith, sum_suc f n, sum_suc g n, rest, last)

sum_none : (f : ℕ → ℕ) (n : ℕ) → ((i : ℕ) → i < n → f i ≡ 0) → sum_below f n ≡ 0
sum_none f zero none = refl
sum_none f (suc n) none =
    let rest = sum_none f n (λ i less. none i (omega (arith, less))) in
    let last = none n (omega arith) in
    omega (arith, sum_suc f n, rest, last)

-- ---- one area

abbrev one_if : Bool → ℕ
one_if b = cond b 1 0

at_most_one : (b c : Bool) → one_if b ≤ one_if c + 1
at_most_one true c = omega arith
at_most_one false c = omega arith

counted : (payload : List ℕ) → free_in payload ≡ sum_below (λ slot. one_if (is_free (word_in payload slot))) 960
unfolding free_in
counted payload = refl

-- ---- a slot is taken

module _ (areas : ℕ) (truth now : Truth) (block : ℕ) (slots : AreaBlock) (is : IsSlot areas block) (takes : TakesSlot truth now block slots) where
  abbrev word : ℕ
  word = taken_word (get_or slots.words (block_slot block) 0)

  abbrev before : List ℕ
  before = (truth (own_block (block_area block))).payload

  abbrev after : List ℕ
  after = (now (own_block (block_area block))).payload

  elsewhere : (area : ℕ) → area < areas → area ≢ block_area block → free_at truth area ≤ free_at now area
  elsewhere area less ne =
      let same = ap (λ (b : Block). free_in b.payload) (other_own areas truth now block slots word is takes.sets area ne) in
      omega (arith, same)

  words : (slot : ℕ) → slot < 960 → slot ≢ block_slot block → one_if (is_free (word_in before slot)) ≤ one_if (is_free (word_in after slot))
  words slot less ne =
      let same =
      word_is (with_word slots (block_slot block) word) after slot takes.sets.spells_now less
      ∙ get_or-set_other slots.words (block_slot block) slot word 0 ne
      ∙ sym (word_is slots before slot takes.sets.spells less) in
      let equal = ap (λ (w : ℕ). one_if (is_free w)) same in
      omega (arith, equal)

  here : free_at truth (block_area block) ≤ free_at now (block_area block) + 1
  here =
      let sum = sum_one (λ slot. one_if (is_free (word_in before slot))) (λ slot. one_if (is_free (word_in after slot))) 960 (block_slot block) words
      (at_most_one (is_free (word_in before (block_slot block))) (is_free (word_in after (block_slot block)))) in
      by (free_in before) (free_in after) (sum_below (λ slot. one_if (is_free (word_in before slot))) 960) (sum_below (λ slot. one_if (is_free (word_in after slot))) 960) (counted before) (counted after) sum
    where
      by : (a b c d : ℕ) → a ≡ c → b ≡ d → c ≤ d + 1 → a ≤ b + 1
      by a b c d e f le = omega (arith, e, f, le)

  -- one slot less is free at most
  pub one_less : free_slots areas truth ≤ free_slots areas now + 1
  one_less = sum_one (free_at truth) (free_at now) areas (block_area block) elsewhere here

-- ---- no slot is left

place_area : (area slot : ℕ) → slot < 960 → block_area (1024 * area + slot) ≡ area
place_area area slot less = omega (arith, less)

place_slot : (area slot : ℕ) → slot < 960 → block_slot (1024 * area + slot) ≡ slot
place_slot area slot less = omega (arith, less)

module _ (areas : ℕ) (truth : Truth) (none : (block : ℕ) → IsSlot areas block → is_free_at truth block ≡ false) where
  no_word : (area slot : ℕ) → area < areas → slot < 960 → is_free (word_in (truth (own_block area)).payload slot) ≡ false
  no_word area slot within less =
      let a = place_area area slot less in
      let s = place_slot area slot less in
      (λ i. is_free (word_in (truth (own_block (sym a i))).payload (sym s i)))
      ∙ none (1024 * area + slot) (record { area = subst (λ (n : ℕ). n < areas) (sym a) within; slot = subst (λ (n : ℕ). n < 960) (sym s) less })

  no_area : (area : ℕ) → area < areas → free_at truth area ≡ 0
  no_area area within =
      counted (truth (own_block area)).payload
      ∙ sum_none (λ slot. one_if (is_free (word_in (truth (own_block area)).payload slot))) 960 (λ slot less. ap one_if (no_word area slot within less))

  pub none_left : free_slots areas truth ≡ 0
  none_left = sum_none (free_at truth) areas no_area

-- ---- what allocating tells

module _ (areas near : ℕ) (held : Held) (truth : Truth) (few : areas ≤ 64) (same : IsTruth held truth) (old : List Changed) (chunked : IsChunked areas (with_draft truth old)) where
  -- where it is full no slot is free over the draft
  pub full_none : (new : List Changed) (spare : ℕ) → AllocatesAt held old new near areas (Err (Full spare)) → free_slots areas (with_draft truth old) ≡ 0
  full_none new spare at = none_left areas (with_draft truth old) (allocates_in areas near held truth old new few same chunked (Err (Full spare)) at).1

  pub taken : (new : List Changed) (handle : ℕ) → AllocatesAt held old new near areas (Ok handle) → AddsChunk areas (with_draft truth old) (with_draft truth new) handle
  taken new handle at = allocates_in areas near held truth old new few same chunked (Ok handle) at

  -- where it isn't one slot less is free
  pub taken_less : (new : List Changed) (handle : ℕ) → AllocatesAt held old new near areas (Ok handle) → free_slots areas (with_draft truth old) ≤ free_slots areas (with_draft truth new) + 1
  taken_less new handle at = let a = taken new handle at in one_less areas (with_draft truth old) (with_draft truth new) a.block a.slots a.slot a.takes

-- the number that it tells is that of the truth
pub told : (areas near : ℕ) (held : Held) (truth : Truth) (old new : List Changed) (spare : ℕ) → areas ≤ 64 → IsTruth held truth → IsChunked areas truth → IsChunked areas (with_draft truth old)
    → AllocatesAt held old new near areas (Err (Full spare)) → spare ≡ free_slots areas truth
told areas near held truth old new spare few same is chunked at = (allocates_in areas near held truth old new few same chunked (Err (Full spare)) at).0 is
