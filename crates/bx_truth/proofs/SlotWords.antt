-- A slot has another word: the words, bits and blocks of all other slots stay.
use Rattle.std.proofs.Common.{◌≡◌, ℕ, ◌^◌, ◌<◌, ◌≤◌, ◌⊎◌, ⊎_elim, inl, inr, arith, Bool, true, false, get_or, sym, ap, ◌∙◌, subst, refl, Some, None}
use Rattle.std.specs.Prelude.{◌≢◌, ◌&&◌, ◌==◌, if◌then◌else◌}
use Rattle.std.proofs.lemmas.Bool.Decides.{nat_tests}
use Rattle.std.proofs.lemmas.List.{get_or-set_same, get_or-set_other}
use Rattle.bx_views.specs.bx_layout.specs.declared.area.AreaBlock.{AreaBlock}
use Rattle.bx_views.specs.bx_layout.specs.declared.block.Block.{Block}
use Rattle.bx_views.specs.bx_layout.specs.Areas.{in_use, generation_in, with_word}
use Rattle.bx_places.specs.Places.{block_area, block_slot}
use Rattle.bx_truth.specs.Chunks.{IsSlot, IsAreaBlock, IsChunked, is_slot, chunks_of, block_at, handle_of, own_block, word_in, word_at, dead_in, dead_at}
use Rattle.bx_truth.specs.Shown.{KeepsSlots}
use Rattle.bx_truth.specs.Slots.{SetsWord}
use Rattle.bx_views.specs.Truths.{Truth}
use Rattle.bx_truth.proofs.Cases.{same_or}
use Rattle.bx_truth.proofs.Same.{slot_tested}
use Rattle.bx_truth.proofs.Words.{word_is, dead_is}

pub is_slot_true : (areas block : ℕ) → IsSlot areas block → is_slot areas block ≡ true
is_slot_true areas block is = grind (arith, nat_tests, is.area, is.slot)

pub block_back : (areas block generation : ℕ) → areas ≤ 64 → IsSlot areas block → generation < 2 ^ 32 → block_at (handle_of block generation) ≡ block
block_back areas block generation few is fits = let area = is.area in let slot = is.slot in omega (arith, few, area, slot, fits)

-- another slot of the area, or one of another area
same_slot : (a b : ℕ) → block_area a ≡ block_area b → block_slot a ≡ block_slot b → a ≡ b
same_slot a b area slot = omega (arith, area, slot)

module _ (areas : ℕ) (truth now : Truth) (block : ℕ) (slots : AreaBlock) (word : ℕ) (is_block : IsSlot areas block) (sets : SetsWord truth now block slots word) where
  not_own : (b area : ℕ) → IsSlot areas b → b ≢ own_block area
  not_own b area is same = let slot = is.slot in omega (arith, slot, same)

  pub other_own : (area : ℕ) → area ≢ block_area block → now (own_block area) ≡ truth (own_block area)
  other_own area other = sets.others (own_block area) (λ same. other (omega (arith, same))) (λ same. not_own block area is_block (sym same))

  -- the words
  pub word_was : word_at truth block ≡ get_or slots.words (block_slot block) 0
  word_was = word_is slots (truth (own_block (block_area block))).payload (block_slot block) sets.spells is_block.slot

  pub word_here : word_at now block ≡ word
  word_here = word_is (with_word slots (block_slot block) word) (now (own_block (block_area block))).payload (block_slot block) sets.spells_now is_block.slot
      ∙ get_or-set_same slots.words (block_slot block) word 0 (let slot = is_block.slot in omega (arith, slot, sets.spells.is.words))

  pub word_other : (b : ℕ) → IsSlot areas b → b ≢ block → word_at now b ≡ word_at truth b
  word_other b is other = ⊎_elim
      (λ same. (λ i. word_in (now (own_block (same i))).payload (block_slot b))
      ∙ word_is (with_word slots (block_slot block) word) (now (own_block (block_area block))).payload (block_slot b) sets.spells_now is.slot
      ∙ get_or-set_other slots.words (block_slot block) (block_slot b) word 0 (λ slot. other (same_slot b block same slot))
      ∙ sym (word_is slots (truth (own_block (block_area block))).payload (block_slot b) sets.spells is.slot)
      ∙ (λ i. word_in (truth (own_block (sym same i))).payload (block_slot b)))
      (λ apart. ap (λ (x : Block). word_in x.payload (block_slot b)) (other_own (block_area b) apart))
      (same_or (block_area b) (block_area block))

  -- the bits
  pub dead_same : (b : ℕ) → IsSlot areas b → dead_at now b ≡ dead_at truth b
  dead_same b is = ⊎_elim
      (λ same. ap (λ (a : ℕ). dead_in (now (own_block a)).payload (block_slot b)) same
      ∙ dead_is (with_word slots (block_slot block) word) (now (own_block (block_area block))).payload (block_slot b) sets.spells_now is.slot
      ∙ sym (dead_is slots (truth (own_block (block_area block))).payload (block_slot b) sets.spells is.slot)
      ∙ ap (λ (a : ℕ). dead_in (truth (own_block a)).payload (block_slot b)) (sym same))
      (λ apart. ap (λ (x : Block). dead_in x.payload (block_slot b)) (other_own (block_area b) apart))
      (same_or (block_area b) (block_area block))

  -- the blocks
  pub block_other : (b : ℕ) → IsSlot areas b → b ≢ block → now b ≡ truth b
  block_other b is other = sets.others b (not_own b (block_area block) is) other

  chunk_by : (test : Bool) (w v handle b : ℕ) (x y : Block) → (test ≡ true → w ≡ v) → (test ≡ true → x ≡ y)
      → (if (test && (in_use w && (handle == handle_of b (generation_in w)))) then Some x else None) ≡ (if (test && (in_use v && (handle == handle_of b (generation_in v)))) then Some y else None)
  chunk_by false w v handle b x y words blocks = refl
  chunk_by true w v handle b x y words blocks =
      let e = words refl in let f = blocks refl in
      λ i. if (in_use (e i) && (handle == handle_of b (generation_in (e i)))) then Some (f i) else None

  pub chunk_other : (handle : ℕ) → block_at handle ≢ block → chunks_of areas now handle ≡ chunks_of areas truth handle
  chunk_other handle other =
      chunk_by (is_slot areas (block_at handle)) (word_at now (block_at handle)) (word_at truth (block_at handle)) handle (block_at handle) (now (block_at handle)) (truth (block_at handle))
      (λ test. word_other (block_at handle) (slot_tested areas (block_at handle) test) other)
      (λ test. block_other (block_at handle) (slot_tested areas (block_at handle) test) other)

  -- the rules of chunks, where the block's header agrees with the word
  pub chunked_set : (in_use word ≡ true → (now block).handle ≡ handle_of block (generation_in word)) → (in_use word ≡ false → (now block).handle ≡ 0)
      → IsChunked areas truth → IsChunked areas now
  chunked_set names names_none is = record {
    own = λ area less. ⊎_elim
        (λ same. subst (λ (n : ℕ). IsAreaBlock n (now (own_block n))) (sym same) sets.own)
        (λ other. subst (IsAreaBlock area) (sym (other_own area other)) (is.own area less))
        (same_or area (block_area block));
    used = λ b slot used. ⊎_elim
        (λ same. ap (λ (n : ℕ). (now n).handle) same ∙ names (sym (ap in_use (ap (word_at now) same ∙ word_here)) ∙ used)
        ∙ sym (λ i. handle_of (same i) (generation_in ((ap (word_at now) same ∙ word_here) i))))
        (λ other. ap (λ (x : Block). x.handle) (block_other b slot other) ∙ is.used b slot (sym (ap in_use (word_other b slot other)) ∙ used) ∙ ap (λ (n : ℕ). handle_of b (generation_in n)) (sym (word_other b slot other)))
        (same_or b block);
    unused = λ b slot unused. ⊎_elim
        (λ same. ap (λ (n : ℕ). (now n).handle) same ∙ names_none (sym (ap in_use (ap (word_at now) same ∙ word_here)) ∙ unused))
        (λ other. ap (λ (x : Block). x.handle) (block_other b slot other) ∙ is.unused b slot (sym (ap in_use (word_other b slot other)) ∙ unused))
        (same_or b block);
  }

  -- the slots stay as they are for the files that there are, where no generation falls
  pub keeps_set : IsChunked areas now → generation_in (get_or slots.words (block_slot block) 0) ≤ generation_in word → KeepsSlots areas truth now
  keeps_set chunked grows = record { chunked = chunked; given = λ b slot. by b slot (same_or b block); dead = λ b slot. dead_same b slot }
    where
      by : (b : ℕ) → IsSlot areas b → (b ≡ block) ⊎ (b ≢ block) → generation_in (word_at truth b) ≤ generation_in (word_at now b)
      by b slot (inl same) =
          subst (λ (n : ℕ). generation_in (word_at truth n) ≤ generation_in (word_at now n)) (sym same)
          (subst (λ (n : ℕ). generation_in n ≤ generation_in (word_at now block)) (sym word_was)
          (subst (λ (n : ℕ). generation_in (get_or slots.words (block_slot block) 0) ≤ generation_in n) (sym word_here) grows))
      by b slot (inr other) = subst (λ (n : ℕ). generation_in (word_at truth b) ≤ generation_in n) (sym (word_other b slot other)) (omega arith)
