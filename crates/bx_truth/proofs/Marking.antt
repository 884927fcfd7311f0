-- A slot is marked as a dead inode's, or no more: the words, the blocks and all other marks stay.
use Rattle.std.proofs.Common.{◌≡◌, ℕ, ◌≤◌, ⊎_elim, arith, Bool, true, false, List, get_or, sym, ap, ◌∙◌, subst, refl, Some, None}
use Rattle.std.specs.Prelude.{◌≢◌, ◌&&◌, ◌==◌, if◌then◌else◌}
use Rattle.bx_views.specs.bx_layout.specs.declared.area.AreaBlock.{AreaBlock}
use Rattle.bx_views.specs.bx_layout.specs.declared.block.Block.{Block}
use Rattle.bx_views.specs.bx_layout.specs.Areas.{in_use, generation_in}
use Rattle.bx_places.specs.Places.{block_area, block_slot}
use Rattle.bx_truth.specs.Chunks.{IsSlot, IsAreaBlock, IsChunked, is_slot, chunks_of, block_at, handle_of, own_block, word_in, word_at, dead_in, dead_at}
use Rattle.bx_truth.specs.Dying.{MarksSlot}
use Rattle.bx_truth.specs.Shown.{KeepsSlots}
use Rattle.bx_truth.specs.Slots.{SetsMark}
use Rattle.bx_views.specs.Truths.{Truth}
use Rattle.bx_truth.proofs.Cases.{same_or, eq_true, eq_false}
use Rattle.bx_truth.proofs.Same.{slot_tested}
use Rattle.bx_truth.proofs.Words.{word_is, dead_is}

same_slot : (a b : ℕ) → block_area a ≡ block_area b → block_slot a ≡ block_slot b → a ≡ b
same_slot a b area slot = omega (arith, area, slot)

module _ (areas : ℕ) (truth now : Truth) (block : ℕ) (slots slots_now : AreaBlock) (dead : Bool) (sets : SetsMark truth now block slots slots_now dead) where
  not_own : (b area : ℕ) → IsSlot areas b → b ≢ own_block area
  not_own b area is same = let slot = is.slot in omega (arith, slot, same)

  block_same : (b : ℕ) → IsSlot areas b → now b ≡ truth b
  block_same b is = sets.others b (not_own b (block_area block) is)

  other_own : (area : ℕ) → area ≢ block_area block → now (own_block area) ≡ truth (own_block area)
  other_own area other = sets.others (own_block area) (λ same. other (omega (arith, same)))

  word_same : (b : ℕ) → IsSlot areas b → word_at now b ≡ word_at truth b
  word_same b is = ⊎_elim
      (λ same. ap (λ (a : ℕ). word_in (now (own_block a)).payload (block_slot b)) same
      ∙ word_is slots_now (now (own_block (block_area block))).payload (block_slot b) sets.spells_now is.slot
      ∙ ap (λ (words : List ℕ). get_or words (block_slot b) 0) sets.marks.words
      ∙ sym (word_is slots (truth (own_block (block_area block))).payload (block_slot b) sets.spells is.slot)
      ∙ ap (λ (a : ℕ). word_in (truth (own_block a)).payload (block_slot b)) (sym same))
      (λ apart. ap (λ (x : Block). word_in x.payload (block_slot b)) (other_own (block_area b) apart))
      (same_or (block_area b) (block_area block))

  bit_is : (b : ℕ) → IsSlot areas b → block_area b ≡ block_area block → dead_at now b ≡ (if block_slot b == block_slot block then dead else dead_at truth b)
  bit_is b is same =
      ap (λ (a : ℕ). dead_in (now (own_block a)).payload (block_slot b)) same
      ∙ dead_is slots_now (now (own_block (block_area block))).payload (block_slot b) sets.spells_now is.slot
      ∙ sets.marks.bits (block_slot b) is.slot
      ∙ ap (λ (t : Bool). if block_slot b == block_slot block then dead else t)
      (sym (dead_is slots (truth (own_block (block_area block))).payload (block_slot b) sets.spells is.slot)
      ∙ ap (λ (a : ℕ). dead_in (truth (own_block a)).payload (block_slot b)) (sym same))

  pub mark_here : IsSlot areas block → dead_at now block ≡ dead
  mark_here is = bit_is block is refl ∙ ap (λ (t : Bool). if t then dead else dead_at truth block) (eq_true (block_slot block) (block_slot block) refl)

  pub mark_other : (b : ℕ) → IsSlot areas b → b ≢ block → dead_at now b ≡ dead_at truth b
  mark_other b is other = ⊎_elim
      (λ same. bit_is b is same ∙ ap (λ (t : Bool). if t then dead else dead_at truth b) (eq_false (block_slot b) (block_slot block) (λ slot. other (same_slot b block same slot))))
      (λ apart. ap (λ (x : Block). dead_in x.payload (block_slot b)) (other_own (block_area b) apart))
      (same_or (block_area b) (block_area block))

  chunk_by : (test : Bool) (w v handle b : ℕ) (x y : Block) → (test ≡ true → w ≡ v) → (test ≡ true → x ≡ y)
      → (if (test && (in_use w && (handle == handle_of b (generation_in w)))) then Some x else None) ≡ (if (test && (in_use v && (handle == handle_of b (generation_in v)))) then Some y else None)
  chunk_by false w v handle b x y words blocks = refl
  chunk_by true w v handle b x y words blocks =
      let e = words refl in let f = blocks refl in
      λ i. if (in_use (e i) && (handle == handle_of b (generation_in (e i)))) then Some (f i) else None

  pub chunk_marked : (handle : ℕ) → chunks_of areas now handle ≡ chunks_of areas truth handle
  chunk_marked handle =
      chunk_by (is_slot areas (block_at handle)) (word_at now (block_at handle)) (word_at truth (block_at handle)) handle (block_at handle) (now (block_at handle)) (truth (block_at handle))
      (λ test. word_same (block_at handle) (slot_tested areas (block_at handle) test)) (λ test. block_same (block_at handle) (slot_tested areas (block_at handle) test))

  pub chunked_marked : IsChunked areas truth → IsChunked areas now
  chunked_marked is = record {
    own = λ area less. ⊎_elim
        (λ same. subst (λ (n : ℕ). IsAreaBlock n (now (own_block n))) (sym same) sets.own)
        (λ other. subst (IsAreaBlock area) (sym (other_own area other)) (is.own area less))
        (same_or area (block_area block));
    used = λ b slot used. let w = word_same b slot in
        ap (λ (x : Block). x.handle) (block_same b slot) ∙ is.used b slot (sym (ap in_use w) ∙ used) ∙ ap (λ (n : ℕ). handle_of b (generation_in n)) (sym w);
    unused = λ b slot unused. ap (λ (x : Block). x.handle) (block_same b slot) ∙ is.unused b slot (sym (ap in_use (word_same b slot)) ∙ unused);
  }

  pub marks_set : (handle : ℕ) → IsSlot areas block → block_at handle ≡ block → IsChunked areas truth → MarksSlot areas truth now handle dead
  marks_set handle slot at is = record {
    chunked = chunked_marked is;
    given = λ b there. subst (λ (w : ℕ). generation_in (word_at truth b) ≤ generation_in w) (sym (word_same b there)) (omega arith);
    here = ap (dead_at now) at ∙ mark_here slot;
    others = λ b there other. mark_other b there (λ same. other (same ∙ sym at));
  }

-- before or behind a step that leaves the slots
pub kept_then_marked : (areas : ℕ) (a b c : Truth) (handle : ℕ) (dead : Bool) → KeepsSlots areas a b → MarksSlot areas b c handle dead → MarksSlot areas a c handle dead
kept_then_marked areas a b c handle dead x y = record {
  chunked = y.chunked;
  given = λ block slot. let l = x.given block slot in let m = y.given block slot in omega (arith, l, m);
  here = y.here;
  others = λ block slot other. y.others block slot other ∙ x.dead block slot;
}

pub marked_then_kept : (areas : ℕ) (a b c : Truth) (handle : ℕ) (dead : Bool) → IsSlot areas (block_at handle) → MarksSlot areas a b handle dead → KeepsSlots areas b c → MarksSlot areas a c handle dead
marked_then_kept areas a b c handle dead is x y = record {
  chunked = y.chunked;
  given = λ block slot. let l = x.given block slot in let m = y.given block slot in omega (arith, l, m);
  here = y.dead (block_at handle) is ∙ x.here;
  others = λ block slot other. y.dead block slot ∙ x.others block slot other;
}
