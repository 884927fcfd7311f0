-- A slot is taken: the chunk map gains one handle.
use Rattle.std.proofs.Common.{◌≡◌, ℕ, ◌^◌, ◌<◌, ◌≤◌, ◌⊎◌, inl, inr, arith, Bool, true, false, get_or, sym, ap, ◌∙◌, Option, Some, None}
use Rattle.std.specs.Prelude.{◌≢◌, ◌&&◌, ◌==◌, if◌then◌else◌}
use Rattle.std.proofs.lemmas.Bool.Decides.{nat_tests}
use Rattle.bx_views.specs.bx_layout.specs.declared.area.AreaBlock.{AreaBlock}
use Rattle.bx_views.specs.bx_layout.specs.declared.block.Block.{Block}
use Rattle.bx_views.specs.bx_layout.specs.Areas.{in_use, generation_in, is_free, taken_word}
use Rattle.bx_places.specs.Places.{block_slot}
use Rattle.bx_truth.specs.Chunks.{IsSlot, IsChunked, is_slot, chunks_of, block_at, handle_of, word_at}
use Rattle.bx_truth.specs.Shown.{KeepsSlots}
use Rattle.bx_truth.specs.Slots.{TakesSlot}
use Rattle.bx_views.specs.Truths.{Truth}
use Rattle.bx_truth.proofs.Cases.{same_or, eq_false}
use Rattle.bx_truth.proofs.SlotWords.{is_slot_true, block_back, word_was, word_here, chunk_other, chunked_set, keeps_set}

free_unused : (word : ℕ) → is_free word ≡ true → in_use word ≡ false
free_unused word free = grind (arith, nat_tests, free)

taken_used : (word : ℕ) → in_use (taken_word word) ≡ true
taken_used word = grind (arith, nat_tests)

taken_generation : (word : ℕ) → generation_in (taken_word word) < 2 ^ 32
taken_generation word = omega arith

grows : (word : ℕ) → is_free word ≡ true → generation_in word ≤ generation_in (taken_word word)
grows word free = grind (arith, nat_tests, free)

module _ (areas : ℕ) (few : areas ≤ 64) (truth now : Truth) (block : ℕ) (slots : AreaBlock) (is_block : IsSlot areas block) (takes : TakesSlot truth now block slots) where
  abbrev word : ℕ
  word = taken_word (get_or slots.words (block_slot block) 0)

  used_here : in_use (word_at now block) ≡ true
  used_here = ap in_use (word_here areas truth now block slots word is_block takes.sets) ∙ taken_used (get_or slots.words (block_slot block) 0)

  unused_before : in_use (word_at truth block) ≡ false
  unused_before = ap in_use (word_was areas truth now block slots word is_block takes.sets) ∙ free_unused (get_or slots.words (block_slot block) 0) takes.free

  pub chunk_taken : (handle : ℕ) → chunks_of areas now handle ≡ (if handle == (now block).handle then Some (now block) else chunks_of areas truth handle)
  chunk_taken handle = by (same_or (block_at handle) block)
    where
      none_before : block_at handle ≡ block → chunks_of areas truth handle ≡ None
      none_before same =
          (λ i. if (is_slot areas (same i) && (in_use (word_at truth (same i)) && (handle == handle_of (same i) (generation_in (word_at truth (same i)))))) then Some (truth (same i)) else None)
          ∙ (λ i. if (is_slot_true areas block is_block i && (unused_before i && (handle == handle_of block (generation_in (word_at truth block))))) then Some (truth block) else None)

      header : (now block).handle ≡ handle_of block (generation_in (word_at now block))
      header = takes.header ∙ sym (ap (λ (w : ℕ). handle_of block (generation_in w)) (word_here areas truth now block slots word is_block takes.sets))

      here : block_at handle ≡ block → chunks_of areas now handle ≡ (if handle == (now block).handle then Some (now block) else None)
      here same =
          (λ i. if (is_slot areas (same i) && (in_use (word_at now (same i)) && (handle == handle_of (same i) (generation_in (word_at now (same i)))))) then Some (now (same i)) else None)
          ∙ (λ i. if (is_slot_true areas block is_block i && (used_here i && (handle == sym header i))) then Some (now block) else None)

      not_it : block_at handle ≢ block → handle ≢ (now block).handle
      not_it other same = other (ap block_at (same ∙ takes.header)
          ∙ block_back areas block (generation_in word) few is_block (taken_generation (get_or slots.words (block_slot block) 0)))

      by : (block_at handle ≡ block) ⊎ (block_at handle ≢ block) → chunks_of areas now handle ≡ (if handle == (now block).handle then Some (now block) else chunks_of areas truth handle)
      by (inl same) = here same ∙ ap (λ (o : Option Block). if handle == (now block).handle then Some (now block) else o) (sym (none_before same))
      by (inr other) =
          chunk_other areas truth now block slots word is_block takes.sets handle other
          ∙ sym (ap (λ (t : Bool). if t then Some (now block) else chunks_of areas truth handle) (eq_false handle (now block).handle (not_it other)))

  pub chunked_taken : IsChunked areas truth → IsChunked areas now
  chunked_taken is = chunked_set areas truth now block slots word is_block takes.sets (λ used. takes.header)
      (λ unused. let no : true ≡ false = sym (taken_used (get_or slots.words (block_slot block) 0)) ∙ unused in absurd cc) is

  pub taken_keeps : IsChunked areas truth → KeepsSlots areas truth now
  taken_keeps is = keeps_set areas truth now block slots word is_block takes.sets (chunked_taken is) (grows (get_or slots.words (block_slot block) 0) takes.free)
