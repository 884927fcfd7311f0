-- A slot is freed: the chunk map loses one handle.
use Rattle.std.proofs.Common.{◌≡◌, ℕ, ◌^◌, ◌<◌, ◌≤◌, ◌⊎◌, inl, inr, arith, Bool, true, false, get_or, sym, ap, ◌∙◌, refl, Option, Some, None}
use Rattle.std.specs.Prelude.{◌≢◌, ◌&&◌, ◌==◌, if◌then◌else◌}
use Rattle.std.proofs.lemmas.Bool.Decides.{nat_tests}
use Rattle.bx_views.specs.bx_layout.specs.declared.area.AreaBlock.{AreaBlock}
use Rattle.bx_views.specs.bx_layout.specs.declared.block.Block.{Block}
use Rattle.bx_views.specs.bx_layout.specs.Areas.{in_use, generation_in, freed_word}
use Rattle.bx_places.specs.Places.{block_slot}
use Rattle.bx_truth.specs.Chunks.{IsSlot, IsChunked, is_slot, chunks_of, block_at, handle_of, word_at}
use Rattle.bx_truth.specs.Shown.{KeepsSlots}
use Rattle.bx_truth.specs.Slots.{FreesSlot}
use Rattle.bx_views.specs.Truths.{Truth}
use Rattle.bx_truth.proofs.Cases.{same_or, eq_false}
use Rattle.bx_truth.proofs.SlotWords.{is_slot_true, block_back, word_was, word_here, chunk_other, chunked_set, keeps_set}

freed_unused : (word : ℕ) → in_use (freed_word word) ≡ false
freed_unused word = grind (arith, nat_tests)

small : (word : ℕ) → generation_in word < 2 ^ 32
small word = omega arith

stays : (word : ℕ) → generation_in word ≤ generation_in (freed_word word)
stays word = omega arith

module _ (areas : ℕ) (few : areas ≤ 64) (truth now : Truth) (block : ℕ) (slots : AreaBlock) (is_block : IsSlot areas block) (frees : FreesSlot truth now block slots)
    (is : IsChunked areas truth) where
  abbrev word : ℕ
  word = freed_word (get_or slots.words (block_slot block) 0)

  unused_here : in_use (word_at now block) ≡ false
  unused_here = ap in_use (word_here areas truth now block slots word is_block frees.sets) ∙ freed_unused (get_or slots.words (block_slot block) 0)

  used_before : in_use (word_at truth block) ≡ true
  used_before = ap in_use (word_was areas truth now block slots word is_block frees.sets) ∙ frees.used

  header_before : (truth block).handle ≡ handle_of block (generation_in (word_at truth block))
  header_before = is.used block is_block used_before

  pub chunk_freed : (handle : ℕ) → chunks_of areas now handle ≡ (if handle == (truth block).handle then None else chunks_of areas truth handle)
  chunk_freed handle = by (same_or (block_at handle) block)
    where
      none_now : block_at handle ≡ block → chunks_of areas now handle ≡ None
      none_now same =
          (λ i. if (is_slot areas (same i) && (in_use (word_at now (same i)) && (handle == handle_of (same i) (generation_in (word_at now (same i)))))) then Some (now (same i)) else None)
          ∙ (λ i. if (is_slot_true areas block is_block i && (unused_here i && (handle == handle_of block (generation_in (word_at now block))))) then Some (now block) else None)

      before : block_at handle ≡ block → chunks_of areas truth handle ≡ (if handle == (truth block).handle then Some (truth block) else None)
      before same =
          (λ i. if (is_slot areas (same i) && (in_use (word_at truth (same i)) && (handle == handle_of (same i) (generation_in (word_at truth (same i)))))) then Some (truth (same i)) else None)
          ∙ (λ i. if (is_slot_true areas block is_block i && (used_before i && (handle == sym header_before i))) then Some (truth block) else None)

      not_it : block_at handle ≢ block → handle ≢ (truth block).handle
      not_it other same = other (ap block_at (same ∙ header_before) ∙ block_back areas block (generation_in (word_at truth block)) few is_block (small (word_at truth block)))

      gone : (t : Bool) → None ≡ (if t then None else (if t then Some (truth block) else None))
      gone true = refl
      gone false = refl

      by : (block_at handle ≡ block) ⊎ (block_at handle ≢ block) → chunks_of areas now handle ≡ (if handle == (truth block).handle then None else chunks_of areas truth handle)
      by (inl same) = none_now same ∙ gone (handle == (truth block).handle) ∙ ap (λ (o : Option Block). if handle == (truth block).handle then None else o) (sym (before same))
      by (inr other) =
          chunk_other areas truth now block slots word is_block frees.sets handle other
          ∙ sym (ap (λ (t : Bool). if t then None else chunks_of areas truth handle) (eq_false handle (truth block).handle (not_it other)))

  pub chunked_freed : IsChunked areas now
  chunked_freed = chunked_set areas truth now block slots word is_block frees.sets
      (λ used. let no : true ≡ false = sym used ∙ freed_unused (get_or slots.words (block_slot block) 0) in absurd cc) (λ unused. frees.header) is

  pub freed_keeps : KeepsSlots areas truth now
  freed_keeps = keeps_set areas truth now block slots word is_block frees.sets chunked_freed (stays (get_or slots.words (block_slot block) 0))
