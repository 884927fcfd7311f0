-- The handle of a chunk is given.
use Rattle.std.proofs.Common.{◌≡◌, ℕ, ◌%◌, ◌^◌, ◌<◌, arith, List, get_or, sym, ap, subst, ◌∙◌}
use Rattle.bx_base.specs.declared.names.Mode.TheVariants.{Exclusive}
use Rattle.bx_places.specs.Handles.{parts_of}
use Rattle.bx_layout.specs.declared.block.Block.{Block}
use Rattle.bx_layout.specs.Areas.{generation_in, in_use}
use Rattle.bx_places.specs.Places.{block_area}
use Rattle.bx_records.specs.Drafts.{Changed}
use Rattle.bx_truth.specs.Chunks.{IsAreaBlock, IsChunked, block_at, own_block, word_at}
use Rattle.bx_truth.proofs.Same.{IsChunk}
use Rattle.bx_truth.specs.bx_views.specs.Truths.{Held, IsTruth, Truth, with_draft}
use Rattle.bx_chunks.specs.Areas.{HasSlots}
use Rattle.bx_chunks.specs.Freeing.{IsGiven, IsNotGiven, own_at}
use Rattle.bx_chunks.proofs.Chunked.{area_of, slot_of, block_area_is, block_slot_is, chunk_slot, handle_generation, word_seen}
use Rattle.bx_chunks.proofs.Counted.{area_slots}
use Rattle.bx_chunks.proofs.Slots.{seen_true}

module _ (areas : ℕ) (held : Held) (truth : Truth) (old : List Changed) (handle : ℕ) (within : area_of handle < areas) (same : IsTruth held truth) (is : IsChunked areas (with_draft truth old))
    (b : Block) (c : IsChunk areas (with_draft truth old) handle b) where
  abbrev block : ℕ
  block = block_at handle

  abbrev before : Truth
  before = with_draft truth old

  less : slot_of handle < 960
  less = chunk_slot areas before handle b c

  own : IsAreaBlock (area_of handle) (before (own_block (area_of handle)))
  own = is.own (area_of handle) within

  has_here : HasSlots (block_area block) own.slots (before (own_block (block_area block)))
  has_here = subst (λ (n : ℕ). HasSlots n own.slots (before (own_block n))) (sym (block_area_is handle less)) (area_slots (area_of handle) (before (own_at handle)) own)

  word_is : word_at before block ≡ get_or own.slots.words (slot_of handle) 0
  word_is = word_seen before block own.slots c.slot.slot has_here ∙ ap (λ (n : ℕ). get_or own.slots.words n 0) (block_slot_is handle less)

  given : IsGiven own.slots (parts_of handle)
  given = record {
    used = ap in_use (sym word_is) ∙ c.used;
    generation = ap generation_in (sym word_is) ∙ sym (ap (λ (h : ℕ). h % 2 ^ 32) c.is_handle ∙ handle_generation block (generation_in (word_at before block)) (omega arith));
  }

  pub is_given : IsNotGiven held old handle → ⊥
  is_given without =
      without.no own.slots (subst (HasSlots (area_of handle) own.slots) (seen_true held truth old (own_at handle) Exclusive without.own same without.there) (area_slots (area_of handle) (before (own_at handle)) own)) given
