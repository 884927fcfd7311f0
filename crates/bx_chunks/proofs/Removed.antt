-- A slot that is freed in a draft, under a truth.
use Rattle.std.proofs.Common.{◌≡◌, ℕ, ◌%◌, ◌^◌, ◌<◌, ◌≤◌, arith, true, List, get_or, Some, None, Result, Ok, Err, refl, sym, ap, subst, ◌∙◌}
use Rattle.std.specs.Prelude.{◌==◌, if◌then◌else◌}
use Rattle.bx_base.specs.declared.names.Mode.TheVariants.{Exclusive}
use Rattle.bx_layout.specs.declared.area.AreaBlock.{AreaBlock}
use Rattle.bx_layout.specs.declared.block.Block.{Block}
use Rattle.bx_layout.specs.Areas.{freed_word, generation_in, in_use, with_word}
use Rattle.bx_places.specs.Places.{block_area, block_slot}
use Rattle.bx_records.specs.Drafts.{Changed}
use Rattle.bx_truth.specs.Chunks.{IsChunked, IsSlot, block_at, chunks_of, handle_of, own_block}
use Rattle.bx_truth.specs.Slots.{FreesSlot}
use Rattle.bx_truth.proofs.Freed.{chunk_freed, chunked_freed}
use Rattle.bx_truth.proofs.Same.{IsChunk}
use Rattle.bx_truth.specs.bx_views.specs.Truths.{Held, IsTruth, Truth, with_draft}
use Rattle.bx_chunks.specs.Areas.{HasSlots}
use Rattle.bx_chunks.specs.Freeing.{FreesAt, FreesIn, IsInUse, NamesNone, no_slot, another, not_given, RemovesChunk, own_at, slot_freed}
use Rattle.bx_chunks.specs.Putting.{empty_of, slot_put}
use Rattle.bx_chunks.specs.declared.error.ChunkError.{ChunkError}
use Rattle.bx_chunks.specs.declared.error.ChunkError.TheVariants.{Need, Stale, Full, OutOfMemory, Crowded}
use Rattle.bx_chunks.proofs.Chunked.{area_of, slot_of, block_area_is, block_slot_is, chunk_from, chunk_header, chunk_slot, handle_back, no_chunk, slot_there, word_seen}
use Rattle.bx_chunks.proofs.Given.{is_given}
use Rattle.bx_chunks.proofs.Slots.{here, seen_true, sets}

module _ (areas : ℕ) (few : areas ≤ 64) (held : Held) (truth : Truth) (old : List Changed) (handle : ℕ) (within : area_of handle < areas) (same : IsTruth held truth) (is : IsChunked areas (with_draft truth old)) where
  abbrev block : ℕ
  block = block_at handle

  abbrev before : Truth
  before = with_draft truth old

  -- the slots of the handle's area
  module _ (slots : AreaBlock) (used : IsInUse held old handle slots) where
    less : slot_of handle < 960
    less = used.named.slot

    is_slot : IsSlot areas block
    is_slot = slot_there areas handle within less

    has : HasSlots (block_area block) slots (before (own_block (block_area block)))
    has = subst (λ (n : ℕ). HasSlots n slots (before (own_block n))) (sym (block_area_is handle less))
        (subst (HasSlots (area_of handle) slots) (sym (seen_true held truth old (own_at handle) Exclusive used.area.own same used.area.there)) used.area.has)

    abbrev word : ℕ
    word = get_or slots.words (block_slot block) 0

    word_used : in_use word ≡ true
    word_used = ap (λ (n : ℕ). in_use (get_or slots.words n 0)) (block_slot_is handle less) ∙ used.area.given.used

    word_generation : generation_in word ≡ handle % 2 ^ 32
    word_generation = ap (λ (n : ℕ). generation_in (get_or slots.words n 0)) (block_slot_is handle less) ∙ used.area.given.generation

    there : before block ≡ used.named.block
    there = seen_true held truth old block Exclusive used.named.block same used.named.there

    header : (before block).handle ≡ handle
    header = ap (λ (b : Block). b.handle) there ∙ used.named.header

    was : chunks_of areas before handle ≡ Some (before block)
    was = chunk_from areas before handle (before block) (record {
      slot = is_slot;
      used = ap in_use (word_seen before block slots is_slot.slot has) ∙ word_used;
      is_handle = handle_back handle less ∙ ap (handle_of block) (sym (ap generation_in (word_seen before block slots is_slot.slot has) ∙ word_generation));
      is_block = refl;
    })

    module _ (new : List Changed) (now : new ≡ slot_freed old handle slots) where
      abbrev after : Truth
      after = with_draft truth new

      now_at : new ≡ slot_put old (block_area block) (with_word slots (block_slot block) (freed_word word)) block 0 0
      now_at = now ∙ (λ i. slot_put old (sym (block_area_is handle less) i)
          (with_word slots (sym (block_slot_is handle less) i) (freed_word (get_or slots.words (sym (block_slot_is handle less) i) 0))) block 0 0)

      here_is : after block ≡ empty_of 0 0
      here_is = here areas truth old new block slots (freed_word word) 0 0 is_slot has.spells (omega arith) now_at

      frees : FreesSlot before after block slots
      frees = record {
        used = word_used;
        sets = sets areas truth old new block slots (freed_word word) 0 0 is_slot has.spells (omega arith) now_at;
        header = ap (λ (b : Block). b.handle) here_is;
      }

      pub removes : RemovesChunk areas before after handle
      removes = record {
        slots = slots;
        slot = is_slot;
        frees = frees;
        here = here_is;
        was = was;
        chunks = λ other. chunk_freed areas few before after block slots is_slot frees is other ∙ ap (λ (h : ℕ). if other == h then None else chunks_of areas before other) header;
        chunked = chunked_freed areas few before after block slots is_slot frees is;
      }

  -- a chunk's handle is named, and given
  names_none : NamesNone held old handle → (b : Block) → IsChunk areas before handle b → ⊥
  names_none (no_slot many) b c = let less = chunk_slot areas before handle b c in absurd (omega (arith, many, less))
  names_none (another there_is names) b c =
      names.another (ap (λ (x : Block). x.handle) (sym (seen_true held truth old block Exclusive names.block same names.there) ∙ c.is_block) ∙ chunk_header areas before handle b is c)
  names_none (not_given named without) b c = is_given areas held truth old handle within same is b c without

  pub frees_in : (new : List Changed) (r : Result (Unit {0}) ChunkError) → FreesAt held old new handle r → FreesIn areas truth old new handle r
  frees_in new (Ok done) at = removes at.slots at.is new at.now
  frees_in new (Err Stale) at = no_chunk areas before handle (names_none at)
  frees_in new (Err (Need where_at mode)) at = tt
  frees_in new (Err Crowded) at = tt
  frees_in new (Err OutOfMemory) at = tt
  frees_in new (Err (Full spare)) at = at
