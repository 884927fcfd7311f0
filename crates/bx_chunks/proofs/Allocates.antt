-- A slot that is taken in a draft, under a truth.
use Rattle.std.proofs.Common.{◌≡◌, ℕ, ◌+◌, ◌*◌, ◌%◌, ◌^◌, ◌<◌, ◌≤◌, arith, true, false, List, get_or, Some, Result, Ok, Err, sym, ap, subst, ◌∙◌}
use Rattle.std.specs.Prelude.{◌==◌, if◌then◌else◌}
use Rattle.std.proofs.lemmas.Bool.Decides.{nat_tests}
use Rattle.bx_base.specs.declared.names.Mode.TheVariants.{Shared}
use Rattle.bx_layout.specs.declared.area.AreaBlock.{AreaBlock}
use Rattle.bx_layout.specs.declared.block.Block.{Block}
use Rattle.bx_layout.specs.Areas.{generation_in, is_free, taken_word, with_word}
use Rattle.bx_places.specs.Places.{block_area, block_slot}
use Rattle.bx_records.specs.Drafts.{Changed}
use Rattle.bx_truth.specs.Chunks.{IsChunked, IsSlot, block_at, chunks_of, handle_of, is_free_at, own_block}
use Rattle.bx_truth.specs.Slots.{TakesSlot}
use Rattle.bx_truth.proofs.Named.{free_names_none}
use Rattle.bx_truth.proofs.SlotWords.{block_back}
use Rattle.bx_truth.proofs.Taking.{chunk_taken, chunked_taken}
use Rattle.bx_truth.specs.bx_views.specs.Truths.{Held, IsTruth, Truth, with_draft}
use Rattle.bx_chunks.specs.Allocating.{AddsChunk, AllocatesAt, AllocatesIn, IsFullVolume, next_handle, slot_block, slot_taken}
use Rattle.bx_chunks.specs.Areas.{HasFree, HasSlots, IsFull, area_in_turn}
use Rattle.bx_chunks.specs.Putting.{empty_of, slot_put}
use Rattle.bx_chunks.specs.declared.error.ChunkError.{ChunkError}
use Rattle.bx_chunks.specs.declared.error.ChunkError.TheVariants.{Need, Stale, Full, OutOfMemory, Crowded}
use Rattle.bx_chunks.proofs.Chunked.{handle_generation, word_seen}
use Rattle.bx_chunks.proofs.Counted.{area_slots, spare_is}
use Rattle.bx_chunks.proofs.Slots.{here, seen_true, sets}
use Rattle.bx_chunks.proofs.Turns.{has_turn, turn_within}

next_generation : (word : ℕ) → is_free word ≡ true → generation_in (taken_word word) ≡ generation_in word + 1
next_generation word free = grind (arith, nat_tests, free)

not_zero : (area slot generation : ℕ) → area * 2 ^ 48 + slot * 2 ^ 32 + (generation + 1) ≡ 0 → ⊥
not_zero area slot generation none = omega (arith, none)

taken_fits : (word : ℕ) → is_free word ≡ true → taken_word word < 2 ^ 32
taken_fits word free = grind (arith, nat_tests, free)

module _ (areas : ℕ) (few : areas ≤ 64) (held : Held) (truth : Truth) (old new : List Changed) (same : IsTruth held truth) (is : IsChunked areas (with_draft truth old))
    (area slot : ℕ) (slots : AreaBlock) (within : area < areas) (free : HasFree held old area slots slot) (now : new ≡ slot_taken old area slots slot) where
  abbrev block : ℕ
  block = slot_block area slot

  abbrev word : ℕ
  word = get_or slots.words (block_slot block) 0

  abbrev handle : ℕ
  handle = next_handle area slots slot

  abbrev before : Truth
  before = with_draft truth old

  abbrev after : Truth
  after = with_draft truth new

  less : slot < 960
  less = free.lowest.there

  area_is : block_area block ≡ area
  area_is = let l = less in omega (arith, l)

  slot_is : block_slot block ≡ slot
  slot_is = let l = less in omega (arith, l)

  is_slot : IsSlot areas block
  is_slot = record { area = subst (λ (n : ℕ). n < areas) (sym area_is) within; slot = subst (λ (n : ℕ). n < 960) (sym slot_is) less }

  has : HasSlots (block_area block) slots (before (own_block (block_area block)))
  has = subst (λ (n : ℕ). HasSlots n slots (before (own_block n))) (sym area_is)
      (subst (HasSlots area slots) (sym (seen_true held truth old (own_block area) Shared free.block same free.there)) free.has)

  word_free : is_free word ≡ true
  word_free = ap (λ (n : ℕ). is_free (get_or slots.words n 0)) slot_is ∙ free.lowest.free

  now_at : new ≡ slot_put old (block_area block) (with_word slots (block_slot block) (taken_word word)) block handle 3
  now_at = now ∙ (λ i. slot_put old (sym area_is i) (with_word slots (sym slot_is i) (taken_word (get_or slots.words (sym slot_is i) 0))) block handle 3)

  here_is : after block ≡ empty_of handle 3
  here_is = here areas truth old new block slots (taken_word word) handle 3 is_slot has.spells (taken_fits word word_free) now_at

  handle_is : handle ≡ handle_of block (generation_in (taken_word word))
  handle_is =
      (λ i. sym area_is i * 2 ^ 48 + sym slot_is i * 2 ^ 32 + (generation_in (get_or slots.words (sym slot_is i) 0) + 1))
      ∙ ap (handle_of block) (sym (next_generation word word_free))

  takes : TakesSlot before after block slots
  takes = record {
    free = word_free;
    sets = sets areas truth old new block slots (taken_word word) handle 3 is_slot has.spells (taken_fits word word_free) now_at;
    header = ap (λ (b : Block). b.handle) here_is ∙ handle_is;
  }

  block_is : block_at handle ≡ block
  block_is = ap block_at handle_is ∙ block_back areas block (generation_in (taken_word word)) few is_slot (omega arith)

  above : generation_in word < handle % 2 ^ 32
  above =
      let same : handle % 2 ^ 32 ≡ generation_in (taken_word word) = ap (λ (h : ℕ). h % 2 ^ 32) handle_is ∙ handle_generation block (generation_in (taken_word word)) (omega arith) in
      let next = next_generation word word_free in
      subst (λ (n : ℕ). generation_in word < n) (sym (same ∙ next)) (omega arith)

  pub adds : AddsChunk areas before after handle
  adds = record {
    block = block;
    slots = slots;
    slot = is_slot;
    takes = takes;
    at = block_is;
    name = record { slot = subst (IsSlot areas) (sym block_is) is_slot; some = λ none. not_zero area slot (generation_in (get_or slots.words slot 0)) none };
    never = subst (λ (w : ℕ). generation_in w < handle % 2 ^ 32) (sym (word_seen before block slots is_slot.slot has)) above;
    here = here_is;
    fresh = free_names_none areas before block handle (ap is_free (word_seen before block slots is_slot.slot has) ∙ word_free) block_is;
    chunks = λ other. chunk_taken areas few before after block slots is_slot takes other ∙ (λ i. if other == (here_is i).handle then Some (here_is i) else chunks_of areas before other);
    chunked = chunked_taken areas few before after block slots is_slot takes is;
  }

module _ (areas near spare : ℕ) (held : Held) (truth : Truth) (old : List Changed) (same : IsTruth held truth) (is : IsChunked areas (with_draft truth old)) (full : IsFullVolume held old near areas spare) where
  none_at : (area block : ℕ) → area ≡ block_area block → IsSlot areas block → IsFull held old area → is_free_at (with_draft truth old) block ≡ false
  none_at area block e slot full_area =
      let own = is.own (block_area block) slot.area in
      let there : with_draft truth old (own_block (block_area block)) ≡ full_area.block = ap (λ (n : ℕ). with_draft truth old (own_block n)) (sym e) ∙ seen_true held truth old (own_block area) Shared full_area.block same full_area.there in
      let has = area_slots (block_area block) (with_draft truth old (own_block (block_area block))) own in
      ap is_free (word_seen (with_draft truth old) block own.slots slot.slot has)
      ∙ full_area.none own.slots (subst (λ (n : ℕ). HasSlots n own.slots full_area.block) (sym e) (subst (HasSlots (block_area block) own.slots) there has)) (block_slot block) slot.slot

  pub none_free : (block : ℕ) → IsSlot areas block → is_free_at (with_draft truth old) block ≡ false
  none_free block slot =
      let t = has_turn near areas (block_area block) slot.area in
      none_at (area_in_turn near areas t.turn) block t.is slot (full.passes t.turn t.within)

pub allocates_in : (areas near : ℕ) (held : Held) (truth : Truth) (old new : List Changed) → areas ≤ 64 → IsTruth held truth → IsChunked areas (with_draft truth old) → (r : Result ℕ ChunkError)
    → AllocatesAt held old new near areas r → AllocatesIn areas truth old new r
allocates_in areas near held truth old new few same is (Ok given) at =
    let within = subst (λ (n : ℕ). n < areas) (sym at.next.area_is) (turn_within near areas at.next.turn at.next.within) in
    subst (AddsChunk areas (with_draft truth old) (with_draft truth new)) (sym at.takes.1)
    (adds areas few held truth old new same is at.area at.slot at.slots within at.next.free at.takes.2)
allocates_in areas near held truth old new few same is (Err (Full spare)) at =
    ((λ chunked. spare_is held near areas spare truth same chunked (turn_within near areas) at.spare_is), none_free areas near spare held truth old same is at)
allocates_in areas near held truth old new few same is (Err (Need at mode)) end = tt
allocates_in areas near held truth old new few same is (Err Crowded) at = tt
allocates_in areas near held truth old new few same is (Err OutOfMemory) at = tt
allocates_in areas near held truth old new few same is (Err Stale) at = at
