-- Chunks of a truth, by their words and headers.
use Rattle.std.proofs.Common.{◌≡◌, ℕ, ◌+◌, ◌*◌, ◌/◌, ◌%◌, ◌^◌, ◌<◌, arith, get_or, Option, Some, None, refl, sym, ap, subst, ◌∙◌}
use Rattle.std.specs.Prelude.{◌&&◌, if◌then◌else◌}
use Rattle.bx_places.specs.Handles.{parts_of}
use Rattle.bx_layout.specs.declared.area.AreaBlock.{AreaBlock}
use Rattle.bx_layout.specs.declared.block.Block.{Block}
use Rattle.bx_layout.specs.Areas.{generation_in}
use Rattle.bx_places.specs.Places.{block_area, block_slot}
use Rattle.bx_truth.specs.Chunks.{IsChunked, IsSlot, block_at, chunks_of, handle_of, own_block, word_at}
use Rattle.bx_truth.specs.bx_views.specs.Truths.{Truth}
use Rattle.bx_truth.proofs.Cases.{eq_true}
use Rattle.bx_truth.proofs.Same.{IsChunk, chunk_is}
use Rattle.bx_truth.proofs.SlotWords.{is_slot_true}
use Rattle.bx_truth.proofs.Words.{word_is}
use Rattle.bx_chunks.specs.Areas.{HasSlots}

pub chunk_from : (areas : ℕ) (truth : Truth) (handle : ℕ) (block : Block) → IsChunk areas truth handle block → chunks_of areas truth handle ≡ Some block
chunk_from areas truth handle block c =
    (λ i. if (is_slot_true areas (block_at handle) c.slot i && (c.used i && eq_true handle (handle_of (block_at handle) (generation_in (word_at truth (block_at handle)))) c.is_handle i)) then Some (truth (block_at handle)) else None)
    ∙ ap Some c.is_block

-- a handle that is no chunk's
pub no_chunk : (areas : ℕ) (truth : Truth) (handle : ℕ) → ((block : Block) → IsChunk areas truth handle block → ⊥) → chunks_of areas truth handle ≡ None
no_chunk areas truth handle none = by (chunks_of areas truth handle) refl
  where
    by : (o : Option Block) → chunks_of areas truth handle ≡ o → chunks_of areas truth handle ≡ None
    by None is = is
    by (Some block) is = absurd (none block (chunk_is areas truth handle block is))

-- the header of a chunk names it
pub chunk_header : (areas : ℕ) (truth : Truth) (handle : ℕ) (block : Block) → IsChunked areas truth → IsChunk areas truth handle block → block.handle ≡ handle
chunk_header areas truth handle block is c = ap (λ (b : Block). b.handle) (sym c.is_block) ∙ is.used (block_at handle) c.slot c.used ∙ sym c.is_handle

-- the parts of a handle of a slot
abbrev pub area_of : ℕ → ℕ
area_of handle = (parts_of handle).area

abbrev pub slot_of : ℕ → ℕ
slot_of handle = (parts_of handle).slot

pub block_area_is : (handle : ℕ) → slot_of handle < 960 → block_area (block_at handle) ≡ area_of handle
block_area_is handle less = by (area_of handle) (slot_of handle) less
  where
    by : (area slot : ℕ) → slot < 960 → (1024 * area + slot) / 1024 ≡ area
    by area slot less = omega (arith, less)

pub block_slot_is : (handle : ℕ) → slot_of handle < 960 → block_slot (block_at handle) ≡ slot_of handle
block_slot_is handle less = by (area_of handle) (slot_of handle) less
  where
    by : (area slot : ℕ) → slot < 960 → (1024 * area + slot) % 1024 ≡ slot
    by area slot less = omega (arith, less)

-- a handle of the block of a slot is that of its slot
pub handle_slot : (areas block generation : ℕ) → IsSlot areas block → generation < 2 ^ 32 → slot_of (handle_of block generation) ≡ block_slot block
handle_slot areas block generation slot fits = by (block_area block) (block_slot block) slot.slot
  where
    by : (area slot : ℕ) → slot < 960 → (area * 2 ^ 48 + slot * 2 ^ 32 + generation) / 2 ^ 32 % 2 ^ 16 ≡ slot
    by area slot less = omega (arith, less, fits)

pub handle_generation : (block generation : ℕ) → generation < 2 ^ 32 → handle_of block generation % 2 ^ 32 ≡ generation
handle_generation block generation fits = by (block_area block) (block_slot block)
  where
    by : (area slot : ℕ) → (area * 2 ^ 48 + slot * 2 ^ 32 + generation) % 2 ^ 32 ≡ generation
    by area slot = omega (arith, fits)

-- a handle is that of its block in its generation
pub handle_back : (handle : ℕ) → slot_of handle < 960 → handle ≡ handle_of (block_at handle) (handle % 2 ^ 32)
handle_back handle less =
    back handle ∙ (λ i. sym (block_area_is handle less) i * 2 ^ 48 + sym (block_slot_is handle less) i * 2 ^ 32 + handle % 2 ^ 32)
  where
    back : (n : ℕ) → n ≡ n / 2 ^ 48 * 2 ^ 48 + n / 2 ^ 32 % 2 ^ 16 * 2 ^ 32 + n % 2 ^ 32
    back n = omega arith

pub slot_there : (areas handle : ℕ) → area_of handle < areas → slot_of handle < 960 → IsSlot areas (block_at handle)
slot_there areas handle area slot = record {
  area = subst (λ (n : ℕ). n < areas) (sym (block_area_is handle slot)) area;
  slot = subst (λ (n : ℕ). n < 960) (sym (block_slot_is handle slot)) slot;
}

-- the slot of a chunk's handle
pub chunk_slot : (areas : ℕ) (truth : Truth) (handle : ℕ) (block : Block) → IsChunk areas truth handle block → slot_of handle < 960
chunk_slot areas truth handle block c =
    subst (λ (n : ℕ). n < 960) (sym (ap slot_of c.is_handle ∙ handle_slot areas (block_at handle) (generation_in (word_at truth (block_at handle))) c.slot (omega arith))) c.slot.slot

-- the word of a slot, by the slots of its area
pub word_seen : (truth : Truth) (block : ℕ) (slots : AreaBlock) → block_slot block < 960 → HasSlots (block_area block) slots (truth (own_block (block_area block)))
    → word_at truth block ≡ get_or slots.words (block_slot block) 0
word_seen truth block slots less has = word_is slots (truth (own_block (block_area block))).payload (block_slot block) has.spells less
