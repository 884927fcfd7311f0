-- Slots that are taken, freed and marked.
use Rattle.std.specs.Prelude.{◌≡◌, ◌≢◌, ℕ, Bool, true, slice_index}
use Rattle.bx_views.specs.bx_layout.specs.declared.area.AreaBlock.{AreaBlock}
use Rattle.bx_views.specs.bx_layout.specs.Areas.{SpellsArea, in_use, generation_in, is_free, taken_word, freed_word, with_word, MarksDead}
use Rattle.bx_places.specs.Places.{block_area, block_slot}
use Rattle.bx_truth.specs.Chunks.{IsAreaBlock, handle_of, own_block}
use Rattle.bx_views.specs.Truths.{Truth}

-- The slot of a block has another word in the own block of its area, and all other blocks stay but the block itself.
pub record SetsWord (truth now : Truth) (block : ℕ) (slots : AreaBlock) (word : ℕ) : Type 0 where
  pub spells : SpellsArea slots (truth (own_block (block_area block))).payload
  pub own : IsAreaBlock (block_area block) (now (own_block (block_area block)))
  pub spells_now : SpellsArea (with_word slots (block_slot block) word) (now (own_block (block_area block))).payload
  pub others : (at : ℕ) → at ≢ own_block (block_area block) → at ≢ block → now at ≡ truth at

-- A free slot is taken: its word is that of the next generation, and its block has the new handle.
pub record TakesSlot (truth now : Truth) (block : ℕ) (slots : AreaBlock) : Type 0 where
  pub free : is_free (slice_index slots.words (block_slot block)) ≡ true
  pub sets : SetsWord truth now block slots (taken_word (slice_index slots.words (block_slot block)))
  pub header : (now block).handle ≡ handle_of block (generation_in (taken_word (slice_index slots.words (block_slot block))))

-- A slot in use is freed: its word keeps its generation, and its block names no handle.
pub record FreesSlot (truth now : Truth) (block : ℕ) (slots : AreaBlock) : Type 0 where
  pub used : in_use (slice_index slots.words (block_slot block)) ≡ true
  pub sets : SetsWord truth now block slots (freed_word (slice_index slots.words (block_slot block)))
  pub header : (now block).handle ≡ 0

-- The slot of a block has this mark in the own block of its area, where all words and all other marks stay, and so do all other blocks.
pub record SetsMark (truth now : Truth) (block : ℕ) (slots slots_now : AreaBlock) (dead : Bool) : Type 0 where
  pub spells : SpellsArea slots (truth (own_block (block_area block))).payload
  pub own : IsAreaBlock (block_area block) (now (own_block (block_area block)))
  pub spells_now : SpellsArea slots_now (now (own_block (block_area block))).payload
  pub marks : MarksDead slots slots_now (block_slot block) dead
  pub others : (at : ℕ) → at ≢ own_block (block_area block) → now at ≡ truth at
