-- Dead inodes of an area, by a truth.
use Rattle.std.proofs.Common.{◌≡◌, ℕ, ◌+◌, ◌*◌, ◌^◌, ◌<◌, arith, get_or, Option, Some, None, Result, Ok, Err, sym, subst, ◌∙◌}
use Rattle.bx_base.specs.declared.names.Mode.TheVariants.{Shared}
use Rattle.bx_layout.specs.declared.area.AreaBlock.{AreaBlock}
use Rattle.bx_layout.specs.declared.block.Block.{Block}
use Rattle.bx_layout.specs.Areas.{SpellsArea, generation_in, is_dead}
use Rattle.bx_places.specs.Places.{block_area, block_slot}
use Rattle.bx_truth.specs.Chunks.{IsChunked, dead_at, dead_in, own_block, word_at, word_in}
use Rattle.bx_truth.proofs.Words.{dead_is, word_is}
use Rattle.bx_truth.specs.bx_views.specs.Truths.{Held, IsTruth, Truth}
use Rattle.bx_chunks.specs.Areas.{HasSlots}
use Rattle.bx_chunks.specs.Marking.{FindsDeadAt, FindsDeadIn, IsFirstDead, NamesLowestDead}
use Rattle.bx_chunks.specs.declared.error.ChunkError.{ChunkError}
use Rattle.bx_chunks.specs.declared.error.ChunkError.TheVariants.{Need, Stale, Full, OutOfMemory, Crowded}
use Rattle.bx_chunks.proofs.Counted.{area_slots}

area_is : (area slot : ℕ) → slot < 960 → block_area (1024 * area + slot) ≡ area
area_is area slot less = omega (arith, less)

slot_is : (area slot : ℕ) → slot < 960 → block_slot (1024 * area + slot) ≡ slot
slot_is area slot less = omega (arith, less)

module _ (truth : Truth) (area : ℕ) (slots : AreaBlock) (spells : SpellsArea slots (truth (own_block area)).payload) where
  dead_here : (slot : ℕ) → slot < 960 → dead_at truth (1024 * area + slot) ≡ is_dead slots slot
  dead_here slot less = (λ i. dead_in (truth (own_block (area_is area slot less i))).payload (slot_is area slot less i)) ∙ dead_is slots (truth (own_block area)).payload slot spells less

  word_here : (slot : ℕ) → slot < 960 → word_at truth (1024 * area + slot) ≡ get_or slots.words slot 0
  word_here slot less = (λ i. word_in (truth (own_block (area_is area slot less i))).payload (slot_is area slot less i)) ∙ word_is slots (truth (own_block area)).payload slot spells less

  first_dead : (handle : ℕ) → NamesLowestDead area handle slots → IsFirstDead truth area handle
  first_dead handle names = record {
    slot = names.slot;
    there = names.is.there;
    dead = dead_here names.slot names.is.there ∙ names.is.dead;
    lowest = λ lower less. dead_here lower (let there = names.is.there in omega (arith, less, there)) ∙ names.is.lowest lower less;
    handle_is = names.handle_is ∙ (λ i. sym (area_is area names.slot names.is.there) i * 2 ^ 48 + sym (slot_is area names.slot names.is.there) i * 2 ^ 32
        + generation_in (sym (word_here names.slot names.is.there) i));
  }

pub finds_dead : (areas : ℕ) (held : Held) (truth : Truth) (area : ℕ) → area < areas → IsTruth held truth → IsChunked areas truth → (r : Result (Option ℕ) ChunkError) → FindsDeadAt held area r → FindsDeadIn area truth r
finds_dead areas held truth area within same is (Ok (Some handle)) holds =
    first_dead truth area holds.slots (subst (λ (b : Block). SpellsArea holds.slots b.payload) (sym (same.each (own_block area) Shared holds.block holds.there)) holds.has.spells) handle holds.is
finds_dead areas held truth area within same is (Ok None) holds = λ slot less.
    dead_here truth area holds.slots (subst (λ (b : Block). SpellsArea holds.slots b.payload) (sym (same.each (own_block area) Shared holds.block holds.there)) holds.has.spells) slot less ∙ holds.is slot less
finds_dead areas held truth area within same is (Err Stale) holds =
    let own = is.own area within in
    absurd (holds.none own.slots (subst (HasSlots area own.slots) (same.each (own_block area) Shared holds.block holds.there) (area_slots area (truth (own_block area)) own)))
finds_dead areas held truth area within same is (Err (Need at mode)) holds = tt
finds_dead areas held truth area within same is (Err OutOfMemory) holds = tt
finds_dead areas held truth area within same is (Err (Full spare)) holds = holds
finds_dead areas held truth area within same is (Err Crowded) holds = holds
