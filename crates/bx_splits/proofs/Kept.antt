-- The slots stay where a block in use is written anew, and in one step after another.
use Rattle.std.proofs.Common.{◌≡◌, ℕ, ◌+◌, ◌^◌, ◌%◌, ◌*◌, ◌<◌, ◌≤◌, arith, List, Some, sym, ap, ◌∙◌}
use Rattle.bx_layout.specs.declared.block.Block.{Block}
use Rattle.bx_layout.specs.Areas.{generation_in}
use Rattle.bx_places.specs.Places.{block_area, block_slot}
use Rattle.bx_records.specs.Drafts.{Changed, with_block}
use Rattle.bx_truth.specs.Chunks.{chunks_of, block_at, handle_of, own_block, word_in, word_at, dead_in}
use Rattle.bx_truth.specs.Shown.{KeepsSlots}
use Rattle.bx_truth.specs.Stands.{WasGiven}
use Rattle.bx_views.specs.Truths.{Truth, Held, with_draft}
use Rattle.bx_blink.proofs.Sees.{Holds, chunk_is}
use Rattle.bx_leaves.proofs.Written.{own_not_slot, draft_elsewhere, holds_still}

pub kept_and : (areas : ℕ) (a b c : Truth) → KeepsSlots areas a b → KeepsSlots areas b c → KeepsSlots areas a c
kept_and areas a b c x y = record {
  chunked = y.chunked;
  given = λ block slot. let l = x.given block slot in let m = y.given block slot in omega (arith, l, m);
  dead = λ block slot. y.dead block slot ∙ x.dead block slot;
}

same_le : (a b : ℕ) → a ≡ b → a ≤ b
same_le a b e = omega (arith, e)

pub written_keeps : (areas : ℕ) (held : Held) (truth : Truth) (draft : List Changed) (handle : ℕ) (before block : Block) → Holds areas held truth draft
    → chunks_of areas (with_draft truth draft) handle ≡ Some before → block.handle ≡ handle → KeepsSlots areas (with_draft truth draft) (with_draft truth (with_block draft (block_at handle) block))
written_keeps areas held truth draft handle before block h was header = record {
  chunked = (holds_still areas held truth draft handle before block h was header).chunked;
  given = λ b slot. same_le _ _ (ap (λ (x : Block). generation_in (word_in x.payload (block_slot b))) (sym (own_same (block_area b))));
  dead = λ b slot. ap (λ (x : Block). dead_in x.payload (block_slot b)) (own_same (block_area b));
}
  where
    own_same : (area : ℕ) → with_draft truth (with_block draft (block_at handle) block) (own_block area) ≡ with_draft truth draft (own_block area)
    own_same area = draft_elsewhere truth draft (block_at handle) (own_block area) block (own_not_slot areas (block_at handle) area (chunk_is areas (with_draft truth draft) handle before was).slot)

low : (block generation : ℕ) → generation < 2 ^ 32 → handle_of block generation % 2 ^ 32 ≡ generation
low block generation fits = by (block_area block) (block_slot block)
  where
    by : (area slot : ℕ) → (area * 2 ^ 48 + slot * 2 ^ 32 + generation) % 2 ^ 32 ≡ generation
    by area slot = omega (arith, fits)

small : (word : ℕ) → generation_in word < 2 ^ 32
small word = omega arith

-- what is in use was given out
pub used_given : (areas : ℕ) (truth : Truth) (handle : ℕ) (block : Block) → chunks_of areas truth handle ≡ Some block → WasGiven areas truth handle
used_given areas truth handle block is =
    let c = chunk_is areas truth handle block is in
    record {
      slot = c.slot;
      generation = same_le _ _ (ap (λ (h : ℕ). h % 2 ^ 32) c.is_handle ∙ low (block_at handle) (generation_in (word_at truth (block_at handle))) (small (word_at truth (block_at handle))));
    }

-- its handle has 64 bits
pub used_fits : (areas : ℕ) (truth : Truth) (handle : ℕ) (block : Block) → areas ≤ 64 → chunks_of areas truth handle ≡ Some block → handle < 2 ^ 64
used_fits areas truth handle block few is =
    let c = chunk_is areas truth handle block is in
    let area = (c.slot).area in
    let slot = (c.slot).slot in
    bound (block_area (block_at handle)) (block_slot (block_at handle)) (generation_in (word_at truth (block_at handle))) handle c.is_handle (omega (arith, few, area)) slot (small (word_at truth (block_at handle)))
  where
    bound : (area slot generation h : ℕ) → h ≡ area * 2 ^ 48 + slot * 2 ^ 32 + generation → area < 64 → slot < 960 → generation < 2 ^ 32 → h < 2 ^ 64
    bound area slot generation h e a s g = omega (arith, e, a, s, g)
