-- What is found of a handle.
use Rattle.std.proofs.Common.{◌≡◌, ℕ, ◌<◌, List, Some, None, Result, Ok, Err, sym, ap, subst, ◌∙◌}
use Rattle.bx_base.specs.declared.names.Mode.TheVariants.{Exclusive}
use Rattle.bx_places.specs.declared.chunk_handle.ChunkHandle.{ChunkHandle}
use Rattle.bx_places.specs.Handles.{block_of, parts_of}
use Rattle.bx_layout.specs.declared.area.AreaBlock.{AreaBlock}
use Rattle.bx_layout.specs.declared.block.Block.{Block}
use Rattle.bx_records.specs.Drafts.{Changed, block_in}
use Rattle.bx_truth.specs.Chunks.{block_at, own_block}
use Rattle.bx_truth.specs.bx_views.specs.Truths.{Held}
use Rattle.bx_chunks.specs.Areas.{HasSlots, seen_in}
use Rattle.bx_chunks.specs.Freeing.{GivesAt, IsGiven, IsNamed, IsNotGiven, LacksBlock, its_block, its_area, not_given as names_none, UsesAt}
use Rattle.bx_chunks.specs.declared.error.ChunkError.{ChunkError}
use Rattle.bx_chunks.specs.declared.error.ChunkError.TheVariants.{Need, Stale, Full, OutOfMemory, Crowded}
use Rattle.bx_chunks.proofs.Options.{unmapped}
use Rattle.std.specs.Prelude.{unwrap_or}

pub not_given : (held : Held) (draft : List Changed) (handle : ℕ) (parts : ChunkHandle) (own : ℕ) (block : Block) → parts ≡ parts_of handle → own ≡ own_block parts.area
    → Some block ≡ seen_in held draft own Exclusive → ((slots : AreaBlock) → HasSlots parts.area slots block → IsGiven slots parts → ⊥) → IsNotGiven held draft handle
not_given held draft handle parts own block p o there without = record {
  own = block;
  there = ap (λ (at : ℕ). seen_in held draft at Exclusive) (sym (o ∙ ap (λ (h : ChunkHandle). own_block h.area) p)) ∙ sym there;
  no = subst (λ (h : ChunkHandle). (slots : AreaBlock) → HasSlots h.area slots block → IsGiven slots h → ⊥) p without;
}

pub lacks_its : (held : Held) (draft : List Changed) (handle : ℕ) (parts : ChunkHandle) (at : ℕ) → parts ≡ parts_of handle → parts.slot < 960 → at ≡ block_of parts
    → None ≡ seen_in held draft at Exclusive → LacksBlock held draft handle at
lacks_its held draft handle parts at p less a none =
    let e : at ≡ block_at handle = a ∙ ap block_of p in
    subst (LacksBlock held draft handle) (sym e)
    (its_block (subst (λ (h : ChunkHandle). h.slot < 960) p less)
    (subst (λ (n : ℕ). held n Exclusive ≡ None) e (unmapped (unwrap_or (block_in draft at)) (held at Exclusive) (sym none))))

pub is_named : (held : Held) (draft : List Changed) (handle : ℕ) (parts : ChunkHandle) (at : ℕ) (block : Block) → parts ≡ parts_of handle → parts.slot < 960 → at ≡ block_of parts
    → Some block ≡ seen_in held draft at Exclusive → block.handle ≡ handle → IsNamed held draft handle
is_named held draft handle parts at block p less a there header = record {
  slot = subst (λ (h : ChunkHandle). h.slot < 960) p less;
  block = block;
  there = ap (λ (n : ℕ). seen_in held draft n Exclusive) (sym (a ∙ ap block_of p)) ∙ sym there;
  header = header;
}

pub uses_of : (held : Held) (draft : List Changed) (handle : ℕ) → IsNamed held draft handle → (r : Result AreaBlock ChunkError) → GivesAt held draft handle r → UsesAt held draft handle r
uses_of held draft handle named (Ok slots) gives = record { named = named; area = gives }
uses_of held draft handle named (Err (Need at mode)) gives = (subst (LacksBlock held draft handle) (sym gives.1) (its_area named gives.0), gives.2)
uses_of held draft handle named (Err Stale) gives = names_none named gives
uses_of held draft handle named (Err OutOfMemory) gives = tt
uses_of held draft handle named (Err (Full spare)) gives = gives
uses_of held draft handle named (Err Crowded) gives = gives
