-- What a call puts into a draft is held exclusively.
use Rattle.std.proofs.Common.{◌≡◌, ℕ, ◌+◌, ◌^◌, ◌<◌, ◌⊎◌, inl, inr, arith, Bool, List, length, Option, Some, None, Result, Ok, Err, refl, sym, ap, ◌∙◌, subst}
use Rattle.std.specs.Prelude.{IsSome, OnErr, is_some, slice_index, unwrap_or}
use Rattle.std.proofs.lemmas.Bool.{cases_eq}
use Rattle.std.proofs.lemmas.List.{length-append, length-replicate, length-set}
use Rattle.bx_base.specs.Bytes.{words}
use Rattle.bx_base.specs.declared.names.Mode.{Mode}
use Rattle.bx_base.specs.declared.names.Mode.TheVariants.{Exclusive, Shared}
use Rattle.bx_base.proofs.Whole.{length-padded}
use Rattle.bx_places.specs.Handles.{number_of, own_handle, parts_of}
use Rattle.bx_layout.specs.declared.area.AreaBlock.{AreaBlock}
use Rattle.bx_layout.specs.Areas.{IsArea, area_text, generation_in, with_word}
use Rattle.bx_layout.specs.Blocks.{HasParts, IsOwn}
use Rattle.bx_layout.proofs.Lengths.{length-words}
use Rattle.bx_layout.specs.declared.block.Block.{Block}
use Rattle.bx_records.specs.Drafts.{Changed, block_in, with_block}
use Rattle.bx_truth.specs.Chunks.{block_at, own_block}
use Rattle.bx_truth.specs.bx_views.specs.Attempts.{AreBlocks, IsHeldDraft}
use Rattle.bx_truth.specs.bx_views.specs.Truths.{Held}
use Rattle.bx_chunks.specs.Allocating.{AllocatesAt}
use Rattle.bx_chunks.specs.Areas.{HasSlots, seen_in}
use Rattle.bx_chunks.specs.Freeing.{FreesAt, own_at}
use Rattle.bx_chunks.specs.Marking.{MarksAt}
use Rattle.bx_chunks.specs.Putting.{empty_of, own_of}
use Rattle.bx_chunks.specs.declared.error.ChunkError.{ChunkError}
use Rattle.bx_chunks.proofs.Drafts.{put_elsewhere, put_here}
use Rattle.bx_chunks.proofs.Options.{some_same, some_there}

put_held : (held : Held) (xs : List Changed) (at : ℕ) (block : Block) → IsSome (held at Exclusive) → (AreBlocks held → HasParts block) → IsHeldDraft held xs
    → IsHeldDraft held (with_block xs at block)
put_held held xs at block some parts is = record {
  each = λ other there. by other there (cases_eq other at);
  parts = λ blocks other there found. of blocks other there found (cases_eq other at);
}
  where
    by : (other : ℕ) → IsSome (block_in (with_block xs at block) other) → ((other ≡ at) ⊎ (other ≡ at → ⊥)) → IsSome (held other Exclusive)
    by other there (inl same) = subst (λ (n : ℕ). IsSome (held n Exclusive)) (sym same) some
    by other there (inr apart) = is.each other (subst (λ (o : Option Block). IsSome o) (put_elsewhere xs at other block apart) there)

    of : AreBlocks held → (other : ℕ) (there : Block) → block_in (with_block xs at block) other ≡ Some there → ((other ≡ at) ⊎ (other ≡ at → ⊥)) → HasParts there
    of blocks other there found (inl same) =
        subst HasParts (some_same (block_in (with_block xs at block) other) block there (ap (block_in (with_block xs at block)) same ∙ put_here xs at block) found) (parts blocks)
    of blocks other there found (inr apart) = is.parts blocks other there (sym (put_elsewhere xs at other block apart) ∙ found)

-- what is seen is held
seen_held : (held : Held) (draft : List Changed) (at : ℕ) (block : Block) → seen_in held draft at Exclusive ≡ Some block → IsSome (held at Exclusive)
seen_held held draft at block seen =
    let h = some_there (unwrap_or (block_in draft at)) (held at Exclusive) block seen in
    ap (λ (o : Option Block). is_some o) h.1

-- and is a block, where those that are held are blocks
seen_parts : (held : Held) (draft : List Changed) (at : ℕ) (mode : Mode) (block : Block) → IsHeldDraft held draft → seen_in held draft at mode ≡ Some block → AreBlocks held → HasParts block
seen_parts held draft at mode block is seen blocks =
    let h = some_there (unwrap_or (block_in draft at)) (held at mode) block seen in
    by h.0 (block_in draft at) refl h.1 h.2
  where
    by : (there : Block) (changed : Option Block) → block_in draft at ≡ changed → held at mode ≡ Some there → unwrap_or (block_in draft at) there ≡ block → HasParts block
    by there None e found same = subst HasParts (sym (ap (λ (o : Option Block). unwrap_or o there) e) ∙ same) (blocks at mode there found)
    by there (Some changed) e found same = subst HasParts (sym (ap (λ (o : Option Block). unwrap_or o there) e) ∙ same) (is.parts blocks at changed e)

-- the area that a block is the own one of
area_few : (area : ℕ) (slots : AreaBlock) (block : Block) → HasSlots area slots block → HasParts block → area < 64
area_few area slots block has parts = let own = parts.own has.kind in let few = own.area in let is = has.handle in omega (arith, few, is)

own_is : (area handle : ℕ) → area < 64 → handle ≡ number_of (own_handle area) → IsOwn (parts_of handle)
own_is area handle few is = record { area = omega (arith, few, is); slot = omega (arith, is); generation = omega (arith, is) }

-- the own block of an area, and one of zeros, are blocks
own_parts : (area : ℕ) (slots : AreaBlock) → area < 64 → length slots.words ≡ 960 → length slots.dead ≡ 120 → HasParts (own_of area slots)
own_parts area slots few long_words long_dead = record {
  handle = fits (number_of (own_handle area)) refl;
  kind = omega arith;
  own = λ four. own_is area (number_of (own_handle area)) few refl;
  payload = length-padded 4096 (area_text slots) (let long = text in omega (arith, long));
}
  where
    fits : (handle : ℕ) → handle ≡ number_of (own_handle area) → handle < 2 ^ 64
    fits handle is = omega (arith, few, is)

    text : length (area_text slots) ≡ 3960
    text = omega (arith, length-append (words slots.words) slots.dead, length-words slots.words, long_words, long_dead)

empty_parts : (handle kind : ℕ) → handle < 2 ^ 64 → kind < 4 → HasParts (empty_of handle kind)
empty_parts handle kind fits few = record { handle = fits; kind = omega (arith, few); own = λ four. absurd (omega (arith, four, few)); payload = length-replicate {A = ℕ} 4096 0 }

-- a slot's word anew leaves as many words
word_long : (slots : AreaBlock) (slot word : ℕ) → IsArea slots → length (with_word slots slot word).words ≡ 960
word_long slots slot word is = length-set slots.words slot word ∙ is.words

next_fits : (area slot word : ℕ) → area < 64 → slot < 960 → number_of (record { area = area; slot = slot; generation = generation_in word + 1 }) < 2 ^ 64
next_fits area slot word few less = omega (arith, few, less)

module _ (held : Held) (old new : List Changed) (is : IsHeldDraft held old) where
  pub allocates_held : (near areas : ℕ) (r : Result ℕ ChunkError) → AllocatesAt held old new near areas r → OnErr r (new ≡ old) → IsHeldDraft held new
  allocates_held near areas (Ok handle) at same =
      let both = at.takes.0 in
      let free = at.next.free in
      let few : AreBlocks held → at.area < 64 = λ blocks. area_few at.area at.slots free.block free.has (seen_parts held old (own_block at.area) Shared free.block is free.there blocks) in
      subst (IsHeldDraft held) (sym at.takes.2)
      (put_held held _ _ _ both.at_held (λ blocks. empty_parts _ 3 (next_fits at.area at.slot (slice_index at.slots.words at.slot) (few blocks) free.lowest.there) (omega arith))
      (put_held held _ _ _ both.own_held (λ blocks. own_parts at.area _ (few blocks) (word_long at.slots at.slot _ free.has.spells.is) free.has.spells.is.dead) is))
  allocates_held near areas (Err error) at same = subst (IsHeldDraft held) (sym same) is

  pub frees_held : (handle : ℕ) (r : Result (Unit {0}) ChunkError) → FreesAt held old new handle r → OnErr r (new ≡ old) → IsHeldDraft held new
  frees_held handle (Ok done) at same =
      let named = at.is.named in
      let area = at.is.area in
      subst (IsHeldDraft held) (sym at.now)
      (put_held held _ _ _ (seen_held held old (block_at handle) named.block named.there) (λ blocks. empty_parts 0 0 (omega arith) (omega arith))
      (put_held held _ _ _ (seen_held held old (own_at handle) area.own area.there)
      (λ blocks. own_parts _ _ (area_few _ _ area.own area.has (seen_parts held old (own_at handle) Exclusive area.own is area.there blocks)) (word_long at.slots _ _ area.has.spells.is) area.has.spells.is.dead) is))
  frees_held handle (Err error) at same = subst (IsHeldDraft held) (sym same) is

  pub marks_held : (handle : ℕ) (dead : Bool) (r : Result (Unit {0}) ChunkError) → MarksAt held old new handle dead r → OnErr r (new ≡ old) → IsHeldDraft held new
  marks_held handle dead (Ok done) at same =
      let area = at.marked.given in
      subst (IsHeldDraft held) (sym at.now) (put_held held _ _ _ (seen_held held old (own_at handle) area.own area.there)
      (λ blocks. own_parts _ _ (area_few _ _ area.own area.has (seen_parts held old (own_at handle) Exclusive area.own is area.there blocks))
      (ap length at.marked.marks.words ∙ area.has.spells.is.words) (at.marked.marks.len ∙ area.has.spells.is.dead)) is)
  marks_held handle dead (Err error) at same = subst (IsHeldDraft held) (sym same) is
