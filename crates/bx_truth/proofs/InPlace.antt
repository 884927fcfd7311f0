-- A draft that changes no area's own block and no header.
use Rattle.std.proofs.Common.{◌≡◌, ℕ, ◌%◌, ◌^◌, ◌<◌, ◌≤◌, ◌⊎◌, inl, inr, Bool, true, false, List, sym, ap, ◌∙◌, subst, refl, Option, Some, None}
use Rattle.std.specs.Prelude.{◌&&◌, ◌==◌, if◌then◌else◌, unwrap_or, option_map}
use Rattle.bx_views.specs.bx_layout.specs.declared.block.Block.{Block}
use Rattle.bx_views.specs.bx_layout.specs.Areas.{in_use, generation_in}
use Rattle.bx_views.specs.Truths.{Changed, block_in}
use Rattle.bx_places.specs.Places.{block_area, block_slot}
use Rattle.bx_truth.specs.Chunks.{IsSlot, IsAreaBlock, IsChunked, is_slot, chunks_of, block_at, handle_of, own_block, word_in, word_at, dead_in, dead_at}
use Rattle.bx_truth.specs.Stands.{MarksTheDead, WasGiven}
use Rattle.bx_truth.specs.Stored.{Owner, Stored}
use Rattle.bx_views.specs.Truths.{Truth, with_draft}
use Rattle.bx_truth.proofs.Cases.{found}
use Rattle.bx_truth.proofs.Same.{slot_tested, chunk_is}

module _ (areas : ℕ) (truth : Truth) (draft : List Changed)
    (no_own : (area : ℕ) → area < areas → block_in draft (own_block area) ≡ None)
    (same_header : (at : ℕ) (block : Block) → block_in draft at ≡ Some block → block.handle ≡ (truth at).handle) where
  own_same : (area : ℕ) → area < areas → with_draft truth draft (own_block area) ≡ truth (own_block area)
  own_same area less = ap (λ (o : Option Block). unwrap_or o (truth (own_block area))) (no_own area less)

  pub word_stays : (block : ℕ) → IsSlot areas block → word_at (with_draft truth draft) block ≡ word_at truth block
  word_stays block is = ap (λ (b : Block). word_in b.payload (block_slot block)) (own_same (block_area block) is.area)

  pub dead_stays : (block : ℕ) → IsSlot areas block → dead_at (with_draft truth draft) block ≡ dead_at truth block
  dead_stays block is = ap (λ (b : Block). dead_in b.payload (block_slot block)) (own_same (block_area block) is.area)

  by_test : (t : Bool) (b : Block) (f : Block → Block) → (if t then Some (f b) else None) ≡ option_map f (if t then Some b else None)
  by_test true b f = refl
  by_test false b f = refl

  chunk_by : (test : Bool) (w v handle block : ℕ) (b : Block) (f : Block → Block) → (test ≡ true → w ≡ v)
      → (if (test && (in_use w && (handle == handle_of block (generation_in w)))) then Some (f b) else None) ≡ option_map f (if (test && (in_use v && (handle == handle_of block (generation_in v)))) then Some b else None)
  chunk_by false w v handle block b f words = refl
  chunk_by true w v handle block b f words =
      let e = words refl in
      (λ i. if (in_use (e i) && (handle == handle_of block (generation_in (e i)))) then Some (f b) else None)
      ∙ by_test (in_use v && (handle == handle_of block (generation_in v))) b f

  -- the chunks: those that the draft has are laid over
  pub chunk_laid : (handle : ℕ) → chunks_of areas (with_draft truth draft) handle ≡ option_map (unwrap_or (block_in draft (block_at handle))) (chunks_of areas truth handle)
  chunk_laid handle = chunk_by (is_slot areas (block_at handle)) (word_at (with_draft truth draft) (block_at handle)) (word_at truth (block_at handle)) handle (block_at handle) (truth (block_at handle))
      (unwrap_or (block_in draft (block_at handle))) (λ is. word_stays (block_at handle) (slot_tested areas (block_at handle) is))

  header_same : (at : ℕ) → (with_draft truth draft at).handle ≡ (truth at).handle
  header_same at = by (found (block_in draft at))
    where
      by : (block_in draft at ≡ None) ⊎ ((block : Block) × (block_in draft at ≡ Some block)) → (with_draft truth draft at).handle ≡ (truth at).handle
      by (inl none) = ap (λ (o : Option Block). (unwrap_or o (truth at)).handle) none
      by (inr (block, some)) = ap (λ (o : Option Block). (unwrap_or o (truth at)).handle) some ∙ same_header at block some

  pub chunked_stays : IsChunked areas truth → IsChunked areas (with_draft truth draft)
  chunked_stays is = record {
    own = λ area less. subst (IsAreaBlock area) (sym (own_same area less)) (is.own area less);
    used = λ block slot used. let w = word_stays block slot in
        header_same block ∙ is.used block slot (sym (ap in_use w) ∙ used) ∙ ap (λ (n : ℕ). handle_of block (generation_in n)) (sym w);
    unused = λ block slot unused. header_same block ∙ is.unused block slot (sym (ap in_use (word_stays block slot)) ∙ unused);
  }

  none_laid : (handle : ℕ) → chunks_of areas (with_draft truth draft) handle ≡ None → chunks_of areas truth handle ≡ None
  none_laid handle none = by (chunks_of areas truth handle) (sym (chunk_laid handle) ∙ none)
    where
      by : (o : Option Block) → option_map (unwrap_or (block_in draft (block_at handle))) o ≡ None → o ≡ None
      by None is = refl
      by (Some block) is = absurd cc

  pub some_laid : (handle : ℕ) (block : Block) → chunks_of areas (with_draft truth draft) handle ≡ Some block → (before : Block) × (chunks_of areas truth handle ≡ Some before) × (unwrap_or (block_in draft (block_at handle)) before ≡ block)
  some_laid handle block some = by (chunks_of areas truth handle) refl (sym (chunk_laid handle) ∙ some)
    where
      by : (o : Option Block) → chunks_of areas truth handle ≡ o → option_map (unwrap_or (block_in draft (block_at handle))) o ≡ Some block
          → (before : Block) × (chunks_of areas truth handle ≡ Some before) × (unwrap_or (block_in draft (block_at handle)) before ≡ block)
      by None was is = absurd cc
      by (Some before) was is = (before, was, cc)

  pub marks_stay : (owner : ℕ → Owner) (stored stored_now : ℕ → Stored) → ((handle : ℕ) → (stored_now handle).inode.kind ≡ (stored handle).inode.kind)
      → MarksTheDead areas truth owner stored → MarksTheDead areas (with_draft truth draft) owner stored_now
  marks_stay owner stored stored_now kinds is = record {
    dead = λ handle block chunk itself kind.
        let before = some_laid handle block chunk in
        dead_stays (block_at handle) (chunk_is areas truth handle before.0 before.1).slot ∙ is.dead handle before.0 before.1 itself (sym (kinds handle) ∙ kind);
    marked = λ block slot marked.
        let m = is.marked block slot (sym (dead_stays block slot) ∙ marked) in
        (m.0, m.1, (λ none. m.2 (none_laid m.0 none)), m.3, kinds m.0 ∙ m.4);
  }

  pub given_stays : (handle : ℕ) → WasGiven areas truth handle → WasGiven areas (with_draft truth draft) handle
  given_stays handle was = record {
    slot = was.slot;
    generation = subst (λ (n : ℕ). handle % 2 ^ 32 ≤ generation_in n) (sym (word_stays (block_at handle) was.slot)) was.generation;
  }
