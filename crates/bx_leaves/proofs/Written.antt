-- A block in use is written anew under its handle: the chunks get the block, and nothing else changes.
use Rattle.std.proofs.Common.{◌≡◌, ℕ, ◌%◌, ◌^◌, ◌<◌, ◌≤◌, Bool, true, false, eqb, List, [], ◌∷◌, Option, Some, None, refl, sym, ap, subst, ◌∙◌, arith, eqb-true, inl, inr}
use Rattle.std.specs.Prelude.{◌&&◌, ◌==◌, if◌then◌else◌, unwrap_or, ◌⊎◌}
use Rattle.std.proofs.lemmas.Bool.{cases_eq, eq-eqb, ne_eqb}
use Rattle.bx_layout.specs.declared.block.Block.{Block}
use Rattle.bx_layout.specs.Areas.{in_use, generation_in}
use Rattle.bx_places.specs.Places.{block_area, block_slot}
use Rattle.bx_records.specs.Drafts.{Changed, block_in, with_block}
use Rattle.bx_blink.specs.bx_views.specs.Truths.{Truth, Held, with_draft}
use Rattle.bx_blink.specs.bx_truth.specs.Chunks.{block_at, handle_of, own_block, IsSlot, is_slot, word_in, word_at, chunks_of, IsAreaBlock, IsChunked}
use Rattle.bx_blink.specs.bx_truth.specs.Edits.{ChunkAnew}
use Rattle.bx_blink.specs.bx_truth.specs.Stands.{WasGiven}
use Rattle.bx_blink.proofs.Sees.{IsChunk, Holds, chunk_is, chunk_from}

pub own_not_slot : (areas block a : ℕ) → IsSlot areas block → own_block a ≡ block → ⊥
own_not_slot areas block a s e = let lt : block_slot block < 960 = s.slot in omega (arith, lt, e)

chunk_same : (test : Bool) (w v handle block : ℕ) (b c : Block) → w ≡ v → b ≡ c
    → (if (test && (in_use w && (handle == handle_of block (generation_in w)))) then Some b else None) ≡ (if (test && (in_use v && (handle == handle_of block (generation_in v)))) then Some c else None)
chunk_same test w v handle block b c e f = λ i. if (test && (in_use (e i) && (handle == handle_of block (generation_in (e i))))) then Some (f i) else None

-- ---- a block is put into a draft

pub put_here : (xs : List Changed) (at : ℕ) (block : Block) → block_in (with_block xs at block) at ≡ Some block
put_here [] at block = rw (eq-eqb at at refl) refl
put_here (x ∷ xs) at block = by_test (eqb x.0 at) refl (put_here xs at block)
  where
    by_test : (b : Bool) → eqb x.0 at ≡ b → block_in (with_block xs at block) at ≡ Some block → block_in (with_block (x ∷ xs) at block) at ≡ Some block
    by_test true e rest = rw (e, eq-eqb at at refl) refl
    by_test false e rest = rw (e, e) rest

pub put_elsewhere : (xs : List Changed) (at other : ℕ) (block : Block) → (other ≡ at → ⊥) → block_in (with_block xs at block) other ≡ block_in xs other
put_elsewhere [] at other block ne = rw (ne_eqb at other (λ e. ne (sym e))) refl
put_elsewhere (x ∷ xs) at other block ne = by_test (eqb x.0 at) refl (eqb x.0 other) refl (put_elsewhere xs at other block ne)
  where
    by_test : (b : Bool) → eqb x.0 at ≡ b → (d : Bool) → eqb x.0 other ≡ d → block_in (with_block xs at block) other ≡ block_in xs other → block_in (with_block (x ∷ xs) at block) other ≡ block_in (x ∷ xs) other
    by_test true e true f rest = absurd (ne (sym (eqb-true x.0 other f) ∙ eqb-true x.0 at e))
    by_test true e false f rest = rw (e, ne_eqb at other (λ q. ne (sym q)), f) refl
    by_test false e true f rest = rw (e, f) refl
    by_test false e false f rest = rw (e, f) rest

pub draft_here : (truth : Truth) (xs : List Changed) (at : ℕ) (block : Block) → with_draft truth (with_block xs at block) at ≡ block
draft_here truth xs at block = ap (λ (o : Option Block). unwrap_or o (truth at)) (put_here xs at block)

pub draft_elsewhere : (truth : Truth) (xs : List Changed) (at other : ℕ) (block : Block) → (other ≡ at → ⊥) → with_draft truth (with_block xs at block) other ≡ with_draft truth xs other
draft_elsewhere truth xs at other block ne = ap (λ (o : Option Block). unwrap_or o (truth other)) (put_elsewhere xs at other block ne)

-- ---- the truth

module _ (areas : ℕ) (truth now : Truth) (handle : ℕ) (before block : Block) (chunked : IsChunked areas truth) (was : chunks_of areas truth handle ≡ Some before)
    (here : now (block_at handle) ≡ block) (header : block.handle ≡ handle) (others : (at : ℕ) → (at ≡ block_at handle → ⊥) → now at ≡ truth at) where
  c : IsChunk areas truth handle before
  c = chunk_is areas truth handle before was

  words : (other : ℕ) → word_at now other ≡ word_at truth other
  words other = ap (λ (b : Block). word_in b.payload (block_slot other)) (others (own_block (block_area other)) (own_not_slot areas (block_at handle) (block_area other) c.slot))

  pub writes : ChunkAnew (chunks_of areas truth) (chunks_of areas now) handle block
  writes = record {
    here = chunk_from areas now handle block (record {
      slot = c.slot;
      used = ap in_use (words (block_at handle)) ∙ c.used;
      is_handle = c.is_handle ∙ ap (λ (w : ℕ). handle_of (block_at handle) (generation_in w)) (sym (words (block_at handle)));
      is_block = here;
    });
    others = λ other apart. by_block other apart (cases_eq (block_at other) (block_at handle));
  }
    where
      same_none : (o : Option Block) → ((b : Block) → o ≡ Some b → ⊥) → o ≡ None
      same_none None h = refl
      same_none (Some b) h = absurd (h b refl)

      one_name : (t : Truth) (other : ℕ) (b : Block) → ((n : ℕ) → word_at t n ≡ word_at truth n) → block_at other ≡ block_at handle → chunks_of areas t other ≡ Some b → other ≡ handle
      one_name t other b w same e =
          let o = chunk_is areas t other b e in
          o.is_handle ∙ ap (λ (n : ℕ). handle_of n (generation_in (word_at t n))) same ∙ ap (λ (x : ℕ). handle_of (block_at handle) (generation_in x)) (w (block_at handle)) ∙ sym c.is_handle

      by_block : (other : ℕ) → (other ≡ handle → ⊥) → (block_at other ≡ block_at handle) ⊎ (block_at other ≡ block_at handle → ⊥) → chunks_of areas now other ≡ chunks_of areas truth other
      by_block other apart (inl same) =
          same_none (chunks_of areas now other) (λ b e. apart (one_name now other b words same e))
          ∙ sym (same_none (chunks_of areas truth other) (λ b e. apart (one_name truth other b (λ n. refl) same e)))
      by_block other apart (inr differ) =
          chunk_same (is_slot areas (block_at other)) (word_at now (block_at other)) (word_at truth (block_at other)) other (block_at other) (now (block_at other)) (truth (block_at other)) (words (block_at other)) (others (block_at other) differ)

  pub chunked_still : IsChunked areas now
  chunked_still = record {
    own = λ area lt. subst (IsAreaBlock area) (sym (others (own_block area) (own_not_slot areas (block_at handle) area c.slot))) (chunked.own area lt);
    used = λ b s u. by_used b s u (cases_eq b (block_at handle));
    unused = λ b s u. by_unused b s u (cases_eq b (block_at handle));
  }
    where
      by_used : (b : ℕ) → IsSlot areas b → in_use (word_at now b) ≡ true → (b ≡ block_at handle) ⊎ (b ≡ block_at handle → ⊥) → (now b).handle ≡ handle_of b (generation_in (word_at now b))
      by_used b s u (inl same) =
          subst (λ (n : ℕ). (now n).handle ≡ handle_of n (generation_in (word_at now n))) (sym same)
          (ap (λ (x : Block). x.handle) here ∙ header ∙ c.is_handle ∙ ap (λ (w : ℕ). handle_of (block_at handle) (generation_in w)) (sym (words (block_at handle))))
      by_used b s u (inr differ) =
          ap (λ (x : Block). x.handle) (others b differ) ∙ chunked.used b s (sym (ap in_use (words b)) ∙ u) ∙ ap (λ (n : ℕ). handle_of b (generation_in n)) (sym (words b))

      by_unused : (b : ℕ) → IsSlot areas b → in_use (word_at now b) ≡ false → (b ≡ block_at handle) ⊎ (b ≡ block_at handle → ⊥) → (now b).handle ≡ 0
      by_unused b s u (inl same) =
          let both : true ≡ false = sym c.used ∙ ap in_use (sym (words (block_at handle))) ∙ ap (λ (n : ℕ). in_use (word_at now n)) (sym same) ∙ u in
          absurd cc
      by_unused b s u (inr differ) = ap (λ (x : Block). x.handle) (others b differ) ∙ chunked.unused b s (sym (ap in_use (words b)) ∙ u)

  pub given_still : (other : ℕ) → WasGiven areas truth other → WasGiven areas now other
  given_still other was = record { slot = was.slot; generation = subst (λ (n : ℕ). other % 2 ^ 32 ≤ generation_in n) (sym (words (block_at other))) was.generation }

-- ---- the same of a draft

module _ (areas : ℕ) (held : Held) (truth : Truth) (draft : List Changed) (handle : ℕ) (before block : Block) (h : Holds areas held truth draft)
    (was : chunks_of areas (with_draft truth draft) handle ≡ Some before) (header : block.handle ≡ handle) where
  pub puts_writes : ChunkAnew (chunks_of areas (with_draft truth draft)) (chunks_of areas (with_draft truth (with_block draft (block_at handle) block))) handle block
  puts_writes = writes areas (with_draft truth draft) (with_draft truth (with_block draft (block_at handle) block)) handle before block h.chunked was (draft_here truth draft (block_at handle) block) header
      (λ at ne. draft_elsewhere truth draft (block_at handle) at block ne)

  pub holds_still : Holds areas held truth (with_block draft (block_at handle) block)
  holds_still = record {
    same = h.same;
    chunked = chunked_still areas (with_draft truth draft) (with_draft truth (with_block draft (block_at handle) block)) handle before block h.chunked was (draft_here truth draft (block_at handle) block) header
        (λ at ne. draft_elsewhere truth draft (block_at handle) at block ne);
  }

  pub given_then : (other : ℕ) → WasGiven areas (with_draft truth draft) other → WasGiven areas (with_draft truth (with_block draft (block_at handle) block)) other
  given_then = given_still areas (with_draft truth draft) (with_draft truth (with_block draft (block_at handle) block)) handle before block h.chunked was (draft_here truth draft (block_at handle) block) header
      (λ at ne. draft_elsewhere truth draft (block_at handle) at block ne)
