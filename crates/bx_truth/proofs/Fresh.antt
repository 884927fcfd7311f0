-- The handle of a slot that is taken is new.
use Rattle.std.proofs.Common.{◌≡◌, ℕ, ◌+◌, ◌^◌, ◌%◌, ◌*◌, ◌<◌, ◌≤◌, arith, true, false, get_or, sym, ap, ◌∙◌, subst, refl, Option, Some, None}
use Rattle.std.specs.Prelude.{Contains}
use Rattle.std.proofs.lemmas.Bool.Decides.{nat_tests}
use Rattle.bx_views.specs.bx_layout.specs.declared.area.AreaBlock.{AreaBlock}
use Rattle.bx_views.specs.bx_layout.specs.Areas.{in_use, generation_in, is_free, taken_word}
use Rattle.bx_places.specs.Places.{block_area, block_slot}
use Rattle.bx_model.specs.bx_tree_files.specs.declared.file.File.{File}
use Rattle.bx_model.specs.declared.tree.Tree.{Tree}
use Rattle.bx_model.specs.bx_tree_files.specs.Files.{file_at}
use Rattle.bx_truth.specs.Chunks.{IsSlot, chunks_of, block_at, handle_of, own_block, word_at}
use Rattle.bx_truth.specs.Stands.{StandsFor}
use Rattle.bx_truth.specs.Slots.{TakesSlot}
use Rattle.bx_views.specs.Truths.{Truth}
use Rattle.bx_truth.proofs.Same.{chunk_is}
use Rattle.bx_truth.proofs.SlotWords.{block_back}
use Rattle.bx_truth.proofs.Words.{word_is}
use Rattle.bx_truth.proofs.Put.{some_there}

small : (word : ℕ) → generation_in (taken_word word) < 2 ^ 32
small word = omega arith

next_generation : (word : ℕ) → is_free word ≡ true → generation_in (taken_word word) ≡ generation_in word + 1
next_generation word free = grind (arith, nat_tests, free)

free_unused : (word : ℕ) → is_free word ≡ true → in_use word ≡ true → ⊥
free_unused word free used = let e : true ≡ false = sym used ∙ unused in absurd cc
  where
    unused : in_use word ≡ false
    unused = grind (arith, nat_tests, free)

low : (block generation : ℕ) → generation < 2 ^ 32 → handle_of block generation % 2 ^ 32 ≡ generation
low block generation fits = by (block_area block) (block_slot block)
  where
    by : (area slot : ℕ) → (area * 2 ^ 48 + slot * 2 ^ 32 + generation) % 2 ^ 32 ≡ generation
    by area slot = omega (arith, fits)

module _ (areas : ℕ) (few : areas ≤ 64) (truth now : Truth) (tree : Tree) (block : ℕ) (slots : AreaBlock) (is_block : IsSlot areas block) (takes : TakesSlot truth now block slots) (is : StandsFor areas truth tree) where
  word_was : word_at truth block ≡ get_or slots.words (block_slot block) 0
  word_was = word_is slots (truth (own_block (block_area block))).payload (block_slot block) takes.sets.spells is_block.slot

  at_block : block_at (now block).handle ≡ block
  at_block = ap block_at takes.header ∙ block_back areas block (generation_in (taken_word (get_or slots.words (block_slot block) 0))) few is_block (small (get_or slots.words (block_slot block) 0))

  pub never_given : Contains tree.given (now block).handle → ⊥
  never_given given = above (get_or slots.words (block_slot block) 0) takes.free least
    where
      least : generation_in (taken_word (get_or slots.words (block_slot block) 0)) ≤ generation_in (get_or slots.words (block_slot block) 0)
      least =
          let w = is.given (now block).handle given in
          let g = w.generation in
          let e : (now block).handle % 2 ^ 32 ≡ generation_in (taken_word (get_or slots.words (block_slot block) 0)) =
          ap (λ (h : ℕ). h % 2 ^ 32) takes.header ∙ low block (generation_in (taken_word (get_or slots.words (block_slot block) 0))) (small (get_or slots.words (block_slot block) 0)) in
          let f : generation_in (word_at truth (block_at (now block).handle)) ≡ generation_in (get_or slots.words (block_slot block) 0) =
          ap (λ (b : ℕ). generation_in (word_at truth b)) at_block ∙ ap generation_in word_was in
          subst (λ (n : ℕ). n ≤ generation_in (get_or slots.words (block_slot block) 0)) e (subst (λ (n : ℕ). (now block).handle % 2 ^ 32 ≤ n) f g)

      above : (word : ℕ) → is_free word ≡ true → generation_in (taken_word word) ≤ generation_in word → ⊥
      above word free le = let e = next_generation word free in omega (arith, e, le)

  pub none_there : (h : ℕ) → block_at h ≡ block → file_at tree.files h ≡ None
  none_there h at = by (file_at tree.files h) refl
    where
      by : (o : Option File) → file_at tree.files h ≡ o → file_at tree.files h ≡ None
      by None none = none
      by (Some file) there =
          let c = some_there (chunks_of areas truth h) (is.are_files.all h file there).1 in
          let x = chunk_is areas truth h c.0 c.1 in
          absurd (free_unused (get_or slots.words (block_slot block) 0) takes.free (sym (ap in_use word_was) ∙ ap (λ (b : ℕ). in_use (word_at truth b)) (sym at) ∙ x.used))
