-- A slot is taken under a truth: the chunks get one handle, which was never given out.
use Rattle.std.proofs.Common.{◌≡◌, ℕ, ◌+◌, ◌^◌, ◌%◌, ◌*◌, ◌<◌, ◌≤◌, arith, true, get_or, sym, ap, ◌∙◌, subst, refl, Some, None}
use Rattle.std.specs.Prelude.{if◌then◌else◌}
use Rattle.std.proofs.lemmas.Bool.{eq-eqb, ne_eqb}
use Rattle.std.proofs.lemmas.Bool.Decides.{nat_tests}
use Rattle.bx_layout.specs.declared.area.AreaBlock.{AreaBlock}
use Rattle.bx_layout.specs.declared.block.Block.{Block}
use Rattle.bx_layout.specs.Areas.{generation_in, is_free, taken_word}
use Rattle.bx_places.specs.Places.{block_area, block_slot}
use Rattle.bx_truth.specs.Chunks.{IsSlot, IsName, IsChunked, chunks_of, block_at, handle_of, word_at}
use Rattle.bx_truth.specs.Shown.{KeepsSlots}
use Rattle.bx_truth.specs.Slots.{TakesSlot}
use Rattle.bx_truth.specs.Stands.{WasGiven}
use Rattle.bx_truth.proofs.Named.{free_names_none}
use Rattle.bx_truth.proofs.SlotWords.{block_back, word_was}
use Rattle.bx_truth.proofs.Taking.{chunk_taken, taken_keeps}
use Rattle.bx_views.specs.Truths.{Truth}

-- the chunks get a handle, which named nothing and was never given out; all others stay
pub record Grows (areas : ℕ) (before after : Truth) (handle : ℕ) : Type 0 where
  pub block : Block
  pub gets : chunks_of areas after handle ≡ Some block
  pub fresh : chunks_of areas before handle ≡ None
  pub keeps : (other : ℕ) → (other ≡ handle → ⊥) → chunks_of areas after other ≡ chunks_of areas before other
  pub name : IsName areas handle
  pub never : WasGiven areas before handle → ⊥
  pub slots : KeepsSlots areas before after

pub still_given : (areas : ℕ) (before after : Truth) (handle : ℕ) → KeepsSlots areas before after → WasGiven areas before handle → WasGiven areas after handle
still_given areas before after handle keeps was = record { slot = was.slot; generation = let g = was.generation in let k = keeps.given (block_at handle) was.slot in omega (arith, g, k) }

small : (word : ℕ) → generation_in (taken_word word) < 2 ^ 32
small word = omega arith

next_generation : (word : ℕ) → is_free word ≡ true → generation_in (taken_word word) ≡ generation_in word + 1
next_generation word free = grind (arith, nat_tests, free)

low : (block generation : ℕ) → generation < 2 ^ 32 → handle_of block generation % 2 ^ 32 ≡ generation
low block generation fits = by (block_area block) (block_slot block)
  where
    by : (area slot : ℕ) → (area * 2 ^ 48 + slot * 2 ^ 32 + generation) % 2 ^ 32 ≡ generation
    by area slot = omega (arith, fits)

module _ (areas : ℕ) (few : areas ≤ 64) (before after : Truth) (block : ℕ) (slots : AreaBlock) (is_block : IsSlot areas block) (takes : TakesSlot before after block slots) (is : IsChunked areas before) where
  abbrev word : ℕ
  word = get_or slots.words (block_slot block) 0

  abbrev handle : ℕ
  handle = (after block).handle

  at_block : block_at (after block).handle ≡ block
  at_block = ap block_at takes.header ∙ block_back areas block (generation_in (taken_word (get_or slots.words (block_slot block) 0))) few is_block (small (get_or slots.words (block_slot block) 0))

  was : word_at before block ≡ get_or slots.words (block_slot block) 0
  was = word_was areas before after block slots (taken_word (get_or slots.words (block_slot block) 0)) is_block takes.sets

  generation_is : (after block).handle % 2 ^ 32 ≡ generation_in (get_or slots.words (block_slot block) 0) + 1
  generation_is = ap (λ (h : ℕ). h % 2 ^ 32) takes.header ∙ low block (generation_in (taken_word word)) (small word) ∙ next_generation word takes.free

  never_given : WasGiven areas before (after block).handle → ⊥
  never_given given =
      let g = given.generation in
      let here : generation_in (word_at before (block_at (after block).handle)) ≡ generation_in word = ap (λ (b : ℕ). generation_in (word_at before b)) at_block ∙ ap generation_in was in
      above (generation_in word) ((after block).handle % 2 ^ 32) (generation_in (word_at before (block_at (after block).handle))) generation_is here g
    where
      above : (n low there : ℕ) → low ≡ n + 1 → there ≡ n → low ≤ there → ⊥
      above n low there a b c = omega (arith, a, b, c)

  not_zero : (after block).handle ≡ 0 → ⊥
  not_zero zero = by (generation_in word) ((after block).handle) generation_is zero
    where
      by : (n h : ℕ) → h % 2 ^ 32 ≡ n + 1 → h ≡ 0 → ⊥
      by n h e z = omega (arith, e, z)

  pub grows : Grows areas before after (after block).handle
  grows = record {
    block = after block;
    gets = chunk_taken areas few before after block slots is_block takes (after block).handle ∙ ap (λ t. if t then Some (after block) else chunks_of areas before (after block).handle) (eq-eqb (after block).handle (after block).handle refl);
    fresh = free_names_none areas before block (after block).handle (ap is_free was ∙ takes.free) at_block;
    keeps = λ other apart. chunk_taken areas few before after block slots is_block takes other ∙ ap (λ t. if t then Some (after block) else chunks_of areas before other) (ne_eqb other (after block).handle apart);
    name = record { slot = subst (IsSlot areas) (sym at_block) is_block; some = not_zero };
    never = never_given;
    slots = taken_keeps areas few before after block slots is_block takes is;
  }
