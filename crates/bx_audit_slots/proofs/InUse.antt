-- The slots in use, slot by slot.
use Rattle.std.proofs.Common.{◌≡◌, ℕ, zero, suc, ◌+◌, ◌*◌, ◌^◌, ◌<◌, ◌≤◌, ◌⊎◌, ⊎_elim, inl, inr, arith, Bool, true, false, List, [], ◌∷◌, ◌++◌, length, get_or, sym, ap, ◌∙◌, subst, refl}
use Rattle.std.specs.Prelude.{slice_index_or}
use Rattle.std.proofs.lemmas.List.Elements.{Contains-push, Contains-push_cases, Contains-append_left}
use Rattle.std.proofs.lemmas.List.Quantifiers.{all_pairs_push}
use Rattle.bx_audit_slots.specs.declared.slots.UsedSlot.{UsedSlot}
use Rattle.bx_audit_slots.specs.UsedSlots.{IsUsedSlot, AreUsedBelow, AreUsed, IsFreeMarked, IsHandleOf}
use Rattle.bx_places.specs.Handles.{number_of}
use Rattle.bx_layout.specs.declared.area.AreaBlock.{AreaBlock}
use Rattle.bx_layout.specs.Areas.{SpellsArea, in_use, generation_in, is_dead}
use Rattle.bx_places.specs.Places.{block_area, block_slot}
use Rattle.bx_truth.specs.Chunks.{IsChunked, IsSlot, block_at, own_block, word_in, dead_in, word_at, dead_at}
use Rattle.bx_truth.proofs.SlotWords.{block_back}
use Rattle.bx_truth.proofs.Words.{word_is, dead_is}
use Rattle.bx_views.specs.Truths.{Truth}

pub area_is : (area slot : ℕ) → slot < 960 → block_area (1024 * area + slot) ≡ area
area_is area slot less = omega (arith, less)

pub slot_is : (area slot : ℕ) → slot < 960 → block_slot (1024 * area + slot) ≡ slot
slot_is area slot less = omega (arith, less)

-- the block of a slot's handle
pub number_at : (area slot generation : ℕ) → slot < 960 → generation < 2 ^ 32 → block_at (number_of (record { area = area; slot = slot; generation = generation })) ≡ 1024 * area + slot
number_at area slot generation less fits = omega (arith, less, fits)

pub small : (word : ℕ) → generation_in word < 2 ^ 32
small word = omega arith

-- an element that is there is the same, whatever else would be
one_there : {X : Type 0} (xs : List X) (k : ℕ) (a b : X) → k < length xs → slice_index_or xs k a ≡ slice_index_or xs k b
one_there [] k a b less = absurd (omega (arith, less))
one_there (x ∷ xs) zero a b less = refl
one_there (x ∷ xs) (suc k) a b less = one_there xs k a b (omega (arith, less))

below_or : (n m : ℕ) → n < m + 1 → (n < m) ⊎ (n ≡ m)
below_or n m less = grind (arith, less)

module _ (areas : ℕ) (truth : Truth) (area slot : ℕ) (slots : AreaBlock) (in_areas : area < areas) (less : slot < 960) (spells : SpellsArea slots (truth (own_block area)).payload) where
  is_slot : IsSlot areas (1024 * area + slot)
  is_slot = record { area = omega (arith, in_areas, less); slot = omega (arith, less) }

  word : word_at truth (1024 * area + slot) ≡ get_or slots.words slot 0
  word = (λ i. word_in (truth (own_block (area_is area slot less i))).payload (slot_is area slot less i)) ∙ word_is slots (truth (own_block area)).payload slot spells less

  dead : dead_at truth (1024 * area + slot) ≡ is_dead slots slot
  dead = (λ i. dead_in (truth (own_block (area_is area slot less i))).payload (slot_is area slot less i)) ∙ dead_is slots (truth (own_block area)).payload slot spells less

  -- a slot that is in use is put behind the others
  pub push_used : (used : List UsedSlot) (new : UsedSlot) → in_use (get_or slots.words slot 0) ≡ true
      → new.handle ≡ number_of (record { area = area; slot = slot; generation = generation_in (get_or slots.words slot 0) }) → new.dead ≡ is_dead slots slot
      → AreUsedBelow areas truth (1024 * area + slot) used → AreUsedBelow areas truth (1024 * area + (slot + 1)) (used ++ new ∷ [])
  push_used used new in_use_here handle_is marked are = record {
    below = λ x there. ⊎_elim
        (λ before. let under = are.below x before in omega (arith, under))
        (λ same. let at : block_at x.handle ≡ 1024 * area + slot = ap (λ (s : UsedSlot). block_at s.handle) (sym same) ∙ new_at in omega (arith, at))
        (Contains-push_cases used new x there);
    rise = all_pairs_push (λ (a b : UsedSlot). block_at a.handle < block_at b.handle) used new are.rise
        (λ k d within. subst (λ (n : ℕ). block_at (get_or used k d).handle < n) (sym new_at) (are.below (get_or used k d) (k, within, one_there used k (get_or used k d) d within)));
    each = λ x there. ⊎_elim (λ before. are.each x before) (λ same. (1024 * area + slot, subst (IsUsedSlot areas truth (1024 * area + slot)) same here)) (Contains-push_cases used new x there);
    all = λ block below is in_use_there. ⊎_elim
        (λ before. let old = are.all block before is in_use_there in (old.0, Contains-append_left used (new ∷ []) old.0 old.1, old.2))
        (λ same. (new, Contains-push used new, subst (λ (n : ℕ). IsUsedSlot areas truth n new) (sym same) here))
        (below_or block (1024 * area + slot) (omega (arith, below)));
    unmarked = λ block below is unused. ⊎_elim
        (λ before. are.unmarked block before is unused)
        (λ same. let here_unused : in_use (word_at truth (1024 * area + slot)) ≡ false = ap (λ (n : ℕ). in_use (word_at truth n)) (sym same) ∙ unused in
        let e : true ≡ false = sym (ap in_use word ∙ in_use_here) ∙ here_unused in absurd cc)
        (below_or block (1024 * area + slot) (omega (arith, below)));
  }
    where
      new_at : block_at new.handle ≡ 1024 * area + slot
      new_at = ap block_at handle_is ∙ number_at area slot (generation_in (get_or slots.words slot 0)) less (small (get_or slots.words slot 0))

      here : IsUsedSlot areas truth (1024 * area + slot) new
      here = record {
        there = is_slot;
        used = ap in_use word ∙ in_use_here;
        handle_is = handle_is ∙ sym (λ i. area_is area slot less i * 2 ^ 48 + slot_is area slot less i * 2 ^ 32 + generation_in (word i));
        dead_is = marked ∙ sym dead;
      }

  -- a slot that isn't in use, and isn't marked, is passed over
  pub pass_unused : (used : List UsedSlot) → in_use (get_or slots.words slot 0) ≡ false → is_dead slots slot ≡ false
      → AreUsedBelow areas truth (1024 * area + slot) used → AreUsedBelow areas truth (1024 * area + (slot + 1)) used
  pass_unused used unused_here unmarked_here are = record {
    below = λ x there. let under = are.below x there in omega (arith, under);
    rise = are.rise;
    each = are.each;
    all = λ block below is in_use_there. ⊎_elim
        (λ before. are.all block before is in_use_there)
        (λ same. let here_used : in_use (word_at truth (1024 * area + slot)) ≡ true = ap (λ (n : ℕ). in_use (word_at truth n)) (sym same) ∙ in_use_there in
        let e : false ≡ true = sym (ap in_use word ∙ unused_here) ∙ here_used in absurd cc)
        (below_or block (1024 * area + slot) (omega (arith, below)));
    unmarked = λ block below is unused. ⊎_elim
        (λ before. are.unmarked block before is unused)
        (λ same. ap (dead_at truth) same ∙ dead ∙ unmarked_here)
        (below_or block (1024 * area + slot) (omega (arith, below)));
  }

  -- one that is marked
  pub free_marked : (wanted : ℕ) → in_use (get_or slots.words slot 0) ≡ false → is_dead slots slot ≡ true
      → wanted ≡ number_of (record { area = area; slot = slot; generation = generation_in (get_or slots.words slot 0) }) → IsFreeMarked areas truth (1024 * area + slot) 0 wanted
  free_marked wanted unused_here marked_here is = record {
    there = is_slot;
    unused = ap in_use word ∙ unused_here;
    marked = dead ∙ marked_here;
    found_is = refl;
    wanted_is = is ∙ sym (λ i. area_is area slot less i * 2 ^ 48 + slot_is area slot less i * 2 ^ 32 + generation_in (word i));
  }

-- none before the first slot
pub none_below : (areas : ℕ) (truth : Truth) → AreUsedBelow areas truth (1024 * 0) []
none_below areas truth = record {
  below = λ slot there. absurd (omega (arith, there.1));
  rise = λ i j d less within. absurd (omega (arith, within));
  each = λ slot there. absurd (omega (arith, there.1));
  all = λ block below is. absurd (omega (arith, below));
  unmarked = λ block below is. absurd (omega (arith, below));
}

-- behind an area's last slot there are none
pub area_done : (areas : ℕ) (truth : Truth) (area : ℕ) (used : List UsedSlot) → AreUsedBelow areas truth (1024 * area + 960) used → AreUsedBelow areas truth (1024 * (area + 1)) used
area_done areas truth area used are = record {
  below = λ slot there. let under = are.below slot there in omega (arith, under);
  rise = are.rise;
  each = are.each;
  all = λ block below is. are.all block (inside block below is.slot) is;
  unmarked = λ block below is. are.unmarked block (inside block below is.slot) is;
}
  where
    inside : (block : ℕ) → block < 1024 * (area + 1) → block_slot block < 960 → block < 1024 * area + 960
    inside block below slot = omega (arith, below, slot)

-- all of them, once all areas are done
pub all_used : (areas : ℕ) (truth : Truth) (bound : ℕ) (used : List UsedSlot) → areas ≤ bound → AreUsedBelow areas truth (1024 * bound) used → AreUsed areas truth used
all_used areas truth bound used le are = record {
  rise = are.rise;
  each = are.each;
  all = λ block is. are.all block (inside block is.area) is;
  unmarked = λ block is. are.unmarked block (inside block is.area) is;
}
  where
    inside : (block : ℕ) → block_area block < areas → block < 1024 * bound
    inside block area = omega (arith, area, le)

-- ---- the handles of slots in use

module _ (areas : ℕ) (truth : Truth) (few : areas ≤ 64) where
  -- the handle of a slot is of its block
  pub in_block : (block : ℕ) (slot : UsedSlot) → IsUsedSlot areas truth block slot → block_at slot.handle ≡ block
  in_block block slot is = ap block_at is.handle_is ∙ block_back areas block (generation_in (word_at truth block)) few is.there (small (word_at truth block))

  -- where slots are right, the header of a block names the handle of its slot, or none where that isn't in use
  pub header_is : (slots : List UsedSlot) → AreUsed areas truth slots → IsChunked areas truth → (block handle : ℕ) → IsSlot areas block → IsHandleOf slots block handle → handle ≡ (truth block).handle
  header_is slots are chunked block handle is (inl (slot, there, at, same)) =
      let s = are.each slot there in
      let here : s.0 ≡ block = sym (in_block s.0 slot s.1) ∙ at in
      sym same ∙ s.1.handle_is ∙ sym (chunked.used s.0 s.1.there s.1.used) ∙ ap (λ (n : ℕ). (truth n).handle) here
  header_is slots are chunked block handle is (inr (none, is_zero)) = by (in_use (word_at truth block)) refl
    where
      by : (t : Bool) → in_use (word_at truth block) ≡ t → handle ≡ (truth block).handle
      by true used = let s = are.all block is used in absurd (none s.0 s.1 (in_block block s.0 s.2))
      by false unused = is_zero ∙ sym (chunked.unused block is unused)
