-- What the own blocks of areas say of slots.
use Rattle.std.proofs.Common.{◌≡◌, ℕ, ◌<◌, ◌≤◌, ◌⊎◌, ⊎_elim, inl, inr, arith, List, sym, ap, ◌∙◌, subst, Some, None}
use Rattle.std.specs.Prelude.{◌≢◌, slice_get}
use Rattle.std.proofs.lemmas.Option.{slice_get_cases, slice_get_within}
use Rattle.bx_audit_slots.specs.declared.own_blocks.OwnBlock.{OwnBlock}
use Rattle.bx_audit_slots.specs.declared.own_blocks.OwnBlock.TheVariants.{Slots, Wrong}
use Rattle.bx_audit_owners.specs.Holding.{Holdings}
use Rattle.bx_audit_slots.specs.OwnBlocks.{AreOwn}
use Rattle.bx_audit_owners.specs.Words.{AreWorded, HasWord, IsFirstTornIn, IsFirstWrongAt, IsInOwn, IsRightOwn, IsTornIn, IsTornOwn, IsWrongAt, IsWrongOwn, IsWrongWord}
use Rattle.bx_audit_pages.specs.Shown.{IsOfSlot}
use Rattle.bx_places.specs.Handles.{parts_of}
use Rattle.bx_homes.specs.Slots.{HasHandle}
use Rattle.bx_layout.specs.declared.block.Block.{Block}
use Rattle.bx_layout.specs.Areas.{SpellsArea, generation_in, in_use}
use Rattle.bx_truth.specs.Chunks.{own_block}
use Rattle.bx_truth.proofs.Words.{dead_is, word_is}

below_or : (n m : ℕ) → (n < m) ⊎ (m ≤ n)
below_or n m = grind arith

module _ (areas : ℕ) (stands : ℕ → Block → Type 0) (one : (at : ℕ) (a b : Block) → stands at a → stands at b → a ≡ b) (owns : List OwnBlock) (are : AreOwn stands areas owns) where
  inside : (area : ℕ) (own : OwnBlock) → slice_get owns area ≡ Some own → area < areas
  inside area own there = subst (λ (n : ℕ). area < n) are.count (slice_get_within owns area own there)

  -- a slot that is in use by an own block has its word
  has_word : (handle : ℕ) → IsInOwn owns handle → HasWord areas stands handle
  has_word handle held = by held.own held.there held.is
    where
      by : (own : OwnBlock) → slice_get owns (parts_of handle).area ≡ Some own → IsRightOwn own handle → HasWord areas stands handle
      by (Slots slots) there is =
          let t = are.tells (parts_of handle).area (Slots slots) there in
          record {
            slot = (inside (parts_of handle).area (Slots slots) there, held.slot);
            own = t.0;
            there = t.1;
            is = t.2;
            used = ap in_use (word_is slots t.0.payload (parts_of handle).slot t.3 held.slot) ∙ is.used;
            generation = ap generation_in (word_is slots t.0.payload (parts_of handle).slot t.3 held.slot) ∙ is.generation;
            unmarked = dead_is slots t.0.payload (parts_of handle).slot t.3 held.slot ∙ is.unmarked;
          }
      by (Wrong found) there is = absurd is

  module _ (handle at found wanted : ℕ) (torn : IsTornIn owns handle at found wanted) where
    -- by an own block that isn't as the slot asks
    no_word : (own : OwnBlock) → slice_get owns (parts_of handle).area ≡ Some own → IsTornOwn own handle at found wanted → HasWord areas stands handle → ⊥
    no_word (Slots slots) there is has =
        let t = are.tells (parts_of handle).area (Slots slots) there in
        let spells : SpellsArea slots has.own.payload = subst (λ (b : Block). SpellsArea slots b.payload) (one (own_block (parts_of handle).area) t.0 has.own t.1 has.there) t.3 in
        is.wrong record {
          used = ap in_use (sym (word_is slots has.own.payload (parts_of handle).slot spells has.slot.1)) ∙ has.used;
          generation = ap generation_in (sym (word_is slots has.own.payload (parts_of handle).slot spells has.slot.1)) ∙ has.generation;
          unmarked = sym (dead_is slots has.own.payload (parts_of handle).slot spells has.slot.1) ∙ has.unmarked;
        }
    no_word (Wrong header) there is has = let t = are.tells (parts_of handle).area (Wrong header) there in t.1 has.own has.there has.is

    told_own : (own : OwnBlock) → slice_get owns (parts_of handle).area ≡ Some own → IsTornOwn own handle at found wanted
        → IsWrongOwn stands (parts_of handle).area at found wanted ⊎ IsWrongWord stands handle at found wanted
    told_own (Slots slots) there is =
        let t = are.tells (parts_of handle).area (Slots slots) there in
        inr record { at_is = is.at_is; found_is = is.found_is; wanted_is = is.wanted_is; own = t.0; there = t.1; is = t.2 }
    told_own (Wrong header) there is =
        let t = are.tells (parts_of handle).area (Wrong header) there in
        inl record {
          at_is = is.0;
          found_is = subst (λ (n : ℕ). HasHandle stands n found) (sym is.0) (subst (HasHandle stands (own_block (parts_of handle).area)) (sym is.1) t.0);
          wanted_is = is.2;
          wrong = λ own stood. t.1 own (subst (λ (n : ℕ). stands n own) is.0 stood);
        }

    wrong_word : HasWord areas stands handle → ⊥
    wrong_word has = ⊎_elim
        (λ some. no_word some.0 some.2 (torn.there some.0 has.slot.1 some.2) has)
        (λ none. let count = are.count in let area = has.slot.0 in absurd (omega (arith, count, area, none.0)))
        (slice_get_cases owns (parts_of handle).area).1

    told : IsOfSlot areas handle → IsWrongOwn stands (parts_of handle).area at found wanted ⊎ IsWrongWord stands handle at found wanted
    told of = ⊎_elim
        (λ some. told_own some.0 some.2 (torn.there some.0 of.1 some.2))
        (λ none. let count = are.count in let area = of.0 in absurd (omega (arith, count, area, none.0)))
        (slice_get_cases owns (parts_of handle).area).1

    told_none : (IsOfSlot areas handle → ⊥) → (at ≡ 0) × (found ≡ handle) × (wanted ≡ handle)
    told_none never = ⊎_elim
        (λ less. ⊎_elim
        (λ some. absurd (never (inside (parts_of handle).area some.0 some.2, less)))
        (λ none. torn.none none.1)
        (slice_get_cases owns (parts_of handle).area).1)
        (λ more. torn.no_slot more)
        (below_or (parts_of handle).slot 960)

    wrong_at : IsWrongAt areas stands handle at found wanted
    wrong_at = record { wrong = wrong_word; slot = told; no_slot = told_none }

  pub all_worded : (holdings : Holdings) → ((handle : ℕ) → holdings handle ≢ None → IsInOwn owns handle) → AreWorded areas stands holdings
  all_worded holdings each = λ handle held. has_word handle (each handle held)

  pub first_wrong : (holdings : Holdings) (at found wanted : ℕ) → IsFirstTornIn owns holdings at found wanted → IsFirstWrongAt areas stands holdings at found wanted
  first_wrong holdings at found wanted first = record {
    handle = first.handle;
    held = first.held;
    wrong = wrong_at first.handle at found wanted first.torn;
    first = λ other held less. has_word other (first.first other held less);
  }
