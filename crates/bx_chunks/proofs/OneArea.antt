-- A payload is the slots of one area at most, and what holds of them.
use Rattle.std.proofs.Common.{◌≡◌, ℕ, ◌+◌, ◌<◌, inl, false, Bool, true, List, [], ◌∷◌, length, get_or, refl, sym, subst, ◌∙◌, arith, suc, cond}
use Rattle.std.specs.Prelude.{count_by, slice_index}
use Rattle.std.proofs.lemmas.List.Sums.{sum_by-cons}
use Rattle.bx_base.proofs.Whole.{padded_again}
use Rattle.bx_layout.specs.declared.area.AreaBlock.{AreaBlock}
use Rattle.bx_layout.specs.declared.block.Block.{Block}
use Rattle.bx_layout.specs.Areas.{SpellsArea, is_free}
use Rattle.bx_layout.proofs.AreaFields.{area_field}
use Rattle.bx_layout.proofs.Payloads.{area_same}
use Rattle.bx_chunks.specs.Areas.{HasNoFree, HasSlots}
use Rattle.bx_chunks.specs.Counting.{HasFreeCount}

pub one_area : (a b : AreaBlock) (payload : List ℕ) → SpellsArea a payload → SpellsArea b payload → a ≡ b
one_area a b payload s t = (area_same payload _ a b (padded_again area_field 4096 payload a s.parts s.is) t).0

pub none_free : (area : ℕ) (block : Block) (slots : AreaBlock) → HasSlots area slots block → ((slot : ℕ) → slot < 960 → is_free (slice_index slots.words slot) ≡ false) → HasNoFree area block
none_free area block slots has none other also slot less =
    subst (λ (s : AreaBlock). is_free (slice_index s.words slot) ≡ false) (one_area slots other block.payload has.spells also.spells) (none slot less)

-- none of a list's words is free
no_count : (words : List ℕ) → ((i : ℕ) → i < length words → is_free (get_or words i 0) ≡ false) → count_by is_free words ≡ 0
no_count [] none = refl
no_count (word ∷ words) none =
    sum_by-cons (λ (w : ℕ). cond (is_free w) 1 0) word words
    ∙ by (is_free word) (none 0 (omega arith)) (no_count words (λ i less. none (suc i) (omega (arith, less))))
  where
    by : (b : Bool) → b ≡ false → count_by is_free words ≡ 0 → cond b 1 0 + count_by is_free words ≡ 0
    by false e none = omega (arith, none)
    by true e none = absurd cc

pub count_zero : (area : ℕ) (block : Block) (slots : AreaBlock) → HasSlots area slots block → ((slot : ℕ) → slot < 960 → is_free (slice_index slots.words slot) ≡ false) → HasFreeCount area block 0
count_zero area block slots has none = inl (slots, has, sym (no_count slots.words (λ i less. none i (omega (arith, less, has.spells.is.words)))))
