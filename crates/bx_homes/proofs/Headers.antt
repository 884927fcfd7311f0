-- What the header of a slot's block names.
use Rattle.std.proofs.Common.{◌≡◌, ℕ, ◌+◌, ◌*◌, ◌^◌, ◌<◌, arith, Bool, true, false, get_or, sym, ap, ◌∙◌, refl, subst, ⊎_elim}
use Rattle.std.specs.Prelude.{nat_eq, if◌then◌else◌}
use Rattle.std.proofs.lemmas.Bool.Decides.{nat_tests}
use Rattle.bx_places.specs.Handles.{number_of, own_handle}
use Rattle.bx_layout.specs.declared.area.AreaBlock.{AreaBlock}
use Rattle.bx_layout.specs.Areas.{SpellsArea, in_use, generation_in}
use Rattle.bx_places.specs.Places.{IsBlock, block_area, block_slot}
use Rattle.bx_volume.specs.bx_truth.specs.Chunks.{IsChunked, IsSlot, handle_of, own_block, word_in, word_at}
use Rattle.bx_volume.specs.bx_views.specs.Truths.{Truth}
use Rattle.bx_volume.specs.bx_truth.proofs.Words.{word_is}
use Rattle.bx_homes.specs.Slots.{HasHeader, IsAreaChunked, IsSlotFault, IsFirstFault, wanted_handle}

-- the block of a slot is one of the volume
pub is_slot_block : (areas area slot : ℕ) → area < areas → slot < 960 → IsBlock areas (1024 * area + slot)
is_slot_block areas area slot there less = record { area = omega (arith, there, less); slot = omega (arith, there, less) }

area_is : (area slot : ℕ) → slot < 960 → block_area (1024 * area + slot) ≡ area
area_is area slot less = omega (arith, less)

slot_is : (area slot : ℕ) → slot < 960 → block_slot (1024 * area + slot) ≡ slot
slot_is area slot less = omega (arith, less)

module _ (truth : Truth) (area slot : ℕ) (slots : AreaBlock) (wanted : ℕ) (less : slot < 960) (spells : SpellsArea slots (truth (own_block area)).payload)
    (used : in_use (get_or slots.words slot 0) ≡ true → wanted ≡ area * 2 ^ 48 + slot * 2 ^ 32 + generation_in (get_or slots.words slot 0))
    (unused : in_use (get_or slots.words slot 0) ≡ false → wanted ≡ 0) where
  word : word_at truth (1024 * area + slot) ≡ get_or slots.words slot 0
  word = (λ i. word_in (truth (own_block (area_is area slot less i))).payload (slot_is area slot less i)) ∙ word_is slots (truth (own_block area)).payload slot spells less

  name : handle_of (1024 * area + slot) (generation_in (word_at truth (1024 * area + slot))) ≡ area * 2 ^ 48 + slot * 2 ^ 32 + generation_in (get_or slots.words slot 0)
  name = λ i. area_is area slot less i * 2 ^ 48 + slot_is area slot less i * 2 ^ 32 + generation_in (word i)

  pub has : (truth (1024 * area + slot)).handle ≡ wanted → HasHeader truth (1024 * area + slot)
  has same = record {
    used = λ yes. same ∙ used (sym (ap in_use word) ∙ yes) ∙ sym name;
    unused = λ no. same ∙ unused (sym (ap in_use word) ∙ no);
  }

  pub has_wanted : HasHeader truth (1024 * area + slot) → (truth (1024 * area + slot)).handle ≡ wanted
  has_wanted header = by (in_use (get_or slots.words slot 0)) refl
    where
      by : (t : Bool) → in_use (get_or slots.words slot 0) ≡ t → (truth (1024 * area + slot)).handle ≡ wanted
      by true is = header.used (ap in_use word ∙ is) ∙ name ∙ sym (used is)
      by false is = header.unused (ap in_use word ∙ is) ∙ sym (unused is)

  pub is_wanted : wanted ≡ wanted_handle truth (1024 * area + slot)
  is_wanted = by (in_use (get_or slots.words slot 0)) refl
    where
      no_own : nat_eq (block_slot (1024 * area + slot)) 960 ≡ false
      no_own = let is = slot_is area slot less in grind (arith, nat_tests, is, less)

      rest : (if in_use (word_at truth (1024 * area + slot)) then handle_of (1024 * area + slot) (generation_in (word_at truth (1024 * area + slot))) else 0) ≡ wanted_handle truth (1024 * area + slot)
      rest = sym (ap (λ (t : Bool). if t then number_of (own_handle (block_area (1024 * area + slot))) else (if in_use (word_at truth (1024 * area + slot)) then handle_of (1024 * area + slot) (generation_in (word_at truth (1024 * area + slot))) else 0)) no_own)

      by : (t : Bool) → in_use (get_or slots.words slot 0) ≡ t → wanted ≡ wanted_handle truth (1024 * area + slot)
      by true is = used is ∙ sym name ∙ sym (ap (λ (t : Bool). if t then handle_of (1024 * area + slot) (generation_in (word_at truth (1024 * area + slot))) else 0) (ap in_use word ∙ is)) ∙ rest
      by false is = unused is ∙ sym (ap (λ (t : Bool). if t then handle_of (1024 * area + slot) (generation_in (word_at truth (1024 * area + slot))) else 0) (ap in_use word ∙ is)) ∙ rest

-- areas that are right, one by one, are so together
pub are_chunked : (areas : ℕ) (truth : Truth) → ((area : ℕ) → area < areas → IsAreaChunked truth area) → IsChunked areas truth
are_chunked areas truth each = record {
  own = λ area less. (each area less).own;
  used = λ block is. (header block is).used;
  unused = λ block is. (header block is).unused;
}
  where
    there : (block : ℕ) → 1024 * block_area block + block_slot block ≡ block
    there block = omega arith

    header : (block : ℕ) → IsSlot areas block → HasHeader truth block
    header block is = subst (HasHeader truth) (there block) ((each (block_area block) is.area).slots (block_slot block) is.slot)

-- where there is a first wrong block, they aren't
pub is_wrong : (areas : ℕ) (truth : Truth) (at : ℕ) → IsFirstFault areas truth at → IsChunked areas truth → ⊥
is_wrong areas truth at first right = ⊎_elim (λ own. own.wrong (right.own first.area first.there)) (λ fault. slot fault) first.fault
  where
    slot : IsSlotFault truth first.area at → ⊥
    slot fault =
        let is : IsSlot areas (1024 * first.area + fault.slot) = record { area = omega (arith, first.there, fault.there); slot = omega (arith, fault.there) } in
        fault.wrong record { used = right.used (1024 * first.area + fault.slot) is; unused = right.unused (1024 * first.area + fault.slot) is }
