-- What is told of a block that is torn, once slots are right.
use Rattle.std.proofs.Common.{◌≡◌, ℕ, ◌<◌, ◌≤◌, ◌⊎◌, ⊎_elim, arith, true, List, length, sym, ap, ◌∙◌, subst, Some}
use Rattle.std.specs.Prelude.{Contains, slice_index_or}
use Rattle.bx_audit_owners.specs.declared.holders.Holder.TheVariants.{Dead as OfDead}
use Rattle.bx_audit_owners.specs.Dead.{IsNoDeadOf}
use Rattle.bx_audit_owners.specs.Found.{IsFound}
use Rattle.bx_audit_owners.specs.Holding.{Holdings, IsHeld, IsTornSlot}
use Rattle.bx_audit_owners.specs.Whole.{IsWrongDead, IsWrongSlot}
use Rattle.bx_audit_owners.proofs.Holding.{one_there}
use Rattle.bx_audit_slots.specs.declared.slots.UsedSlot.{UsedSlot}
use Rattle.bx_audit_slots.specs.Numbers.{IsBlockOf, IsToldOf}
use Rattle.bx_audit_slots.specs.UsedSlots.{AreInOrder, AreUsed, IsUsedSlot}
use Rattle.bx_audit_slots.proofs.InUse.{in_block}
use Rattle.bx_tree_files.specs.declared.file.File.{File}
use Rattle.bx_truth.specs.Chunks.{block_at, chunks_of}
use Rattle.bx_views.specs.Truths.{Truth}

three : (i j : ℕ) → (i < j) ⊎ ((i ≡ j) ⊎ (j < i))
three i j = grind arith

-- of slots in order, the one with the lower block comes first
comes_first : (slots : List UsedSlot) (i j : ℕ) (a b : UsedSlot) → AreInOrder slots → i < length slots → j < length slots → slice_index_or slots i a ≡ a → slice_index_or slots j b ≡ b
    → block_at a.handle < block_at b.handle → i < j
comes_first slots i j a b rise in_i in_j is_a is_b less = ⊎_elim (λ before. before) (λ rest. absurd (⊎_elim same behind rest)) (three i j)
  where
    at_b : slice_index_or slots j a ≡ b
    at_b = one_there slots j a b in_j ∙ is_b

    same : i ≡ j → ⊥
    same e =
        let equal : block_at a.handle ≡ block_at b.handle = ap (λ (s : UsedSlot). block_at s.handle) (sym is_a ∙ ap (λ (n : ℕ). slice_index_or slots n a) e ∙ at_b) in
        omega (arith, equal, less)

    behind : j < i → ⊥
    behind after =
        let more : block_at (slice_index_or slots j a).handle < block_at (slice_index_or slots i a).handle = rise j i a after in_i in
        let here : block_at (slice_index_or slots j a).handle ≡ block_at b.handle = ap (λ (s : UsedSlot). block_at s.handle) at_b in
        let there : block_at (slice_index_or slots i a).handle ≡ block_at a.handle = ap (λ (s : UsedSlot). block_at s.handle) is_a in
        omega (arith, more, here, there, less)

module _ (areas : ℕ) (truth : Truth) (few : areas ≤ 64) (slots : List UsedSlot) (are : AreUsed areas truth slots) where
  -- a marked slot has no dead inode
  pub wrong_dead : (files : List File) (at found wanted : ℕ) → IsNoDeadOf (chunks_of areas truth) files slots wanted → IsToldOf areas (IsBlockOf truth) wanted at found → IsWrongDead areas truth at found wanted
  wrong_dead files at found wanted is told = record {
    holdings = is.holdings;
    files = files;
    is_found = is.found;
    block = itself.0;
    slot = is.slot;
    there = itself.1;
    marked = is.marked;
    before = earlier;
    wrong = is.wrong;
    told = told;
  }
    where
      itself : (block : ℕ) × IsUsedSlot areas truth block is.slot
      itself = are.each is.slot (is.place, is.there, is.is)

      earlier : (block : ℕ) (other : UsedSlot) → block < itself.0 → IsUsedSlot areas truth block other → other.dead ≡ true → is.holdings other.handle ≡ Some OfDead
      earlier block other less here dead =
          let o = are.all block here.there here.used in
          let same : o.0.handle ≡ other.handle = o.2.handle_is ∙ sym here.handle_is in
          let of_o = in_block areas truth few block o.0 o.2 in
          let of_slot = in_block areas truth few itself.0 is.slot itself.1 in
          let first = comes_first slots o.1.0 is.place o.0 is.slot are.rise o.1.1 is.there o.1.2 is.is (omega (arith, of_o, of_slot, less)) in
          ap is.holdings (sym same) ∙ is.before o.1.0 o.0 first o.1.2 (o.2.dead_is ∙ sym here.dead_is ∙ dead)

  pub wrong_slot : (holdings : Holdings) (files : List File) (slot : UsedSlot) (at found wanted : ℕ) → IsFound (chunks_of areas truth) holdings files → Contains slots slot
      → IsTornSlot slot at found wanted → (IsHeld holdings slot → ⊥) → IsWrongSlot areas truth at found wanted
  wrong_slot holdings files slot at found wanted is_found there tells wrong =
      let s = are.each slot there in
      record {
        holdings = holdings;
        files = files;
        is_found = is_found;
        slot = slot;
        there = subst (λ (n : ℕ). IsUsedSlot areas truth n slot) (sym (tells.at_is ∙ in_block areas truth few s.0 slot s.1)) s.1;
        wrong = wrong;
        tells = tells;
      }
