-- Chunks by the headers of blocks, and what the walk from the root found of them.
use Rattle.std.proofs.Common.{◌≡◌, ℕ, ◌<◌, ◌≤◌, arith, Bool, true, false, sym, ap, ◌∙◌, subst, refl, Some, None}
use Rattle.std.specs.Prelude.{◌≢◌, ◌&&◌, ◌==◌, nat_lt, if◌then◌else◌}
use Rattle.std.proofs.lemmas.Bool.Decides.{nat_tests}
use Rattle.bx_audit_owners.specs.declared.walks.Walked.{Walked}
use Rattle.bx_audit_owners.specs.Holding.{holdings_of}
use Rattle.bx_audit_owners.specs.Walks.{IsWalked, IsWalkedOn}
use Rattle.bx_audit_owners.proofs.Wholes.{named_chunk, root_chunk, shows_at}
use Rattle.bx_audit_slots.specs.Told.{IsTold}
use Rattle.bx_audit_slots.proofs.Numbers.{slot_of}
use Rattle.bx_audit_pages.specs.Shown.{IsOfSlot, NamesBlock, Shows}
use Rattle.bx_places.specs.Handles.{parts_of}
use Rattle.bx_layout.specs.declared.block.Block.{Block}
use Rattle.bx_model.specs.Opening.{root_handle}
use Rattle.bx_truth.specs.Chunks.{block_at, chunks_of}
use Rattle.bx_truth.specs.PageTrees.{Chunks}
use Rattle.bx_truth.proofs.Cases.{eq_true}
use Rattle.bx_truth.proofs.Same.{slot_block}
use Rattle.bx_views.specs.Truths.{Truth}

some_same : {X : Type 0} (x y : X) → Some x ≡ Some y → x ≡ y
some_same x y e = cc

-- four tests
all_four : (a b c d : Bool) → (a && (b && (c && d))) ≡ true → (a ≡ true) × (b ≡ true) × (c ≡ true) × (d ≡ true)
all_four true true true true is = (refl, refl, refl, refl)
all_four true true true false is = absurd cc
all_four true true false d is = absurd cc
all_four true false c d is = absurd cc
all_four false b c d is = absurd cc

four : (a b c d : Bool) → a ≡ true → b ≡ true → c ≡ true → d ≡ true → (a && (b && (c && d))) ≡ true
four a b c d is_a is_b is_c is_d = cc

less_true : (n m : ℕ) → n < m → nat_lt n m ≡ true
less_true n m less = grind (arith, nat_tests, less)

is_less : (n m : ℕ) → nat_lt n m ≡ true → n < m
is_less n m is = grind (arith, nat_tests, is)

is_same : (n m : ℕ) → (n == m) ≡ true → n ≡ m
is_same n m is = grind (arith, nat_tests, is)

module _ (areas : ℕ) (truth : Truth) (few : areas ≤ 64) (is_told : Type 0) (stands : ℕ → Block → Type 0) (told : IsTold is_told areas stands truth)
    (one : (at : ℕ) (x y : Block) → is_told → stands at x → stands at y → x ≡ y) where
  abbrev is_headed : ℕ → Bool
  is_headed handle = nat_lt 0 handle && (nat_lt (parts_of handle).area areas && (nat_lt (parts_of handle).slot 960 && ((truth (block_at handle)).handle == handle)))

  abbrev headed : Chunks
  headed handle = if is_headed handle then Some (truth (block_at handle)) else None

  each : (handle : ℕ) (block : Block) → headed handle ≡ Some block → NamesBlock areas stands handle block
  each handle block some = by (is_headed handle) refl some
    where
      by : (t : Bool) → is_headed handle ≡ t → (if t then Some (truth (block_at handle)) else None) ≡ Some block → NamesBlock areas stands handle block
      by false is there = absurd cc
      by true is there =
          let p = all_four (nat_lt 0 handle) (nat_lt (parts_of handle).area areas) (nat_lt (parts_of handle).slot 960) ((truth (block_at handle)).handle == handle) is in
          let above = is_less 0 handle p.0 in
          let same = some_same (truth (block_at handle)) block there in
          let of : IsOfSlot areas handle = (is_less (parts_of handle).area areas p.1, is_less (parts_of handle).slot 960 p.2) in
          record {
            slot = of;
            some = λ zero. absurd (omega (arith, above, zero));
            there = subst (stands (block_at handle)) same (told.blocks (block_at handle) (slot_block areas (block_at handle) (slot_of areas handle of)));
            header = ap (λ (b : Block). b.handle) (sym same) ∙ is_same (truth (block_at handle)).handle handle p.3;
          }

  all : (handle : ℕ) (block : Block) → NamesBlock areas stands handle block → headed handle ≡ Some block
  all handle block names =
      let same = one (block_at handle) (truth (block_at handle)) block told.told (told.blocks (block_at handle) (slot_block areas (block_at handle) (slot_of areas handle names.slot))) names.there in
      let some = names.some in
      ap (λ (t : Bool). if t then Some (truth (block_at handle)) else None)
      (four (nat_lt 0 handle) (nat_lt (parts_of handle).area areas) (nat_lt (parts_of handle).slot 960) ((truth (block_at handle)).handle == handle) (above handle some) (less_true (parts_of handle).area areas names.slot.0)
      (less_true (parts_of handle).slot 960 names.slot.1) (eq_true (truth (block_at handle)).handle handle (ap (λ (b : Block). b.handle) same ∙ names.header)))
      ∙ ap Some same
    where
      above : (n : ℕ) → n ≢ 0 → nat_lt 0 n ≡ true
      above n some = grind (arith, nat_tests, some)

  shows : Shows is_told areas stands headed
  shows = record { told = told.told; each = each; all = all; none = refl }

  -- what is found of them is found of the chunks of the truth
  pub walked_there : (walked : Walked) → IsWalkedOn is_told areas stands walked → IsWalked (chunks_of areas truth) (holdings_of walked.holders) walked.tree.files
  walked_there walked is_walked =
      let root = root_chunk areas truth few headed (holdings_of walked.holders) walked.tree.files (is_walked headed shows) in
      let here = named_chunk areas truth few is_told stands told one root_handle root.0 (each root_handle root.0 root.1) in
      is_walked (chunks_of areas truth) (shows_at areas truth few is_told stands root.0 told one here)
