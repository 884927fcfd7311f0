-- What is read of the blocks of a volume, and of the tree that they stand for.
use Rattle.std.proofs.Common.{◌≡◌, ℕ, ◌<◌, ◌≤◌, ◌⊎◌, inl, inr, arith, Bool, true, false, [], sym, ◌∙◌, refl, Err}
use Rattle.std.proofs.lemmas.Bool.Decides.{nat_tests}
use Rattle.bx_audit.specs.Blocks.{IsTornBlock, error_of}
use Rattle.bx_audit_owners.specs.bx_audit_slots.specs.Told.{IsTold}
use Rattle.bx_audit_owners.specs.Whole.{IsTreeTorn}
use Rattle.bx_audit_pages.specs.declared.error.AuditError.{AuditError as TreeError}
use Rattle.bx_audit_pages.specs.declared.error.AuditError.TheVariants.{Torn as TornTree, Fault as TreeFault, OutOfMemory as OutOfTreeMemory}
use Rattle.bx_audit_pages.specs.Errors.{IfTornError, CountsError}
use Rattle.bx_disk.specs.declared.fault.RackError.{RackError}
use Rattle.bx_disk.specs.declared.fault.RackError.TheVariants.{Fault, OutOfMemory}
use Rattle.bx_homes.specs.Slots.{AreBlocks, HasBlock, StaysSo}
use Rattle.bx_homes.proofs.Kept.{are_still}
use Rattle.bx_layout.specs.declared.block.Block.{Block}
use Rattle.bx_overlay.specs.Refusals.{IsBreak, UnlessFault, audit_error}
use Rattle.bx_places.specs.Places.{IsBlock, is_block, block_area, block_slot}
use Rattle.bx_truth.specs.Chunks.{IsChunked}
use Rattle.bx_views.specs.Truths.{Truth}

-- ---- ends

pub break_of : (error : RackError) → IsBreak (audit_error error)
break_of Fault = inl refl
break_of OutOfMemory = inr refl

pub end_of : (areas : ℕ) (stands : ℕ → Block → Type 0) (truth : Truth) (Q : Type 0) (error : TreeError) → AreBlocks areas stands truth → IsChunked areas truth → IfTornError error (IsTreeTorn areas truth)
    → IfTornError error (λ at found wanted. Q) → IsBreak (error_of error) ⊎ (IsTornBlock areas stands (error_of error) × Q)
end_of areas stands truth Q (TornTree at found wanted) are chunked torn why =
    inr (inr record { at = at; found = found; wanted = wanted; error_is = refl; truth = truth; blocks = are; chunked = chunked; torn = torn }, why)
end_of areas stands truth Q TreeFault are chunked torn why = inl (inl refl)
end_of areas stands truth Q OutOfTreeMemory are chunked torn why = inl (inr refl)

-- what is torn by each truth is so by all
pub all_torn : (error : TreeError) (T Q : Truth → Type 0) → ((truth : Truth) → T truth → IfTornError error (λ at found wanted. Q truth)) → IfTornError error (λ at found wanted. (truth : Truth) → T truth → Q truth)
all_torn (TornTree at found wanted) T Q each = each
all_torn TreeFault T Q each = tt
all_torn OutOfTreeMemory T Q each = tt

pub counts_of : (A : Type 0) (error : TreeError) (before mid now : ℕ) → mid ≡ before → CountsError error mid now → UnlessFault {A = A} (Err (error_of error)) (now ≡ before)
counts_of A (TornTree at found wanted) before mid now same counts = counts ∙ same
counts_of A TreeFault before mid now same counts = tt
counts_of A OutOfTreeMemory before mid now same counts = counts ∙ same

-- ---- a truth with the blocks that are there

module _ (areas : ℕ) (stands : ℕ → Block → Type 0) (there : (at : ℕ) → IsBlock areas at → HasBlock stands at) where
  tested : (at : ℕ) → is_block areas at ≡ true → IsBlock areas at
  tested at is = record { area = grind (arith, nat_tests, is); slot = grind (arith, nat_tests, is) }

  abbrev pick : (at : ℕ) (t : Bool) → is_block areas at ≡ t → Block
  pick at true is = (there at (tested at is)).block
  pick at false is = record { handle = 0; kind = 0; payload = [] }

  true_at : (at : ℕ) → IsBlock areas at → is_block areas at ≡ true
  true_at at is = by is.area is.slot
    where
      by : block_area at < areas → block_slot at ≤ 960 → is_block areas at ≡ true
      by area slot = grind (arith, nat_tests, area, slot)

  picked : (at : ℕ) (t : Bool) (is : is_block areas at ≡ t) → IsBlock areas at → stands at (pick at t is)
  picked at true is block = (there at (tested at is)).is
  picked at false is block = let e : true ≡ false = sym (true_at at block) ∙ is in absurd cc

  pub a_truth : (truth : Truth) × AreBlocks areas stands truth
  a_truth = (λ at. pick at (is_block areas at) refl, λ at is. picked at (is_block areas at) refl is)

-- what stands is told, once the slots are right
pub is_told : (told now_told : Type 0) (areas : ℕ) (before now : ℕ → Block → Type 0) (truth : Truth) → told → (told → now_told) → (told → StaysSo before now) → AreBlocks areas before truth
    → IsChunked areas truth → IsTold now_told areas now truth
is_told told now_told areas before now truth tells keeps stays are chunked = record { told = keeps tells; blocks = are_still areas before now truth (stays tells) are; chunked = chunked }
