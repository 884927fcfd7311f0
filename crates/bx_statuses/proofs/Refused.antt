-- How a check ends, by why it stopped short.
use Rattle.std.proofs.Common.{◌≡◌, ◌≢◌, ℕ, ◌⊎◌, inl, inr, List, [], ◌∷◌, refl, arith}
use Rattle.bx_rack_commands.specs.bx_audit.specs.declared.listing.Listing.{Listing}
use Rattle.bx_base.specs.Faults.{Rose}
use Rattle.bx_disk.specs.Disks.{Disks}
use Rattle.bx_model.specs.declared.tree.Tree.{Tree}
use Rattle.bx_rack_commands.specs.bx_rack_audit.proofs.Telling.{alone_of}
use Rattle.bx_rack_commands.specs.bx_rack_audit.specs.Alone.{IsListedAlone, StandAlone}
use Rattle.bx_rack_commands.specs.Checks.{AreRefused, BreaksOff, HasCause, IsPart, IsRightly, LeavesOutput}
use Rattle.bx_rack_commands.specs.declared.failure.Failure.{Failure}
use Rattle.bx_rack_commands.specs.declared.failure.Failure.TheVariants.{WriteFault, DiskFault, Refused, OutOfMemory}
use Rattle.bx_rack_commands.specs.declared.failure.Refusal.{Refusal}
use Rattle.bx_statuses.specs.Report.{HasStatus, IsAmong}

-- disks that are listed stand for a tree
pub listed_none : (disks : Disks) (listed : Listing) → IsListedAlone disks listed → ((tree : Tree) → StandAlone disks tree → ⊥) → ⊥
listed_none disks listed is none = none is.is_listed.tree (alone_of disks is.state is.is_listed.tree is.is_state is.is_listed.stands)

pub among : (failure : Failure) (status : ℕ) → HasStatus failure status → IsAmong (0 ∷ 4 ∷ 5 ∷ 7 ∷ 9 ∷ []) status
among WriteFault status is = rw is refl
among DiskFault status is = rw is refl
among (Refused refusal) status (inl is) = rw is refl
among (Refused refusal) status (inr is) = rw is refl
among OutOfMemory status is = rw is refl

pub not_done : (failure : Failure) (status : ℕ) → HasStatus failure status → status ≡ 0 → ⊥
not_done WriteFault status is zero = omega (arith, is, zero)
not_done DiskFault status is zero = omega (arith, is, zero)
not_done (Refused refusal) status (inl is) zero = omega (arith, is, zero)
not_done (Refused refusal) status (inr is) zero = omega (arith, is, zero)
not_done OutOfMemory status is zero = omega (arith, is, zero)

-- ---- refusals

pub refused : (Tells Told : Type 0) (disks : Disks) (failure : Failure) (status : ℕ) (Line : Refusal → Type 0) → HasStatus failure status → (Tells → IsRightly disks failure)
    → ((refusal : Refusal) → failure ≡ Refused refusal → status ≡ 7 → Told → Line refusal) → status ≡ 7
    → (refusal : Refusal) × (Tells → AreRefused disks refusal) × (Told → Line refusal)
refused Tells Told disks WriteFault status Line is rightly told seven = absurd (omega (arith, is, seven))
refused Tells Told disks DiskFault status Line is rightly told seven = absurd (omega (arith, is, seven))
refused Tells Told disks (Refused refusal) status Line is rightly told seven = (refusal, rightly, told refusal refl seven)
refused Tells Told disks OutOfMemory status Line is rightly told seven = absurd (omega (arith, is, seven))

module _ (disks_before disks_now sink_before sink_now : ℕ) where
  pub completes : (failure : Failure) (status : ℕ) → HasStatus failure status → HasCause disks_before disks_now sink_before sink_now failure → BreaksOff failure
      → (Rose disks_before disks_now → ⊥) → (Rose sink_before sink_now → ⊥) → (status ≡ 0) ⊎ (status ≡ 9)
  completes WriteFault status is cause breaks no_disk no_write = absurd (no_write cause.0)
  completes DiskFault status is cause breaks no_disk no_write = absurd (no_disk cause.0)
  completes (Refused refusal) status is cause breaks no_disk no_write = absurd breaks
  completes OutOfMemory status is cause breaks no_disk no_write = inr is

  pub refuses : (failure : Failure) (status : ℕ) → HasStatus failure status → HasCause disks_before disks_now sink_before sink_now failure
      → (Rose disks_before disks_now → ⊥) → (Rose sink_before sink_now → ⊥) → (status ≡ 7) ⊎ (status ≡ 9)
  refuses WriteFault status is cause no_disk no_write = absurd (no_write cause.0)
  refuses DiskFault status is cause no_disk no_write = absurd (no_disk cause.0)
  refuses (Refused refusal) status is cause no_disk no_write = is
  refuses OutOfMemory status is cause no_disk no_write = inr is

  -- ---- causes

  pub disk_fault : (failure : Failure) (status : ℕ) → HasStatus failure status → HasCause disks_before disks_now sink_before sink_now failure → status ≡ 5 → Rose disks_before disks_now
  disk_fault WriteFault status is cause five = absurd (omega (arith, is, five))
  disk_fault DiskFault status is cause five = cause.0
  disk_fault (Refused refusal) status (inl is) cause five = absurd (omega (arith, is, five))
  disk_fault (Refused refusal) status (inr is) cause five = absurd (omega (arith, is, five))
  disk_fault OutOfMemory status is cause five = absurd (omega (arith, is, five))

  pub disk_first : (failure : Failure) (status : ℕ) → HasStatus failure status → HasCause disks_before disks_now sink_before sink_now failure → status ≢ 5 → disks_now ≡ disks_before
  disk_first WriteFault status is cause not_five = cause.1
  disk_first DiskFault status is cause not_five = absurd (not_five is)
  disk_first (Refused refusal) status is cause not_five = cause.0
  disk_first OutOfMemory status is cause not_five = cause.0

  pub write_fault : (failure : Failure) (status : ℕ) → HasStatus failure status → HasCause disks_before disks_now sink_before sink_now failure → status ≡ 4 → Rose sink_before sink_now
  write_fault WriteFault status is cause four = cause.0
  write_fault DiskFault status is cause four = absurd (omega (arith, is, four))
  write_fault (Refused refusal) status (inl is) cause four = absurd (omega (arith, is, four))
  write_fault (Refused refusal) status (inr is) cause four = absurd (omega (arith, is, four))
  write_fault OutOfMemory status is cause four = absurd (omega (arith, is, four))

  pub sink_first : (failure : Failure) (status : ℕ) → HasStatus failure status → HasCause disks_before disks_now sink_before sink_now failure → status ≢ 4 → sink_now ≡ sink_before
  sink_first WriteFault status is cause not_four = absurd (not_four is)
  sink_first DiskFault status is cause not_four = cause.1
  sink_first (Refused refusal) status is cause not_four = cause.1
  sink_first OutOfMemory status is cause not_four = cause.1

-- ---- the output

module _ (disks : Disks) (old new : List ℕ) where
  pub part : (failure : Failure) (status : ℕ) → HasStatus failure status → LeavesOutput disks old new failure → status ≡ 4 → IsPart disks old new
  part WriteFault status is leaves four = leaves
  part DiskFault status is leaves four = absurd (omega (arith, is, four))
  part (Refused refusal) status (inl is) leaves four = absurd (omega (arith, is, four))
  part (Refused refusal) status (inr is) leaves four = absurd (omega (arith, is, four))
  part OutOfMemory status is leaves four = absurd (omega (arith, is, four))

  not_four : (status : ℕ) → status ≡ 4 → (status ≡ 5) ⊎ ((status ≡ 7) ⊎ (status ≡ 9)) → ⊥
  not_four status four (inl e) = omega (arith, four, e)
  not_four status four (inr (inl e)) = omega (arith, four, e)
  not_four status four (inr (inr e)) = omega (arith, four, e)

  pub nothing : (failure : Failure) (status : ℕ) → HasStatus failure status → LeavesOutput disks old new failure → (status ≡ 5) ⊎ ((status ≡ 7) ⊎ (status ≡ 9)) → new ≡ old
  nothing WriteFault status is leaves other = absurd (not_four status is other)
  nothing DiskFault status is leaves other = leaves
  nothing (Refused refusal) status is leaves other = leaves
  nothing OutOfMemory status is leaves other = leaves
