-- What the bench holds once what is unsure on it was dropped.
use Rattle.std.proofs.Common.{◌≡◌, ℕ, ◌+◌, ◌<◌, ◌⊎◌, inl, inr, Err, Bool, true, false, arith, sym, ◌∙◌, subst, refl}
use Rattle.std.specs.Prelude.{not, ◌&&◌, ◌==◌}
use native.Mathlib.Numerals.{unary_clauses}
use Rattle.std.proofs.lemmas.Bool.{eq-eqb}
use Rattle.bx_base.specs.Faults.{Rose}
use Rattle.bx_disk.specs.Crash.{crashed}
use Rattle.bx_disk.specs.Disks.{Image, Disks, IsImage, IsSector}
use Rattle.bx_disk.specs.declared.noise.Noise.{Noise}
use Rattle.bx_disk.specs.declared.noise.Noise.TheVariants.{Keep, Drop, Seed}
use Rattle.bx_overlay.specs.declared.error.AuditError.{AuditError}
use Rattle.bx_overlay.specs.declared.error.AuditError.TheVariants as audits
use Rattle.bx_overlay.specs.Refusals.{IsBreak, UnlessFault}
use Rattle.bx_replay.specs.Bench.{after_crashes}
use Rattle.bx_stops.specs.FromLine.{stop_of_audit}
use Rattle.bx_replay.specs.Replay.{HasBenchCause, UnlessDisk}

decided : (b : Bool) → (b ≡ true) ⊎ (b ≡ false)
decided true = inl refl
decided false = inr refl

-- what disks read as is an image of them, where each unsure sector is one
pub reads_are : (disks : Disks) → ((d s : ℕ) → disks.unsure d s ≡ true → IsSector (disks.reads d s)) → IsImage disks disks.reads
reads_are disks sectors = record { sure = λ d s is. refl; torn = λ d s is. sectors d s is }

-- an image of what a crash left is an image of what was there
pub image_before : (old new : Disks) (image : Image) → IsImage old new.reads → ((d s : ℕ) → old.unsure d s ≡ false → new.unsure d s ≡ false) → IsImage new image → IsImage old image
image_before old new image left sure is = record {
  sure = λ d s before. is.sure d s (sure d s before) ∙ left.sure d s before;
  torn = λ d s before. by d s before (decided (new.unsure d s));
}
  where
    by : (d s : ℕ) → old.unsure d s ≡ true → (new.unsure d s ≡ true) ⊎ (new.unsure d s ≡ false) → IsSector (image d s)
    by d s before (inl now) = is.torn d s now
    by d s before (inr now) = subst IsSector (sym (is.sure d s now)) (left.torn d s before)

-- with one crash more
pub one_crash : (disks : Disks) (how : Noise) (n : ℕ) → after_crashes disks how (n + 1) ≡ crashed (after_crashes disks how n) n how
one_crash disks how n = simp unary_clauses refl

-- a crash of a disk leaves nothing unsure there
pub crashed_unsure : (disks : Disks) (disk : ℕ) (how : Noise) (d s : ℕ) → (crashed disks disk how).unsure d s ≡ (not (d == disk) && disks.unsure d s)
crashed_unsure disks disk Keep d s = refl
crashed_unsure disks disk Drop d s = refl
crashed_unsure disks disk (Seed seed) d s = refl

pub stays_sure : (a b : Bool) → b ≡ false → (not a && b) ≡ false
stays_sure true b is = refl
stays_sure false b is = is

-- once a disk is dropped, it is sure as those before it are
pub one_more : (disk d : ℕ) (unsure : Bool) → d < disk + 1 → (d < disk → unsure ≡ false) → (not (d == disk) && unsure) ≡ false
one_more disk d unsure within before = by (same_or d disk)
  where
    same_or : (a b : ℕ) → (a ≡ b) ⊎ ((a ≡ b) → ⊥)
    same_or a b = grind arith

    by : (d ≡ disk) ⊎ ((d ≡ disk) → ⊥) → (not (d == disk) && unsure) ≡ false
    by (inl same) = rw (eq-eqb d disk same) refl
    by (inr other) = stays_sure (d == disk) unsure (before (omega (arith, within, other)))

-- why a tree that was held isn't read back
pub audit_cause : (error : AuditError) (Held : Type 0) (before now : ℕ) → (error ≡ audits.DiskFault → Rose before now) → (Held → IsBreak error) → HasBenchCause (stop_of_audit error) Held before now
audit_cause audits.DiskFault Held before now rose breaks = inl (rose refl)
audit_cause (audits.NoLabel disk) Held before now rose breaks = inr (λ held. elim (breaks held) [ inl e ↦ cc | inr e ↦ cc ])
audit_cause audits.NoMajority Held before now rose breaks = inr (λ held. elim (breaks held) [ inl e ↦ cc | inr e ↦ cc ])
audit_cause (audits.NoSource device) Held before now rose breaks = inr (λ held. elim (breaks held) [ inl e ↦ cc | inr e ↦ cc ])
audit_cause (audits.Torn block found wanted) Held before now rose breaks = inr (λ held. elim (breaks held) [ inl e ↦ cc | inr e ↦ cc ])
audit_cause audits.OutOfMemory Held before now rose breaks = tt

-- and unless a disk failed, no count rose
pub audit_counts : (error : AuditError) (P : Type 0) → UnlessFault {A = Unit {0}} (Err error) P → UnlessDisk {A = Unit {0}} (Err (stop_of_audit error)) P
audit_counts audits.DiskFault P counts = tt
audit_counts (audits.NoLabel disk) P counts = tt
audit_counts audits.NoMajority P counts = tt
audit_counts (audits.NoSource device) P counts = tt
audit_counts (audits.Torn block found wanted) P counts = tt
audit_counts audits.OutOfMemory P counts = counts
