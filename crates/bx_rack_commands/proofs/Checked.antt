-- What an audit's answer is to a check.
use Rattle.std.proofs.Common.{◌≡◌, ℕ, ◌⊎◌, inl, inr, List, Err, refl}
use Rattle.std.specs.Prelude.{IsErrOf}
use Rattle.bx_rack_audit.specs.bx_audit.specs.declared.listing.Listing.{Listing}
use Rattle.bx_base.specs.Faults.{Rose}
use Rattle.bx_disk.specs.Disks.{Disks}
use Rattle.bx_overlay.specs.declared.error.AuditError.{AuditError}
use Rattle.bx_overlay.specs.declared.error.AuditError.TheVariants as audits
use Rattle.bx_overlay.specs.Refusals.{IsBreak, UnlessFault}
use Rattle.bx_rack_audit.specs.Alone.{IsRefusedAlone}
use Rattle.bx_rack_commands.specs.Checks.{BreaksOff, HasCause, IsRightly, LeavesOutput}
use Rattle.bx_rack_commands.specs.Failures.{failure_of}

-- a break is none of the refusals
no_disk : (disk : ℕ) → IsBreak (audits.NoLabel disk) → ⊥
no_disk disk (inl e) = cc
no_disk disk (inr e) = cc

no_majority : IsBreak audits.NoMajority → ⊥
no_majority (inl e) = cc
no_majority (inr e) = cc

no_device : (device : ℕ) → IsBreak (audits.NoSource device) → ⊥
no_device device (inl e) = cc
no_device device (inr e) = cc

no_block : (block found wanted : ℕ) → IsBreak (audits.Torn block found wanted) → ⊥
no_block block found wanted (inl e) = cc
no_block block found wanted (inr e) = cc

pub rightly : (disks : Disks) (error : AuditError) → IsBreak error ⊎ IsRefusedAlone disks error → IsRightly disks (failure_of error)
rightly disks audits.DiskFault why = tt
rightly disks (audits.NoLabel disk) (inl breaks) = absurd (no_disk disk breaks)
rightly disks (audits.NoLabel disk) (inr refused) = record { error = audits.NoLabel disk; is = refl; refused = refused }
rightly disks audits.NoMajority (inl breaks) = absurd (no_majority breaks)
rightly disks audits.NoMajority (inr refused) = record { error = audits.NoMajority; is = refl; refused = refused }
rightly disks (audits.NoSource device) (inl breaks) = absurd (no_device device breaks)
rightly disks (audits.NoSource device) (inr refused) = record { error = audits.NoSource device; is = refl; refused = refused }
rightly disks (audits.Torn block found wanted) (inl breaks) = absurd (no_block block found wanted breaks)
rightly disks (audits.Torn block found wanted) (inr refused) = record { error = audits.Torn block found wanted; is = refl; refused = refused }
rightly disks audits.OutOfMemory why = tt

pub breaks_off : (error : AuditError) → IsBreak error → BreaksOff (failure_of error)
breaks_off audits.DiskFault breaks = tt
breaks_off (audits.NoLabel disk) breaks = no_disk disk breaks
breaks_off audits.NoMajority breaks = no_majority breaks
breaks_off (audits.NoSource device) breaks = no_device device breaks
breaks_off (audits.Torn block found wanted) breaks = no_block block found wanted breaks
breaks_off audits.OutOfMemory breaks = tt

pub leaves : (disks : Disks) (old new : List ℕ) (error : AuditError) → new ≡ old → LeavesOutput disks old new (failure_of error)
leaves disks old new audits.DiskFault same = same
leaves disks old new (audits.NoLabel disk) same = same
leaves disks old new audits.NoMajority same = same
leaves disks old new (audits.NoSource device) same = same
leaves disks old new (audits.Torn block found wanted) same = same
leaves disks old new audits.OutOfMemory same = same

pub cause : (before now sink : ℕ) (error : AuditError) → (IsErrOf {T = Listing} (Err error) audits.DiskFault → Rose before now) → UnlessFault {A = Listing} (Err error) (now ≡ before) → HasCause before now sink sink (failure_of error)
cause before now sink audits.DiskFault rises stays = (rises refl, refl)
cause before now sink (audits.NoLabel disk) rises stays = (stays, refl)
cause before now sink audits.NoMajority rises stays = (stays, refl)
cause before now sink (audits.NoSource device) rises stays = (stays, refl)
cause before now sink (audits.Torn block found wanted) rises stays = (stays, refl)
cause before now sink audits.OutOfMemory rises stays = (stays, refl)
