-- Why a check stops short, and what it has written then.
use Rattle.std.specs.Prelude.{◌≡◌, ℕ, ◌<◌, List, ◌++◌, length, take}
use Rattle.bx_rack_audit.specs.bx_audit.specs.declared.listing.Listing.{Listing}
use Rattle.bx_base.specs.Faults.{Rose}
use Rattle.bx_disk.specs.Disks.{Disks}
use Rattle.bx_overlay.specs.declared.error.AuditError.{AuditError}
use Rattle.bx_rack_audit.specs.Alone.{IsListedAlone, IsRefusedAlone}
use Rattle.bx_rack_commands.specs.Failures.{failure_of}
use Rattle.bx_rack_commands.specs.declared.failure.Failure.{Failure}
use Rattle.bx_rack_commands.specs.declared.failure.Failure.TheVariants.{WriteFault, DiskFault, Refused, OutOfMemory}
use Rattle.bx_rack_commands.specs.declared.failure.Refusal.{Refusal}

-- an audit of the disks refuses them, and this is told of its reason
pub record AreRefused (disks : Disks) (refusal : Refusal) : Type 0 where
  pub error : AuditError
  pub is : failure_of error ≡ Refused refusal
  pub refused : IsRefusedAlone disks error

-- disks that are refused are refused for what is told
abbrev pub IsRightly : Disks → Failure → Type 0
IsRightly disks WriteFault = Unit {0}
IsRightly disks DiskFault = Unit {0}
IsRightly disks (Refused refusal) = AreRefused disks refusal
IsRightly disks OutOfMemory = Unit {0}

-- a fault, or want of memory: nothing is refused
abbrev pub BreaksOff : Failure → Type 0
BreaksOff WriteFault = Unit {0}
BreaksOff DiskFault = Unit {0}
BreaksOff (Refused refusal) = ⊥
BreaksOff OutOfMemory = Unit {0}

-- A part of the listing of what the disks stand for was written, and not the whole; or nothing.
pub record IsPart (disks : Disks) (old new : List ℕ) : Type 0 where
  pub listed : Listing
  pub is_listed : IsListedAlone disks listed
  pub count : ℕ
  pub short : count < length listed.text
  pub part : new ≡ old ++ take count listed.text

abbrev pub LeavesOutput : Disks → List ℕ → List ℕ → Failure → Type 0
LeavesOutput disks old new WriteFault = IsPart disks old new
LeavesOutput disks old new DiskFault = new ≡ old
LeavesOutput disks old new (Refused refusal) = new ≡ old
LeavesOutput disks old new OutOfMemory = new ≡ old

-- A fault of the output or of a disk rose its count of faults, and no other count rose.
abbrev pub HasCause : ℕ → ℕ → ℕ → ℕ → Failure → Type 0
HasCause disks_before disks_now sink_before sink_now WriteFault = Rose sink_before sink_now × (disks_now ≡ disks_before)
HasCause disks_before disks_now sink_before sink_now DiskFault = Rose disks_before disks_now × (sink_now ≡ sink_before)
HasCause disks_before disks_now sink_before sink_now (Refused refusal) = (disks_now ≡ disks_before) × (sink_now ≡ sink_before)
HasCause disks_before disks_now sink_before sink_now OutOfMemory = (disks_now ≡ disks_before) × (sink_now ≡ sink_before)
