-- How reading a file tree ends.
use Rattle.std.specs.Prelude.{◌≡◌, ℕ, ◌≤◌, Result, Ok, Err}
use Rattle.bx_base.specs.Faults.{Rose}
use Rattle.bx_disk.specs.declared.fault.RackError.{RackError}
use Rattle.bx_disk.specs.declared.fault.RackError.TheVariants.{Fault, OutOfMemory}
use Rattle.bx_audit_pages.specs.declared.error.AuditError.{AuditError}
use Rattle.bx_audit_pages.specs.declared.error.AuditError.TheVariants.{Torn, Fault as DiskFailed, OutOfMemory as MemoryRanOut}

-- the error of a read
abbrev pub of_rack : RackError → AuditError
of_rack Fault = DiskFailed
of_rack OutOfMemory = MemoryRanOut

-- it is a block that is torn, of which a fact holds: its number, the handle in its header and the one that is wanted
abbrev pub IfTornError : AuditError → (ℕ → ℕ → ℕ → Type 0) → Type 0
IfTornError (Torn at found wanted) holds = holds at found wanted
IfTornError DiskFailed holds = Unit {0}
IfTornError MemoryRanOut holds = Unit {0}

abbrev pub IfTorn : {A : Type 0} → Result A AuditError → (ℕ → ℕ → ℕ → Type 0) → Type 0
IfTorn (Ok value) holds = Unit {0}
IfTorn (Err error) holds = IfTornError error holds

-- What the count of faults says of how it ended: a fault made it rise, and nothing else changed it. It stays at its greatest number.
abbrev pub CountsError : AuditError → ℕ → ℕ → Type 0
CountsError (Torn at found wanted) before now = now ≡ before
CountsError DiskFailed before now = Rose before now × (before ≤ now)
CountsError MemoryRanOut before now = now ≡ before

abbrev pub Counts : {A : Type 0} → Result A AuditError → ℕ → ℕ → Type 0
Counts (Ok value) before now = now ≡ before
Counts (Err error) before now = CountsError error before now
