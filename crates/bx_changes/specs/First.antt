-- Where blocks are to be written first, before a call is attempted again.
use Rattle.std.specs.Prelude.{ℕ, List}
use Rattle.bx_reads.specs.bx_inodes.specs.declared.stop.Stop.{Stop}
use Rattle.bx_reads.specs.bx_inodes.specs.declared.stop.Stop.TheVariants.{Need, Inner, Status, OutOfMemory}
use Rattle.bx_changes.specs.declared.error.ChangeError.{ChangeError}
use Rattle.bx_changes.specs.declared.error.ChangeError.TheVariants.{Stopped, Full}
use Rattle.bx_records.specs.Drafts.{Changed}

-- That is so only where the procedure comes to no error with blocks enough, and the blocks prepare it: they make room for an entry that has none, or clear
-- bytes that were cut, over which a file would grow.
abbrev pub StopsFirst : (ℕ → Type 0) → (List Changed → Type 0) → Stop → Type 0
StopsFirst Fails Prepares (Inner blocks) = ((status : ℕ) → Fails status → ⊥) × Prepares blocks
StopsFirst Fails Prepares (Need at mode) = Unit {0}
StopsFirst Fails Prepares (Status status) = Unit {0}
StopsFirst Fails Prepares OutOfMemory = Unit {0}

-- the same of what stops a change
abbrev pub ComesFirst : (ℕ → Type 0) → (List Changed → Type 0) → ChangeError → Type 0
ComesFirst Fails Prepares (Stopped stop) = StopsFirst Fails Prepares stop
ComesFirst Fails Prepares (Full spare) = Unit {0}
