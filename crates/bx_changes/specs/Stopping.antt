-- What stops a change, by why a call on a tree or on chunks isn't answered.
use Rattle.std.specs.Prelude.{◌≡◌, ℕ, ◌⊎◌, true, false}
use Rattle.bx_reads.specs.bx_blink.specs.declared.error.BlinkError.{BlinkError}
use Rattle.bx_reads.specs.bx_blink.specs.declared.error.BlinkError.TheVariants as tree
use Rattle.bx_changes.specs.declared.error.ChangeError.{ChangeError}
use Rattle.bx_changes.specs.declared.error.ChangeError.TheVariants.{Stopped, Full}
use Rattle.bx_reads.specs.bx_chunks.specs.declared.error.ChunkError.{ChunkError}
use Rattle.bx_reads.specs.bx_chunks.specs.declared.error.ChunkError.TheVariants as chunks
use Rattle.bx_reads.specs.bx_inodes.specs.declared.stop.Stop.TheVariants.{Need, Inner, Status, OutOfMemory}
use Rattle.bx_model.specs.declared.status.TheConstants.{STALE}
use Rattle.bx_places.specs.Places.{is_block}

abbrev pub StopsChange : ℕ → BlinkError → ChangeError → Type 0
StopsChange areas (tree.Need at mode) stop = ((is_block areas at ≡ true) × (stop ≡ Stopped (Need at mode))) ⊎ ((is_block areas at ≡ false) × (stop ≡ Stopped (Status STALE)))
StopsChange areas (tree.Full spare) stop = stop ≡ Full spare
StopsChange areas tree.OutOfMemory stop = stop ≡ Stopped OutOfMemory
StopsChange areas tree.Stale stop = stop ≡ Stopped (Status STALE)
StopsChange areas tree.Absent stop = stop ≡ Stopped (Status STALE)
StopsChange areas tree.Present stop = stop ≡ Stopped (Status STALE)
StopsChange areas (tree.NoRoom leaf) stop = stop ≡ Stopped (Status STALE)
StopsChange areas tree.Crowded stop = stop ≡ Stopped (Status STALE)

abbrev pub StopsByChunks : ChunkError → ChangeError → Type 0
StopsByChunks (chunks.Need at mode) stop = stop ≡ Stopped (Need at mode)
StopsByChunks (chunks.Full spare) stop = stop ≡ Full spare
StopsByChunks chunks.OutOfMemory stop = stop ≡ Stopped OutOfMemory
StopsByChunks chunks.Stale stop = stop ≡ Stopped (Status STALE)
StopsByChunks chunks.Crowded stop = stop ≡ Stopped (Status STALE)

-- no blocks are to be written first
abbrev pub NeverFirst : ChangeError → Type 0
NeverFirst (Stopped (Inner blocks)) = ⊥
NeverFirst (Stopped (Need at mode)) = Unit {0}
NeverFirst (Stopped (Status status)) = Unit {0}
NeverFirst (Stopped OutOfMemory) = Unit {0}
NeverFirst (Full spare) = Unit {0}
