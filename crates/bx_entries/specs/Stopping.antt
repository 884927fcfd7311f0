-- What stops an attempt, by why a call on a tree or on chunks isn't answered; 70 is STALE.
use Rattle.std.specs.Prelude.{◌≡◌, ℕ, ◌⊎◌, true, false}
use Rattle.bx_blink.specs.declared.error.BlinkError.{BlinkError}
use Rattle.bx_blink.specs.declared.error.BlinkError.TheVariants as tree
use Rattle.bx_chunks.specs.declared.error.ChunkError.{ChunkError}
use Rattle.bx_chunks.specs.declared.error.ChunkError.TheVariants as chunk
use Rattle.bx_inodes.specs.declared.stop.Stop.{Stop}
use Rattle.bx_inodes.specs.declared.stop.Stop.TheVariants.{Need, Status, OutOfMemory}
use Rattle.bx_places.specs.Places.{is_block}

abbrev pub StopsBy : ℕ → BlinkError → Stop → Type 0
StopsBy areas (tree.Need at mode) stop = ((is_block areas at ≡ true) × (stop ≡ Need at mode)) ⊎ ((is_block areas at ≡ false) × (stop ≡ Status 70))
StopsBy areas tree.OutOfMemory stop = stop ≡ OutOfMemory
StopsBy areas tree.Stale stop = stop ≡ Status 70
StopsBy areas tree.Absent stop = stop ≡ Status 70
StopsBy areas tree.Present stop = stop ≡ Status 70
StopsBy areas (tree.Full spare) stop = stop ≡ Status 70
StopsBy areas (tree.NoRoom leaf) stop = stop ≡ Status 70
StopsBy areas tree.Crowded stop = stop ≡ Status 70

abbrev pub StopsByChunks : ChunkError → Stop → Type 0
StopsByChunks (chunk.Need at mode) stop = stop ≡ Need at mode
StopsByChunks chunk.OutOfMemory stop = stop ≡ OutOfMemory
StopsByChunks chunk.Stale stop = stop ≡ Status 70
StopsByChunks (chunk.Full spare) stop = stop ≡ Status 70
StopsByChunks chunk.Crowded stop = stop ≡ Status 70
