-- Answers that aren't for want of memory.
use Rattle.std.specs.Prelude.{Result, Ok, Err}
use Rattle.bx_chunks.specs.declared.error.ChunkError.{ChunkError}
use Rattle.bx_chunks.specs.declared.error.ChunkError.TheVariants.{Need, Stale, Full, OutOfMemory, Crowded}

-- memory didn't run out
abbrev pub HasMemory : {X : Type 0} → Result X ChunkError → Type 0
HasMemory (Ok x) = Unit {0}
HasMemory (Err (Need at mode)) = Unit {0}
HasMemory (Err Stale) = Unit {0}
HasMemory (Err (Full spare)) = Unit {0}
HasMemory (Err Crowded) = Unit {0}
HasMemory (Err OutOfMemory) = ⊥
