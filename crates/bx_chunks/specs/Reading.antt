-- What reading a chunk answers.
use Rattle.std.specs.Prelude.{◌≡◌, ◌≢◌, ℕ, Option, None, Some, Result, Ok, Err}
use Rattle.bx_base.specs.declared.names.Mode.TheVariants.{Shared}
use Rattle.bx_layout.specs.declared.block.Block.{Block}
use Rattle.bx_truth.specs.Chunks.{IsName, block_at}
use Rattle.bx_truth.specs.PageTrees.{Chunks}
use Rattle.bx_chunks.specs.declared.error.ChunkError.{ChunkError}
use Rattle.bx_chunks.specs.declared.error.ChunkError.TheVariants.{Need, Stale, Full, OutOfMemory, Crowded}

-- a block is there, and its header names another handle
pub record NamesAnother (found : Option Block) (handle : ℕ) : Type 0 where
  pub block : Block
  pub there : found ≡ Some block
  pub another : block.handle ≢ handle

-- what is answered of a handle, by what is seen in its block
abbrev pub ReadsAt : Option Block → ℕ → Result Block ChunkError → Type 0
ReadsAt found handle (Ok block) = (found ≡ Some block) × (block.handle ≡ handle)
ReadsAt found handle (Err (Need at mode)) = (found ≡ None) × (at ≡ block_at handle) × (mode ≡ Shared)
ReadsAt found handle (Err Stale) = NamesAnother found handle
ReadsAt found handle (Err (Full spare)) = ⊥
ReadsAt found handle (Err OutOfMemory) = ⊥
ReadsAt found handle (Err Crowded) = ⊥

-- What is answered of a handle, by the chunk map: the chunk of the handle, and Stale where it names none.
abbrev pub ReadsIn : ℕ → Chunks → ℕ → Result Block ChunkError → Type 0
ReadsIn areas chunks handle (Ok block) = IsName areas handle → chunks handle ≡ Some block
ReadsIn areas chunks handle (Err Stale) = chunks handle ≡ None
ReadsIn areas chunks handle (Err (Need at mode)) = Unit {0}
ReadsIn areas chunks handle (Err (Full spare)) = ⊥
ReadsIn areas chunks handle (Err OutOfMemory) = ⊥
ReadsIn areas chunks handle (Err Crowded) = ⊥
