-- What is answered of what there is.
use Rattle.std.specs.Prelude.{◌≡◌, ℕ, ◌+◌, ◌/◌, ◌%◌, ◌<◌, List, slice_index, Option, Result, Ok, Err}
use Rattle.bx_inodes.specs.declared.stop.Stop.{Stop}
use Rattle.bx_inodes.specs.declared.stop.Stop.TheVariants.{Need, Inner, Status, OutOfMemory}
use Rattle.bx_layout.specs.declared.block.Block.{Block}
use Rattle.bx_chunks.specs.bx_truth.specs.Stored.{byte_in}

-- This is told, unless a block is needed first or memory ran out. No status comes.
abbrev pub Tells : {T : Type 0} → T → Result T Stop → Type 0
Tells there (Ok told) = told ≡ there
Tells there (Err (Need at mode)) = Unit {0}
Tells there (Err (Inner blocks)) = ⊥
Tells there (Err (Status status)) = ⊥
Tells there (Err OutOfMemory) = Unit {0}

-- So many bytes are those of pieces, from the first one on.
abbrev pub AreOfPieces : (ℕ → Option Block) → ℕ → ℕ → List ℕ → Type 0
AreOfPieces pieces first len bytes = (place : ℕ) → place < len → slice_index bytes place ≡ byte_in (pieces (first + place / 4096)) (place % 4096)

-- They are, unless a block is needed first or memory ran out. No status comes.
abbrev pub ArePieces : (ℕ → Option Block) → ℕ → ℕ → List ℕ → Result (Unit {0}) Stop → Type 0
ArePieces pieces first len bytes (Ok done) = AreOfPieces pieces first len bytes
ArePieces pieces first len bytes (Err (Need at mode)) = Unit {0}
ArePieces pieces first len bytes (Err (Inner blocks)) = ⊥
ArePieces pieces first len bytes (Err (Status status)) = ⊥
ArePieces pieces first len bytes (Err OutOfMemory) = Unit {0}
