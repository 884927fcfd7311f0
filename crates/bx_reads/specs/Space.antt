-- What STATFS answers, and what it asks for.
use Rattle.std.specs.Prelude.{◌≡◌, ℕ, ◌*◌, ◌<◌, ◌⊎◌, List, [], ◌∷◌, Result, Ok, Err}
use Rattle.bx_base.specs.declared.names.Mode.{Mode}
use Rattle.bx_base.specs.declared.names.Mode.TheVariants.{Shared}
use Rattle.bx_files.specs.bx_inodes.specs.declared.stop.Stop.{Stop}
use Rattle.bx_files.specs.bx_inodes.specs.declared.stop.Stop.TheVariants.{Need, Inner, Status, OutOfMemory}
use Rattle.bx_files.specs.bx_inodes.specs.Stops.{OnInode}
use Rattle.bx_model.specs.declared.reply.Reply.{Reply}
use Rattle.bx_model.specs.declared.reply.Reply.TheVariants.{Space}
use Rattle.bx_model.specs.declared.tree.Tree.{Tree}
use Rattle.bx_model.specs.Reading.{statfs}
use Rattle.bx_files.specs.bx_truth.specs.Chunks.{own_block}

-- so many blocks are free; no status comes
abbrev pub IsFreeCount : ℕ → Result ℕ Stop → Type 0
IsFreeCount free (Ok count) = count ≡ free
IsFreeCount free (Err (Need at mode)) = Unit {0}
IsFreeCount free (Err (Inner blocks)) = ⊥
IsFreeCount free (Err (Status status)) = ⊥
IsFreeCount free (Err OutOfMemory) = Unit {0}

-- The bytes of a transfer and of a block, and the blocks in all, free, and free for the caller.
abbrev pub space_words : ℕ → ℕ → List ℕ
space_words areas free = 8192 ∷ 4096 ∷ 960 * areas ∷ free ∷ free ∷ []

-- the reply of any file, with how many blocks are free
abbrev pub IsSpaceOf : ℕ → ℕ → Result (Reply × ℕ) Stop → Type 0
IsSpaceOf areas free (Ok told) = (told.0 ≡ Space (space_words areas free)) × (told.1 ≡ free)
IsSpaceOf areas free (Err (Need at mode)) = Unit {0}
IsSpaceOf areas free (Err (Inner blocks)) = ⊥
IsSpaceOf areas free (Err (Status status)) = ⊥
IsSpaceOf areas free (Err OutOfMemory) = Unit {0}

-- The reply is the tree's with so many blocks free, which are told too. A status comes however many are free.
abbrev pub IsSpace : Tree → ℕ → List ℕ → Result (Reply × ℕ) Stop → Type 0
IsSpace tree free at (Ok told) = (told.1 ≡ free) × (statfs tree at free ≡ Ok (told.0, tree))
IsSpace tree free at (Err (Need block mode)) = Unit {0}
IsSpace tree free at (Err (Inner blocks)) = ⊥
IsSpace tree free at (Err (Status status)) = (spare : ℕ) → statfs tree at spare ≡ Err status
IsSpace tree free at (Err OutOfMemory) = Unit {0}

-- the own block of an area of a volume with so many, shared
pub record IsOwnOf (areas at : ℕ) (mode : Mode) : Type 0 where
  pub area : ℕ
  pub there : area < areas
  pub at_is : at ≡ own_block area
  pub mode_is : mode ≡ Shared

-- the path of STATFS: the inode of the file that is named, and the own blocks of all areas
abbrev pub OnSpace : ℕ → ℕ → List ℕ → ℕ → Mode → Type 0
OnSpace volume areas bytes at mode = OnInode volume bytes Shared at mode ⊎ IsOwnOf areas at mode
