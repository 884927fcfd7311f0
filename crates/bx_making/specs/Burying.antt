-- What making a file a dead one answers: by what is held and the draft; and what it leaves of a tree, for a truth.
use Rattle.std.specs.Prelude.{◌≡◌, ◌≢◌, ℕ, ◌≤◌, ◌⊎◌, true, List, [], length, Result, Ok, Err}
use Rattle.bx_chunks.specs.Marking.{MarksAt}
use Rattle.bx_chunks.specs.declared.error.ChunkError.{ChunkError}
use Rattle.bx_chunks.specs.declared.error.ChunkError.TheVariants.{Need, Stale, Full, OutOfMemory, Crowded}
use Rattle.bx_inodes.specs.Fitting.{HintsFitAll}
use Rattle.bx_inodes.specs.Inodes.{HoldsInode}
use Rattle.bx_inodes.specs.Writing.{PutsInode}
use Rattle.bx_layout.specs.declared.inode.Inode.{Inode}
use Rattle.bx_model.specs.Edits.{without}
use Rattle.bx_model.specs.declared.tree.Tree.{Tree}
use Rattle.bx_records.specs.Drafts.{Changed}
use Rattle.bx_tree_files.specs.declared.file.Body.{Body}
use Rattle.bx_tree_files.specs.declared.file.Body.TheVariants.{Bytes, Path, Names}
use Rattle.bx_truth.specs.Chunks.{chunks_of}
use Rattle.bx_truth.specs.Stands.{StandsFor}
use Rattle.bx_views.specs.Truths.{Truth, Held, Hints, with_draft}

-- the inode of a dead file, which keeps its tree
abbrev pub dead_inode : Inode → Inode
dead_inode inode = record inode { kind = 0 }

-- the slot is marked, and then the dead inode is put
pub record MarksAndPuts (held : Held) (old new : List Changed) (handle : ℕ) (inode : Inode) : Type 0 where
  pub mid : List Changed
  pub marks : MarksAt held old mid handle true (Ok tt)
  pub puts : PutsInode mid new handle (dead_inode inode)

-- the slot is marked, and then the draft has sixteen blocks
pub record MarksOnly (held : Held) (old : List Changed) (handle : ℕ) : Type 0 where
  pub mid : List Changed
  pub marks : MarksAt held old mid handle true (Ok tt)
  pub many : 16 ≤ length mid

-- What burying answers: what marking the slot does, and it is crowded where the draft has sixteen blocks before the inode is put.
abbrev pub BuriesAt : Held → List Changed → List Changed → ℕ → Inode → Result Unit ChunkError → Type 0
BuriesAt held old new handle inode (Ok done) = MarksAndPuts held old new handle inode
BuriesAt held old new handle inode (Err Crowded) = MarksAt held old old handle true (Err Crowded) ⊎ MarksOnly held old handle
BuriesAt held old new handle inode (Err (Need at mode)) = MarksAt held old old handle true (Err (Need at mode))
BuriesAt held old new handle inode (Err Stale) = MarksAt held old old handle true (Err Stale)
BuriesAt held old new handle inode (Err OutOfMemory) = Unit {0}
BuriesAt held old new handle inode (Err (Full spare)) = ⊥

-- a body that a file may have when it dies: of a directory, one without entries
abbrev pub IsBare : Body → Type 0
IsBare (Bytes bytes) = Unit {0}
IsBare (Path path) = Unit {0}
IsBare (Names parent next names) = names ≡ []

-- The truth with the new draft stands for the tree without the file. Its inode is a dead one's, all other chunks stay, and all hints that
-- fitted still fit.
pub record BuriesFile (areas : ℕ) (truth : Truth) (old new : List Changed) (tree : Tree) (handle : ℕ) (inode : Inode) : Type 0 where
  pub stands : StandsFor areas (with_draft truth new) (without tree handle)
  pub holds : HoldsInode areas (with_draft truth new) handle (dead_inode inode)
  pub others : (other : ℕ) → other ≢ handle → chunks_of areas (with_draft truth new) other ≡ chunks_of areas (with_draft truth old) other
  pub leads : (other : Hints) → HintsFitAll areas other (with_draft truth old) → HintsFitAll areas other (with_draft truth new)

-- What burying does to a file that is there. It is never Stale.
abbrev pub BuriesIn : ℕ → Truth → List Changed → List Changed → Tree → ℕ → Inode → Result Unit ChunkError → Type 0
BuriesIn areas truth old new tree handle inode (Ok done) = BuriesFile areas truth old new tree handle inode
BuriesIn areas truth old new tree handle inode (Err (Need at mode)) = Unit {0}
BuriesIn areas truth old new tree handle inode (Err Crowded) = Unit {0}
BuriesIn areas truth old new tree handle inode (Err OutOfMemory) = Unit {0}
BuriesIn areas truth old new tree handle inode (Err Stale) = ⊥
BuriesIn areas truth old new tree handle inode (Err (Full spare)) = ⊥
