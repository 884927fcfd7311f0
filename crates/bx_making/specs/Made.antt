-- What a file that is made leaves of a tree, for a truth.
use Rattle.std.specs.Prelude.{◌≡◌, ◌≢◌, ℕ, true, List, Some, None, Result, Ok, Err}
use Rattle.bx_chunks.specs.Counting.{free_slots}
use Rattle.bx_chunks.specs.declared.error.ChunkError.{ChunkError}
use Rattle.bx_chunks.specs.declared.error.ChunkError.TheVariants.{Need, Stale, Full, OutOfMemory, Crowded}
use Rattle.bx_inodes.specs.Fitting.{HintsFitAll}
use Rattle.bx_inodes.specs.Inodes.{HoldsInode}
use Rattle.bx_layout.specs.declared.block.Block.{Block}
use Rattle.bx_layout.specs.declared.inode.Inode.{Inode}
use Rattle.bx_model.specs.Edits.{is_unused, with_new}
use Rattle.bx_model.specs.declared.tree.Tree.{Tree}
use Rattle.bx_records.specs.Drafts.{Changed}
use Rattle.bx_tree_files.specs.declared.file.Body.{Body}
use Rattle.bx_tree_files.specs.declared.file.File.{File}
use Rattle.bx_tree_files.specs.Files.{file_at}
use Rattle.bx_truth.specs.Chunks.{chunks_of, IsChunked}
use Rattle.bx_truth.specs.Stands.{StandsFor}
use Rattle.bx_views.specs.Truths.{Truth, Hints, with_draft}
use Rattle.bx_making.specs.Making.{rooted}

-- the file that an inode says under a handle, with this body
abbrev pub file_of : Inode → ℕ → Body → File
file_of inode handle body = record {
  handle = handle;
  kind = inode.kind;
  mode = inode.mode;
  nlink = inode.nlink;
  uid = inode.uid;
  gid = inode.gid;
  atime = inode.atime;
  mtime = inode.mtime;
  ctime = inode.ctime;
  body = body;
}

-- The truth with the new draft stands for the tree with a new file, whose handle was never given out and whose number is no file's. Its inode
-- is there, all chunks stay, and hints that fitted still fit, where some file had a tree.
pub record MakesFile (areas : ℕ) (truth : Truth) (old new : List Changed) (tree : Tree) (inode : Inode) (body : Body) (handle : ℕ) : Type 0 where
  pub unused : is_unused tree handle ≡ true
  pub fresh : file_at tree.files handle ≡ None
  pub stands : StandsFor areas (with_draft truth new) (with_new tree (file_of inode handle body))
  pub page : ℕ
  pub holds : HoldsInode areas (with_draft truth new) handle (rooted inode page)
  pub kept : (other : ℕ) (block : Block) → chunks_of areas (with_draft truth old) other ≡ Some block → chunks_of areas (with_draft truth new) other ≡ Some block
  pub leads : (other : Hints) (at : ℕ) (file : File) → file_at tree.files at ≡ Some file → file.kind ≢ 5 → HintsFitAll areas other (with_draft truth old) → HintsFitAll areas other (with_draft truth new)

-- What making a file answers, for a truth: it is full only where no slot is free, and tells how many were.
abbrev pub MakesIn : ℕ → Truth → List Changed → List Changed → Tree → Inode → Body → Result ℕ ChunkError → Type 0
MakesIn areas truth old new tree inode body (Ok handle) = MakesFile areas truth old new tree inode body handle
MakesIn areas truth old new tree inode body (Err (Full spare)) = IsChunked areas truth → spare ≡ free_slots areas truth
MakesIn areas truth old new tree inode body (Err (Need at mode)) = Unit {0}
MakesIn areas truth old new tree inode body (Err Crowded) = Unit {0}
MakesIn areas truth old new tree inode body (Err OutOfMemory) = Unit {0}
MakesIn areas truth old new tree inode body (Err Stale) = ⊥
