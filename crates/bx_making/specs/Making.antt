-- What making an empty file answers, by what is held and the draft.
use Rattle.std.specs.Prelude.{ℕ, ◌≤◌, ◌⊎◌, List, length, Result, Ok, Err}
use Rattle.bx_layout.specs.declared.inode.Inode.{Inode}
use Rattle.bx_records.specs.Drafts.{Changed}
use Rattle.bx_truth.specs.Opening.{empty_page}
use Rattle.bx_views.specs.Truths.{Held}
use Rattle.bx_chunks.specs.Allocating.{AllocatesAt}
use Rattle.bx_chunks.specs.declared.error.ChunkError.{ChunkError}
use Rattle.bx_chunks.specs.declared.error.ChunkError.TheVariants.{Need, Stale, Full, OutOfMemory, Crowded}
use Rattle.bx_inodes.specs.Writing.{PutsInode}
use Rattle.bx_leaves.specs.Leaves.{PutsPage}

-- the inode with a tree under this root
abbrev pub rooted : Inode → ℕ → Inode
rooted inode page = record inode { tree = page }

-- a page without entries is put under its handle, and an inode that has it as its root under another
pub record FillsBoth (old new : List Changed) (handle page : ℕ) (inode : Inode) : Type 0 where
  pub mid : List Changed
  pub page_put : PutsPage old mid page empty_page
  pub inode_put : PutsInode mid new handle (rooted inode page)

-- what putting both answers: a draft that would have more than sixteen blocks, or has as many before the inode is put, is crowded
abbrev pub FillsAt : List Changed → List Changed → ℕ → ℕ → Inode → Result Unit ChunkError → Type 0
FillsAt old new handle page inode (Ok done) = FillsBoth old new handle page inode
FillsAt old new handle page inode (Err Crowded) = 15 ≤ length old
FillsAt old new handle page inode (Err OutOfMemory) = Unit {0}
FillsAt old new handle page inode (Err (Need at mode)) = ⊥
FillsAt old new handle page inode (Err Stale) = ⊥
FillsAt old new handle page inode (Err (Full spare)) = ⊥

-- two handles are taken, the inode's and then the page's, and both blocks are put
pub record MakesBoth (held : Held) (old new : List Changed) (inode : Inode) (near areas handle : ℕ) : Type 0 where
  pub one : List Changed
  pub first : AllocatesAt held old one near areas (Ok handle)
  pub page : ℕ
  pub two : List Changed
  pub second : AllocatesAt held one two near areas (Ok page)
  pub fills : FillsBoth two new handle page inode

-- the first handle is taken, and the second isn't; or both are, and the blocks aren't put
pub record MissesSecond (held : Held) (old : List Changed) (near areas : ℕ) (error : ChunkError) : Type 0 where
  pub handle : ℕ
  pub one : List Changed
  pub first : AllocatesAt held old one near areas (Ok handle)
  pub second : AllocatesAt held one one near areas (Err error)

pub record MissesBlocks (held : Held) (old : List Changed) (inode : Inode) (near areas : ℕ) (error : ChunkError) : Type 0 where
  pub handle : ℕ
  pub one : List Changed
  pub first : AllocatesAt held old one near areas (Ok handle)
  pub page : ℕ
  pub two : List Changed
  pub second : AllocatesAt held one two near areas (Ok page)
  pub fills : FillsAt two two handle page inode (Err error)

-- What making a file answers: the first error that a step meets.
abbrev pub MakesAt : Held → List Changed → List Changed → Inode → ℕ → ℕ → Result ℕ ChunkError → Type 0
MakesAt held old new inode near areas (Ok handle) = MakesBoth held old new inode near areas handle
MakesAt held old new inode near areas (Err error) =
    AllocatesAt held old old near areas (Err error) ⊎ (MissesSecond held old near areas error ⊎ MissesBlocks held old inode near areas error)
