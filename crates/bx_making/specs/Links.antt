-- What making a link answers, by what is held and the draft.
use Rattle.std.specs.Prelude.{◌≡◌, ℕ, ◌≤◌, ◌⊎◌, List, length, Result, Ok, Err}
use Rattle.bx_chunks.specs.Allocating.{AllocatesAt}
use Rattle.bx_chunks.specs.declared.error.ChunkError.{ChunkError}
use Rattle.bx_chunks.specs.declared.error.ChunkError.TheVariants.{Crowded}
use Rattle.bx_inodes.specs.Writing.{PutsInode}
use Rattle.bx_layout.specs.declared.inode.Inode.{Inode}
use Rattle.bx_records.specs.Drafts.{Changed}
use Rattle.bx_views.specs.Truths.{Held}

-- a handle is taken, and the inode is put under it
pub record LinksOne (held : Held) (old new : List Changed) (inode : Inode) (near areas handle : ℕ) : Type 0 where
  pub one : List Changed
  pub first : AllocatesAt held old one near areas (Ok handle)
  pub puts : PutsInode one new handle inode

-- a handle is taken, and then the draft has sixteen blocks
pub record TakesOnly (held : Held) (old : List Changed) (near areas : ℕ) : Type 0 where
  pub handle : ℕ
  pub one : List Changed
  pub first : AllocatesAt held old one near areas (Ok handle)
  pub many : 16 ≤ length one

-- What making a link answers: what taking a handle does, and it is crowded where the draft has sixteen blocks before the inode is put.
abbrev pub LinksAt : Held → List Changed → List Changed → Inode → ℕ → ℕ → Result ℕ ChunkError → Type 0
LinksAt held old new inode near areas (Ok handle) = LinksOne held old new inode near areas handle
LinksAt held old new inode near areas (Err error) = AllocatesAt held old old near areas (Err error) ⊎ ((error ≡ Crowded) × TakesOnly held old near areas)
