-- The drafts over which the pieces of a file are written, and what one that isn't there asks for over such a draft.
use Rattle.std.specs.Prelude.{◌≡◌, ℕ, ◌<◌, ◌≤◌, ◌⊎◌, List, [], Option, None, Some, Ok, Err}
use Rattle.bx_base.specs.declared.names.Mode.{Mode}
use Rattle.bx_blink.specs.Walks.{reads_with}
use Rattle.bx_chunks.specs.Allocating.{AllocatesAt}
use Rattle.bx_chunks.specs.Taking.{NoSlots}
use Rattle.bx_chunks.specs.declared.error.ChunkError.TheVariants.{Need, Full}
use Rattle.bx_files.specs.Paths.{LandsAtValue}
use Rattle.bx_inodes.specs.Writing.{PutsInode}
use Rattle.bx_layout.specs.declared.inode.Inode.{Inode}
use Rattle.bx_leaves.specs.Leaves.{InsertsAt, OnLeafPath}
use Rattle.bx_records.specs.Drafts.{Changed}
use Rattle.bx_truth.specs.Keys.{content_key, content_value}
use Rattle.bx_truth.specs.PageTrees.{handle_in}
use Rattle.bx_views.specs.Truths.{Held, Hints}
use Rattle.bx_writes.specs.Steps.{PutsBlock}

-- a slot is taken near an area, and the block of a piece is put there
pub record TakesPiece (held : Held) (near areas : ℕ) (old new : List Changed) (names : ℕ) : Type 0 where
  pub one : List Changed
  pub takes : AllocatesAt held old one near areas (Ok names)
  pub payload : List ℕ
  pub puts : PutsBlock one names payload new

-- A draft has the inode of a file with a handle, whose tree has this root, and then pieces that are written one after the other: such that a search over
-- the view finds, and such that take a slot near an area and get an entry in the tree.
pub data IsLaid (held : Held) (hints : Hints) (near areas handle root : ℕ) : List Changed → Type 0 where
  alone : (new : List Changed) (inode : Inode) → inode.tree ≡ root → PutsInode [] new handle inode → IsLaid held hints near areas handle root new
  over : (old new : List Changed) (index : ℕ) (value payload : List ℕ) → IsLaid held hints near areas handle root old → LandsAtValue held hints root (content_key index) (Some value)
      → PutsBlock old (handle_in value) payload new → IsLaid held hints near areas handle root new
  anew : (old mid new : List Changed) (index names : ℕ) → IsLaid held hints near areas handle root old → TakesPiece held near areas old mid names
      → InsertsAt held hints mid new root (content_key index) (content_value names) (Ok tt) → IsLaid held hints near areas handle root new

-- what a piece that isn't there asks for over such a draft: what the next slot needs, and what putting its entry does
pub data OnAnew (held : Held) (hints : Hints) (near areas handle root index : ℕ) : ℕ → Mode → Type 0 where
  slot : (draft : List Changed) (at : ℕ) (mode : Mode) → IsLaid held hints near areas handle root draft
      → AllocatesAt held draft draft near areas (Err (Need at mode)) → OnAnew held hints near areas handle root index at mode
  entry : (draft mid : List Changed) (names at : ℕ) (mode : Mode) → IsLaid held hints near areas handle root draft → TakesPiece held near areas draft mid names
      → OnLeafPath (reads_with held hints mid) root (content_key index) at mode → OnAnew held hints near areas handle root index at mode

-- no slot is left for it, or for the pages that its entry wants first
abbrev pub NoneLeft : Held → Hints → ℕ → ℕ → ℕ → ℕ → ℕ → Type 0
NoneLeft held hints near areas handle root spare =
    NoSlots held near areas [] spare ⊎ ((draft : List Changed) × IsLaid held hints near areas handle root draft × AllocatesAt held draft draft near areas (Err (Full spare)))

-- what a search over the view finds of a piece: the number of its block's handle, if it has one
abbrev pub FoundBy : Held → Hints → ℕ → ℕ → Option ℕ → Type 0
FoundBy held hints root index (Some names) = (value : List ℕ) × LandsAtValue held hints root (content_key index) (Some value) × (names ≡ handle_in value)
FoundBy held hints root index None = LandsAtValue held hints root (content_key index) None

-- a piece with an index from one on, below another, isn't there, and no slot is left for it
pub record LacksSlot (held : Held) (hints : Hints) (near areas handle root from end spare : ℕ) : Type 0 where
  pub index : ℕ
  pub above : from ≤ index
  pub below : index < end
  pub missing : LandsAtValue held hints root (content_key index) None
  pub none : NoneLeft held hints near areas handle root spare
