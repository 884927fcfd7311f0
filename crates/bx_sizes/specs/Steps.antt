-- The steps of clearing a piece, by what is held.
use Rattle.std.specs.Prelude.{◌≡◌, ◌≢◌, ℕ, ◌-◌, ◌*◌, ◌<◌, ◌≤◌, ◌⊎◌, max, true, false, [], ◌∷◌, List, slice_index, None, Some, Result, Ok, Err}
use Rattle.bx_base.specs.declared.names.Mode.TheVariants.{Exclusive}
use Rattle.bx_inodes.specs.declared.stop.Stop.{Stop}
use Rattle.bx_inodes.specs.declared.stop.Stop.TheVariants.{Need, Inner, Status, OutOfMemory}
use Rattle.bx_inodes.specs.Writing.{PutsInode}
use Rattle.bx_layout.specs.declared.block.Block.{Block}
use Rattle.bx_layout.specs.declared.inode.Inode.{Inode}
use Rattle.bx_layout.specs.Blocks.{HasParts}
use Rattle.bx_places.specs.Places.{is_block}
use Rattle.bx_records.specs.Drafts.{Changed}
use Rattle.bx_truth.specs.Chunks.{block_at}
use Rattle.bx_views.specs.Truths.{Held}

-- the block of a handle is held exclusively
pub record HoldsPiece (held : Held) (names : ℕ) (block : Block) : Type 0 where
  pub there : held (block_at names) Exclusive ≡ Some block
  pub header : block.handle ≡ names

-- the block where a handle's is names another, or the volume has none there
pub record HoldsOther (held : Held) (names : ℕ) : Type 0 where
  pub block : Block
  pub there : held (block_at names) Exclusive ≡ Some block
  pub other : block.handle ≢ names

abbrev pub LacksPiece : ℕ → Held → ℕ → Type 0
LacksPiece areas held names = (is_block areas (block_at names) ≡ false) ⊎ HoldsOther held names

-- the block of a handle isn't held exclusively
pub record WantsPiece (areas : ℕ) (held : Held) (names at : ℕ) : Type 0 where
  pub at_is : at ≡ block_at names
  pub is : is_block areas at ≡ true
  pub missing : held at Exclusive ≡ None

-- what looking for the block of a handle answers; 70 is STALE
abbrev pub PieceAt : ℕ → Held → ℕ → Result Block Stop → Type 0
PieceAt areas held names (Ok block) = HoldsPiece held names block
PieceAt areas held names (Err (Need at mode)) = WantsPiece areas held names at × (mode ≡ Exclusive)
PieceAt areas held names (Err (Status status)) = (status ≡ 70) × LacksPiece areas held names
PieceAt areas held names (Err (Inner blocks)) = ⊥
PieceAt areas held names (Err OutOfMemory) = Unit {0}

-- a block under a handle that has the first bytes of another, and then zeros
pub record IsCleared (before : Block) (keep names : ℕ) (block : Block) : Type 0 where
  pub header : block.handle ≡ names
  pub kind : block.kind ≡ 3
  pub parts : HasParts block
  pub kept : (place : ℕ) → place < keep → slice_index block.payload place ≡ slice_index before.payload place
  pub cleared : (place : ℕ) → keep ≤ place → place < 4096 → slice_index block.payload place ≡ 0

-- how many bytes of a piece are below a size
abbrev pub kept_of : ℕ → ℕ → ℕ
kept_of size index = size - 4096 * index

-- the inode with a lower tail, once a piece with an index and all behind it are cleared
abbrev pub lowered : Inode → ℕ → Inode
lowered inode index = record inode { tail = max inode.size (4096 * index) }

-- A draft has the piece with what is behind the file's size cleared, and the inode with a lower tail.
pub record ClearsPiece (held : Held) (handle : ℕ) (inode : Inode) (index names : ℕ) (draft : List Changed) : Type 0 where
  pub before : Block
  pub holds : HoldsPiece held names before
  pub block : Block
  pub is : IsCleared before (kept_of inode.size index) names block
  pub puts : PutsInode ((block_at names, block) ∷ []) draft handle (lowered inode index)

-- what clearing a piece answers
abbrev pub ClearsAt : ℕ → Held → ℕ → Inode → ℕ → ℕ → Result (List Changed) Stop → Type 0
ClearsAt areas held handle inode index names (Ok draft) = ClearsPiece held handle inode index names draft
ClearsAt areas held handle inode index names (Err (Need at mode)) = WantsPiece areas held names at × (mode ≡ Exclusive)
ClearsAt areas held handle inode index names (Err (Status status)) = (status ≡ 70) × LacksPiece areas held names
ClearsAt areas held handle inode index names (Err (Inner blocks)) = ⊥
ClearsAt areas held handle inode index names (Err OutOfMemory) = Unit {0}
