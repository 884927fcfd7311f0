-- The bytes of regular files, piece by piece.
use Rattle.std.specs.Prelude.{◌≡◌, ℕ, ◌+◌, ◌-◌, ◌*◌, ◌<◌, ◌≤◌, nat_lt, if◌then◌else◌, List, take, slice_index}
use Rattle.bx_audit_files.specs.Inodes.{IsBlockAt}
use Rattle.bx_layout.specs.declared.block.Block.{Block}
use Rattle.bx_tree_files.specs.Contents.{written_over}
use Rattle.bx_truth.specs.PageTrees.{Chunks}
use Rattle.bx_audit_bodies.specs.declared.pieces.Piece.{Piece}

-- the bytes of the piece with an index are zero from the tail on
abbrev pub IsClear : ℕ → ℕ → List ℕ → Type 0
IsClear tail index payload = (place : ℕ) → place < 4096 → tail ≤ 4096 * index + place → slice_index payload place ≡ 0

-- the bytes of a file of a size, with those of the piece with an index put into it
abbrev pub with_piece : ℕ → ℕ → List ℕ → List ℕ → List ℕ
with_piece size index payload bytes =
    if nat_lt (4096 * index) size then written_over (4096 * index) (take (size - 4096 * index) (take 4096 payload)) bytes else bytes

-- the block of a piece, clear from the tail on, was put into the bytes of a file of a size
pub record AddsPiece (chunks : Chunks) (piece : Piece) (size tail : ℕ) (old new : List ℕ) : Type 0 where
  pub block : Block
  pub at : IsBlockAt chunks piece.handle 3 block
  pub clear : IsClear tail piece.index block.payload
  pub new_is : new ≡ with_piece size piece.index block.payload old

-- a piece has a block that is clear from the tail on
pub record HasClear (chunks : Chunks) (tail : ℕ) (piece : Piece) : Type 0 where
  pub block : Block
  pub at : IsBlockAt chunks piece.handle 3 block
  pub clear : IsClear tail piece.index block.payload
