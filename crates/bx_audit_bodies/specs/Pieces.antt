-- The pieces of files, as the entries of their trees name them, and the blocks that they have.
use Rattle.std.specs.Prelude.{◌≡◌, ◌≢◌, ℕ, ◌^◌, ◌<◌, ◌==◌, if◌then◌else◌, List, [], ◌∷◌, All, AllPairs, drop, map, Option, None}
use Rattle.std.specs.Int.{w32, w64, from_be_bytes}
use Rattle.bx_audit_files.specs.Inodes.{IsBlockAt}
use Rattle.bx_layout.specs.declared.block.Block.{Block}
use Rattle.bx_page.specs.declared.entry.Entry.{Entry}
use Rattle.bx_truth.specs.Keys.{content_key, content_value}
use Rattle.bx_truth.specs.PageTrees.{Chunks}
use Rattle.bx_audit_bodies.specs.declared.pieces.Piece.{Piece}

-- the entry of a tree is a piece's
pub record IsOfPiece (piece : Piece) (entry : Entry) : Type 0 where
  pub index_fits : piece.index < 2 ^ 32
  pub handle_fits : piece.handle < 2 ^ 64
  pub key : entry.key ≡ content_key piece.index
  pub value : entry.value ≡ content_value piece.handle

-- an entry is that of some piece
pub record IsPieceEntry (entry : Entry) : Type 0 where
  pub piece : Piece
  pub is : IsOfPiece piece entry

-- what the entry of a piece tells
abbrev pub piece_in : Entry → Piece
piece_in entry = record { index = from_be_bytes w32 (drop 1 entry.key); handle = from_be_bytes w64 entry.value }

-- entries are those of pieces, one for one
pub record ArePieces (entries : List Entry) (pieces : List Piece) : Type 0 where
  pub each : All IsPieceEntry entries
  pub are : pieces ≡ map piece_in entries

-- no two pieces have one index
abbrev pub AreApart : List Piece → Type 0
AreApart pieces = AllPairs (λ a b. a.index ≢ b.index) pieces

-- the handle of a piece names a block of a piece
pub record HasPiece (chunks : Chunks) (piece : Piece) : Type 0 where
  pub block : Block
  pub at : IsBlockAt chunks piece.handle 3 block

-- the block of the piece with an index, where there is one
abbrev pub piece_among : Chunks → List Piece → ℕ → Option Block
piece_among chunks [] index = None
piece_among chunks (piece ∷ pieces) index = if piece.index == index then chunks piece.handle else piece_among chunks pieces index
