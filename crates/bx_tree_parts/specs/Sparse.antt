-- Contents of files, as lists of bytes and as pieces.
use Rattle.std.specs.Prelude.{◌≡◌, ℕ, ◌*◌, ◌<◌, ◌≤◌, List, length, take, drop, slice_index}
use Rattle.bx_tree_parts.specs.declared.pieces.Pieces.{Pieces}
use Rattle.bx_tree_parts.specs.Bytes.{bytes_from}
use Rattle.bx_tree_parts.specs.Pieces.{byte_at, AreWhole}

-- so many bytes, by the pieces
abbrev pub bytes_in : Pieces → ℕ → List ℕ
bytes_in pieces size = bytes_from (byte_at pieces) 0 size

-- what holds of the pieces of a content: each is whole, and no byte behind the end is anything but zero
pub record IsContent (pieces : Pieces) (size : ℕ) : Type 0 where
  pub whole : AreWhole pieces
  pub behind : (place : ℕ) → size ≤ place → byte_at pieces place ≡ 0

-- all bytes from a place on are zero
abbrev pub AreZerosFrom : List ℕ → ℕ → Type 0
AreZerosFrom bytes start = (place : ℕ) → start ≤ place → slice_index bytes place ≡ 0

-- the piece with an index has these bytes, and no piece before it, from another on, has a byte that isn't zero
pub record IsNext (bytes : List ℕ) (from index : ℕ) (piece : List ℕ) : Type 0 where
  pub above : from ≤ index
  pub within : 4096 * index < length bytes
  pub is : piece ≡ take 4096 (drop (4096 * index) bytes)
  pub before : (place : ℕ) → 4096 * from ≤ place → place < 4096 * index → slice_index bytes place ≡ 0
