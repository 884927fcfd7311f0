-- A piece of a regular file that is put, in its place or anew, or cut.
use Rattle.std.specs.Prelude.{◌≡◌, ◌≢◌, ℕ, ◌^◌, ◌<◌, ◌⊎◌, ◌==◌, if◌then◌else◌, List, bytes_eq, Option, Some, None}
use Rattle.bx_views.specs.bx_layout.specs.declared.block.Block.{Block}
use Rattle.bx_page.specs.Contents.{value_of}
use Rattle.bx_truth.specs.Keys.{content_key, content_value}
use Rattle.bx_truth.specs.Stored.{Owner, DataOf, Stored, piece_of}
use Rattle.bx_truth.specs.PageTrees.{Chunks, Node, PageTree, IsTree, IsPageOf, map_of}
use Rattle.bx_truth.specs.Edits.{HasPagesOf}

-- The tree under the same root is another one, with the same pages by their handles, and all chunks stay but these and the one of a
-- piece.
pub record TreeAround (chunks now : Chunks) (stored : Stored) (after : PageTree) (names : ℕ) : Type 0 where
  pub is : IsTree now stored.inode.tree after
  pub back : HasPagesOf after stored.tree
  pub forth : HasPagesOf stored.tree after
  pub others : (h : ℕ) → h ≢ names → ((node : Node) → IsPageOf stored.tree node → node.handle ≢ h) → now h ≡ chunks h

-- The piece with an index is this block under this handle, which was the piece's or named nothing. The tree's other entries stay.
pub record PutsPiece (chunks now : Chunks) (owner : ℕ → Owner) (handle : ℕ) (stored : Stored) (after : PageTree) (index names : ℕ) (block : Block) : Type 0 where
  pub was : (chunks names ≡ None) ⊎ ((b : Block) × (chunks names ≡ Some b) × (owner names ≡ DataOf handle index))
  pub index_fits : index < 2 ^ 32
  pub names_fits : names < 2 ^ 64
  pub kind : block.kind ≡ 3
  pub here : now names ≡ Some block
  pub values : (key : List ℕ) → value_of (map_of after) key ≡ (if bytes_eq key (content_key index) then Some (content_value names) else value_of (map_of stored.tree) key)
  pub none_else : (other : ℕ) → value_of (map_of stored.tree) (content_key index) ≡ Some (content_value other) → other < 2 ^ 64 → other ≡ names
  pub around : TreeAround chunks now stored after names

-- The piece with an index, which this handle named, is no more, and the handle names nothing. The tree's other entries stay.
pub record CutsPiece (chunks now : Chunks) (stored : Stored) (after : PageTree) (index names : ℕ) : Type 0 where
  pub was : value_of (map_of stored.tree) (content_key index) ≡ Some (content_value names)
  pub index_fits : index < 2 ^ 32
  pub names_fits : names < 2 ^ 64
  pub gone : now names ≡ None
  pub values : (key : List ℕ) → value_of (map_of after) key ≡ (if bytes_eq key (content_key index) then None else value_of (map_of stored.tree) key)
  pub around : TreeAround chunks now stored after names

-- the pieces, with this one
abbrev pub pieces_with : Chunks → Stored → ℕ → Block → ℕ → Option Block
pieces_with chunks stored index block i = if i == index then Some block else piece_of chunks stored.tree i

-- the pieces, without the one with an index
abbrev pub pieces_without : Chunks → Stored → ℕ → ℕ → Option Block
pieces_without chunks stored index i = if i == index then None else piece_of chunks stored.tree i
