-- What a file says of the chunks that its tree has.
use Rattle.std.specs.Prelude.{◌≡◌, ◌≢◌, ℕ, ◌<◌, ◌^◌, List, Contains, Option, Some, None}
use Rattle.bx_layout.specs.declared.block.Block.{Block}
use Rattle.bx_page.specs.Contents.{value_of}
use Rattle.bx_truth.specs.Keys.{content_key, content_value}
use Rattle.bx_truth.specs.PageTrees.{Chunks, Node, PageTree, IsPageOf, map_of}
use Rattle.bx_truth.specs.Stored.{Owner, PageOf, DataOf, Stored}
use Rattle.bx_audit_bodies.specs.declared.claims.Claim.{Claim}

-- what has a chunk that the inode with this handle claims: a page of its tree, or the block of the piece with this index
abbrev pub owner_by : ℕ → Option ℕ → Owner
owner_by inode None = PageOf inode
owner_by inode (Some index) = DataOf inode index

-- each chunk that is claimed has that owner
abbrev pub AgreesWith : (ℕ → Owner) → ℕ → List Claim → Type 0
AgreesWith owner inode claims = (claim : Claim) → Contains claims claim → owner claim.handle ≡ owner_by inode claim.piece

-- the handle is that of a page of the tree
pub record IsPageNamed (tree : PageTree) (handle : ℕ) : Type 0 where
  pub node : Node
  pub there : IsPageOf tree node
  pub names : node.handle ≡ handle

-- the tree names the chunk with this handle as the block of a piece
pub record IsPieceNamed (tree : PageTree) (handle index : ℕ) : Type 0 where
  pub index_fits : index < 2 ^ 32
  pub handle_fits : handle < 2 ^ 64
  pub names : value_of (map_of tree) (content_key index) ≡ Some (content_value handle)

-- a claim is one of a tree
abbrev pub IsNamedBy : PageTree → ℕ → Option ℕ → Type 0
IsNamedBy tree handle None = IsPageNamed tree handle
IsNamedBy tree handle (Some index) = IsPieceNamed tree handle index

-- the kind of the blocks of pages, and of those of pieces
abbrev pub kind_by : Option ℕ → ℕ
kind_by None = 2
kind_by (Some index) = 3

-- a chunk that is claimed is there, is of the kind that the claim says, and the tree of the inode, which has one, names it so
pub record IsClaim (chunks : Chunks) (stored : Stored) (claim : Claim) : Type 0 where
  pub block : Block
  pub chunk : chunks claim.handle ≡ Some block
  pub kind : block.kind ≡ kind_by claim.piece
  pub has_tree : stored.inode.tree ≢ 0
  pub named : IsNamedBy stored.tree claim.handle claim.piece

-- each claim of an inode is one of its tree
pub record AreClaims (chunks : Chunks) (stored : Stored) (claims : List Claim) : Type 0 where
  pub each : (claim : Claim) → Contains claims claim → IsClaim chunks stored claim
