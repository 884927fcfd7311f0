-- A file that is made.
use Rattle.std.specs.Prelude.{◌≡◌, ◌≢◌, ℕ, [], length, slice_index, Some, None}
use Rattle.bx_views.specs.bx_layout.specs.declared.block.Block.{Block}
use Rattle.bx_views.specs.bx_layout.specs.declared.inode.Inode.{Inode}
use Rattle.bx_model.specs.bx_tree_files.specs.declared.file.Body.{Body}
use Rattle.bx_model.specs.bx_tree_files.specs.declared.file.Body.TheVariants.{Bytes, Path, Names}
use Rattle.bx_truth.specs.PageTrees.{Chunks}

-- Two handles that named nothing name an inode and the page of its tree, and all other chunks stay.
pub record MakesTwo (chunks now : Chunks) (handle page : ℕ) (block page_block : Block) : Type 0 where
  pub fresh : chunks handle ≡ None
  pub fresh_page : chunks page ≡ None
  pub apart : page ≢ handle
  pub here : now handle ≡ Some block
  pub page_here : now page ≡ Some page_block
  pub others : (other : ℕ) → other ≢ handle → other ≢ page → now other ≡ chunks other

-- A handle that named nothing names an inode, and all other chunks stay.
pub record MakesOne (chunks now : Chunks) (handle : ℕ) (block : Block) : Type 0 where
  pub fresh : chunks handle ≡ None
  pub here : now handle ≡ Some block
  pub others : (other : ℕ) → other ≢ handle → now other ≡ chunks other

-- what a file is when its tree has no entries: zeros, or a directory without entries
abbrev pub IsEmptyBody : Inode → Body → Type 0
IsEmptyBody inode (Bytes bytes) = (inode.kind ≡ 1) × (length bytes ≡ inode.size) × ((place : ℕ) → slice_index bytes place ≡ 0)
IsEmptyBody inode (Path path) = ⊥
IsEmptyBody inode (Names parent next names) = (inode.kind ≡ 2) × (inode.parent ≡ parent) × (inode.next ≡ next) × (names ≡ [])
