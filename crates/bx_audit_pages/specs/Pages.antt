-- Pages of a tree as they are read, one after the other.
use Rattle.std.specs.Prelude.{◌≡◌, ◌≢◌, ℕ, false, List, ◌∷◌, All, AllPairs, Option, Some, None, IfSome}
use Rattle.bx_layout.specs.declared.block.Block.{Block}
use Rattle.bx_page.specs.Contents.{Contents}
use Rattle.bx_page.specs.Keys.{is_below, IsBelow}
use Rattle.bx_truth.specs.PageTrees.{Chunks, Node, HasPage, IsLast, IsLevel}

-- the handle names a page with these contents
pub record IsPageAt (chunks : Chunks) (handle : ℕ) (page : Contents) : Type 0 where
  pub block : Block
  pub chunk : chunks handle ≡ Some block
  pub has : HasPage page block

-- the page is one of a level, and its range may begin at a key: none of its keys is below, and its high key is above
pub record IsPlaced (level : ℕ) (begins : List ℕ) (page : Contents) : Type 0 where
  pub same_level : page.level ≡ level
  pub lowest : All (λ entry. is_below entry.key begins ≡ false) page.entries
  pub highest : IfSome page.high (IsBelow begins)

-- where a page leads: to nothing, or to the page with a handle, whose range begins at a key
abbrev pub LeadsTo : Contents → Option (ℕ × List ℕ) → Type 0
LeadsTo page None = IsLast page
LeadsTo page (Some (handle, begins)) = (page.right ≡ handle) × (page.high ≡ Some begins) × (handle ≢ 0)

-- the pages of a level, the first of which has this handle
pub record IsLevelFrom (chunks : Chunks) (level first : ℕ) (nodes : List Node) : Type 0 where
  pub is : IsLevel chunks level nodes
  pub head : Node
  pub others : List Node
  pub parts : nodes ≡ head ∷ others
  pub first_is : head.handle ≡ first

-- the keys where pages begin rise
abbrev pub BeginningsRise : List Node → Type 0
BeginningsRise nodes = AllPairs (λ a b. IsBelow a.begins b.begins) nodes
