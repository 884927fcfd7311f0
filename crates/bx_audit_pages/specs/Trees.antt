-- Page trees as they are read, level by level from the root down.
use Rattle.std.specs.Prelude.{◌≡◌, ℕ, ◌-◌, List, [], ◌∷◌, length, slice_index_or}
use Rattle.std.specs.Int.{w64, from_be_bytes}
use Rattle.bx_page.specs.declared.entry.Entry.{Entry}
use Rattle.bx_truth.specs.PageTrees.{Chunks, Node, IsIn, IsLevel, IsInterior, PageTree}

-- the nodes are the level below the pages of another one
pub record LiesBelow (chunks : Chunks) (level : ℕ) (above nodes : List Node) : Type 0 where
  pub is : IsLevel chunks level nodes
  pub interior : (node : Node) → IsIn node above → IsInterior nodes node

-- the first of some entries names this handle
pub record HasFirst (entries : List Entry) (handle : ℕ) : Type 0 where
  pub entry : Entry
  pub others : List Entry
  pub parts : entries ≡ entry ∷ others
  pub eight : length entry.value ≡ 8
  pub handle_is : from_be_bytes w64 entry.value ≡ handle

-- the first entry of the first page does
pub record NamesFirst (above : List Node) (handle : ℕ) : Type 0 where
  pub head : Node
  pub rest : List Node
  pub parts : above ≡ head ∷ rest
  pub first : HasFirst head.page.entries handle

-- one page, the root's, is the whole level
pub record IsTop (chunks : Chunks) (root level : ℕ) (nodes : List Node) : Type 0 where
  pub is : IsLevel chunks level nodes
  pub node : Node
  pub alone : nodes ≡ node ∷ []
  pub root_is : node.handle ≡ root

-- the tree whose levels these are, that of the leaves first
abbrev pub tree_of : List (List Node) → PageTree
tree_of levels = record { height = length levels - 1; level = λ n. slice_index_or levels n [] }
