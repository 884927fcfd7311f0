-- B-link trees: which pages a tree has, how they hang together, and the map that it is.
use Rattle.std.specs.Prelude.{◌≡◌, ℕ, ◌+◌, ◌<◌, ◌≤◌, false, ◌==◌, if◌then◌else◌, List, [], ◌∷◌, ◌++◌, length, All, Option, Some, None, IfSome}
use Rattle.std.specs.List.{flat_map}
use Rattle.std.specs.Option.{option_map}
use Rattle.std.specs.Int.{w64, from_be_bytes}
use Rattle.bx_views.specs.bx_layout.specs.declared.block.Block.{Block}
use Rattle.bx_page.specs.declared.entry.Entry.{Entry}
use Rattle.bx_page.specs.Keys.{is_below, IsBelow}
use Rattle.bx_page.specs.Contents.{Contents, first, below, above}
use Rattle.bx_page.specs.Spelling.{Spells}

-- which block each handle in use names
abbrev pub Chunks : Type 0
Chunks = ℕ → Option Block

-- a member of a list, with what is before it and behind it
pub record IsIn {X : Type 0} (x : X) (xs : List X) : Type 0 where
  pub before : List X
  pub behind : List X
  pub parts : xs ≡ before ++ x ∷ behind

-- a page of a tree: its handle, the key where its range begins, and its contents
pub record Node : Type 0 where
  pub handle : ℕ
  pub begins : List ℕ
  pub page : Contents

-- the block is a page with these contents
pub record HasPage (page : Contents) (block : Block) : Type 0 where
  pub kind : block.kind ≡ 2
  pub spells : Spells page block.payload

-- What each page of a level is: the chunk of its handle, of that level. Its keys aren't below the key where its range
-- begins, and its range isn't empty. (That its keys are below its high key holds of every page.)
pub record IsNode (chunks : Chunks) (level : ℕ) (node : Node) : Type 0 where
  pub block : Block
  pub chunk : chunks node.handle ≡ Some block
  pub has : HasPage node.page block
  pub same_level : node.page.level ≡ level
  pub lowest : All (λ entry. is_below entry.key node.begins ≡ false) node.page.entries
  pub highest : IfSome node.page.high (IsBelow node.begins)

-- a page's right link names the next page of its level, whose range begins at the high key
pub record IsNext (node next : Node) : Type 0 where
  pub right : node.page.right ≡ next.handle
  pub high : node.page.high ≡ Some next.begins

-- the last page of a level has neither
pub record IsLast (page : Contents) : Type 0 where
  pub right : page.right ≡ 0
  pub high : page.high ≡ None

-- from this page on each page leads to the next
abbrev pub PagesLead : Node → List Node → Type 0
PagesLead node [] = IsLast node.page
PagesLead node (next ∷ others) = IsNext node next × PagesLead next others

-- the first page's range begins at the empty key, and each page leads to the next
abbrev pub IsChain : List Node → Type 0
IsChain [] = ⊥
IsChain (node ∷ others) = (node.begins ≡ []) × PagesLead node others

-- the pages of a level
pub record IsLevel (chunks : Chunks) (level : ℕ) (nodes : List Node) : Type 0 where
  pub nodes_are : (node : Node) → IsIn node nodes → IsNode chunks level node
  pub chain : IsChain nodes

-- the handle that the value of an interior entry is, 0 where the value hasn't got eight bytes
abbrev pub handle_in : List ℕ → ℕ
handle_in value = if length value == 8 then from_be_bytes w64 value else 0

-- an interior entry names a page of the level below whose range begins at the entry's key
pub record NamesChild (children : List Node) (entry : Entry) : Type 0 where
  pub child : Node
  pub there : IsIn child children
  pub eight : length entry.value ≡ 8
  pub value : from_be_bytes w64 entry.value ≡ child.handle
  pub key : entry.key ≡ child.begins

-- an interior page has an entry, of which the first one's key is where the page's range begins
pub record IsInterior (children : List Node) (node : Node) : Type 0 where
  pub first : option_map (λ entry. entry.key) (first node.page.entries) ≡ Some node.begins
  pub names : All (NamesChild children) node.page.entries

-- a tree: how many levels are above the leaves, and the pages of each level, from the left
pub record PageTree : Type 0 where
  pub height : ℕ
  pub level : ℕ → List Node

-- the chunks hold this tree under this root
pub record IsTree (chunks : Chunks) (root : ℕ) (tree : PageTree) : Type 0 where
  pub levels : (level : ℕ) → level ≤ tree.height → IsLevel chunks level (tree.level level)
  pub interior : (level : ℕ) → level < tree.height → (node : Node) → IsIn node (tree.level (level + 1)) → IsInterior (tree.level level) node
  pub top : Node
  pub root_alone : tree.level tree.height ≡ top ∷ []
  pub root_is : top.handle ≡ root

-- a page of the tree
pub record IsPageOf (tree : PageTree) (node : Node) : Type 0 where
  pub level : ℕ
  pub within : level ≤ tree.height
  pub there : IsIn node (tree.level level)

-- the entries of pages, one after the other
abbrev pub entries_of : List Node → List Entry
entries_of nodes = flat_map (λ node. node.page.entries) nodes

-- The map that a tree is: the entries of its leaves, in the order of their keys.
abbrev pub map_of : PageTree → List Entry
map_of tree = entries_of (tree.level 0)

-- the map without a key
abbrev pub map_without : List Entry → List ℕ → List Entry
map_without map key = below map key ++ above map key
