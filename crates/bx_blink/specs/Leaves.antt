-- What a search for the first leaf with an entry from a key on answers: by how its run ends, on any content; and by the map, where there is a
-- tree.
use Rattle.std.specs.Prelude.{◌≡◌, ℕ, ◌⊎◌, List, [], ◌++◌, Option, Some, None, IfSome, Result, Ok, Err}
use Rattle.bx_page.specs.declared.entry.Entry.{Entry}
use Rattle.bx_page.specs.Contents.{Contents, IsInOrder, from}
use Rattle.bx_page.specs.Keys.{IsBelow}
use Rattle.bx_truth.specs.PageTrees.{IsIn, Node, PageTree, map_of}
use Rattle.bx_blink.specs.declared.error.BlinkError.{BlinkError}
use Rattle.bx_blink.specs.declared.error.BlinkError.TheVariants.{Need, Stale, Full, NoRoom, Absent, Present, OutOfMemory, Crowded}
use Rattle.bx_blink.specs.declared.runs.RunEnd.{RunEnd}
use Rattle.bx_blink.specs.declared.runs.RunEnd.TheVariants.{Wants, Broken, First, Nothing}
use Rattle.bx_blink.specs.declared.steps.End.{End}
use Rattle.bx_blink.specs.declared.steps.End.TheVariants.{Needs, Lost, Lands}

-- a run ends at this leaf, with this key, from which on the leaf has an entry
pub record EndsAt (E : RunEnd → Type 0) (key : List ℕ) (page : Contents) : Type 0 where
  pub entry : Entry
  pub end : E (First key page entry)

-- what it answers, by a run's end
abbrev pub LeafAt : (RunEnd → Type 0) → Result (Option (List ℕ × Contents)) BlinkError → Type 0
LeafAt E (Ok (Some found)) = EndsAt E found.0 found.1
LeafAt E (Ok None) = E Nothing
LeafAt E (Err (Need at mode)) = E (Wants at mode)
LeafAt E (Err Stale) = E Broken
LeafAt E (Err OutOfMemory) = Unit {0}
LeafAt E (Err Absent) = ⊥
LeafAt E (Err (Full spare)) = ⊥
LeafAt E (Err (NoRoom leaf)) = ⊥
LeafAt E (Err Present) = ⊥
LeafAt E (Err Crowded) = ⊥

-- a leaf of a tree whose range begins at a key
pub record IsLeafOf (tree : PageTree) (begins : List ℕ) (handle : ℕ) : Type 0 where
  pub node : Node
  pub there : IsIn node (tree.level 0)
  pub handle_is : node.handle ≡ handle
  pub begins_is : node.begins ≡ begins

-- where a search may begin in the tree under a root: there, or at the leaf whose range begins at the key
abbrev pub BeginsAt : ℕ → PageTree → List ℕ → ℕ → Type 0
BeginsAt root tree key handle = (handle ≡ root) ⊎ IsLeafOf tree key handle

-- the entries behind a leaf of a map: those from its high key on
abbrev pub behind_leaf : List Entry → Option (List ℕ) → List Entry
behind_leaf map None = []
behind_leaf map (Some high) = from map high

-- The entries from a key on are those that the leaf has from another key on, and those behind the leaf; and the leaf on its right is the one
-- whose range begins at its high key.
pub record IsNextLeaf (tree : PageTree) (key other : List ℕ) (page : Contents) : Type 0 where
  pub entries : from (map_of tree) key ≡ from page.entries other ++ behind_leaf (map_of tree) page.high
  pub onward : IfSome page.high (λ high. IsLeafOf tree high page.right)

-- What it answers, by the map. In a tree it is never lost.
abbrev pub LeafIn : PageTree → List ℕ → Result (Option (List ℕ × Contents)) BlinkError → Type 0
LeafIn tree key (Ok (Some found)) = IsNextLeaf tree key found.0 found.1
LeafIn tree key (Ok None) = from (map_of tree) key ≡ []
LeafIn tree key (Err (Need at mode)) = Unit {0}
LeafIn tree key (Err OutOfMemory) = Unit {0}
LeafIn tree key (Err Stale) = ⊥
LeafIn tree key (Err Absent) = ⊥
LeafIn tree key (Err (Full spare)) = ⊥
LeafIn tree key (Err (NoRoom leaf)) = ⊥
LeafIn tree key (Err Present) = ⊥
LeafIn tree key (Err Crowded) = ⊥

-- a walk lands at this leaf
pub record LandsOn (E : End → Type 0) (page : Contents) : Type 0 where
  pub handle : ℕ
  pub end : E (Lands handle page)

-- what the search for the leaf of a key answers, by a walk's end
abbrev pub LandsIn : (End → Type 0) → Result Contents BlinkError → Type 0
LandsIn E (Ok page) = LandsOn E page
LandsIn E (Err (Need at mode)) = E (Needs at mode)
LandsIn E (Err Stale) = E Lost
LandsIn E (Err OutOfMemory) = ⊥
LandsIn E (Err Absent) = ⊥
LandsIn E (Err (Full spare)) = ⊥
LandsIn E (Err (NoRoom leaf)) = ⊥
LandsIn E (Err Present) = ⊥
LandsIn E (Err Crowded) = ⊥

-- The leaf of a key: the entries from the key on are those of the leaf, and those behind it; the key is below its high key, and its own
-- keys rise below that.
pub record IsLeafFor (tree : PageTree) (key : List ℕ) (page : Contents) : Type 0 where
  pub entries : from (map_of tree) key ≡ from page.entries key ++ behind_leaf (map_of tree) page.high
  pub below : IfSome page.high (IsBelow key)
  pub in_order : IsInOrder page

-- What it answers, by the map. In a tree it is never lost.
abbrev pub LeafHas : PageTree → List ℕ → Result Contents BlinkError → Type 0
LeafHas tree key (Ok page) = IsLeafFor tree key page
LeafHas tree key (Err (Need at mode)) = Unit {0}
LeafHas tree key (Err Stale) = ⊥
LeafHas tree key (Err OutOfMemory) = Unit {0}
LeafHas tree key (Err Absent) = ⊥
LeafHas tree key (Err (Full spare)) = ⊥
LeafHas tree key (Err (NoRoom leaf)) = ⊥
LeafHas tree key (Err Present) = ⊥
LeafHas tree key (Err Crowded) = ⊥
