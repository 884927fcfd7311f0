-- What is wrong with a page that a walk over a tree meets: level by level from the root down, and on each level by right links.
use Rattle.std.specs.Prelude.{◌≡◌, ℕ, ◌+◌, List, [], Option, Some, None}
use Rattle.bx_page.specs.Contents.{Contents}
use Rattle.bx_truth.specs.PageTrees.{Chunks, Node, IsIn, IsInterior}
use Rattle.bx_audit_pages.specs.Pages.{IsLevelFrom, IsPageAt, IsPlaced, LeadsTo}
use Rattle.bx_audit_pages.specs.Trees.{HasFirst, IsTop, LiesBelow, NamesFirst}

-- The pages of a level under a root: the root alone is the highest one, and each other level lies below the pages of the one above it.
pub data AreUnder (chunks : Chunks) (root : ℕ) : ℕ → List Node → Type 0 where
  Highest : (level : ℕ) (nodes : List Node) → IsTop chunks root level nodes → AreUnder chunks root level nodes
  Lower : (level : ℕ) (above nodes : List Node) → AreUnder chunks root (level + 1) above → LiesBelow chunks level above nodes → AreUnder chunks root level nodes

-- Where a walk to the right along a level comes, which begins at its first page: to a handle, whose page's range is to begin at a key. It goes on only
-- behind a page that is in its place.
pub data ComesTo (chunks : Chunks) (level first : ℕ) : List ℕ → ℕ → Type 0 where
  Start : ComesTo chunks level first [] first
  Next : (begins high : List ℕ) (handle right : ℕ) (page : Contents) → ComesTo chunks level first begins handle → IsPageAt chunks handle page → IsPlaced level begins page
      → LeadsTo page (Some (right, high)) → ComesTo chunks level first high right

-- Where it comes there is no page, or one that can't be there: of another level, with a key below the one where its range begins, with an empty
-- range, or with one of a right link and a high key without the other.
pub record IsTornAlong (chunks : Chunks) (level first wanted : ℕ) : Type 0 where
  pub begins : List ℕ
  pub met : ComesTo chunks level first begins wanted
  pub wrong : (page : Contents) (next : Option (ℕ × List ℕ)) → IsPageAt chunks wanted page → IsPlaced level begins page → LeadsTo page next → ⊥

-- one of some interior pages has no entry, or its first one names no handle
pub record IsChildless (above : List Node) (wanted : ℕ) : Type 0 where
  pub node : Node
  pub there : IsIn node above
  pub wrong : (child : ℕ) → HasFirst node.page.entries child → ⊥
  pub wanted_is : wanted ≡ node.handle

-- one of them doesn't begin at its range's key, or an entry of it names no page of the level below that begins at the entry's key
pub record IsAstray (above below : List Node) (wanted : ℕ) : Type 0 where
  pub node : Node
  pub there : IsIn node above
  pub wrong : IsInterior below node → ⊥
  pub wanted_is : wanted ≡ node.handle

-- Which page is wrong, so that no tree is under a root: the root is no page that is alone on its level; a page of a level is none, or is in no right place
-- there; or an interior page doesn't name the pages of the level below, whose levels above are right.
pub data IsTornPage (chunks : Chunks) (root wanted : ℕ) : Type 0 where
  Root : ((page : Contents) → IsPageAt chunks root page → IsPlaced page.level [] page → LeadsTo page None → ⊥) → wanted ≡ root → IsTornPage chunks root wanted
  Along : (level first : ℕ) (above : List Node) → AreUnder chunks root (level + 1) above → NamesFirst above first → IsTornAlong chunks level first wanted → IsTornPage chunks root wanted
  Childless : (level : ℕ) (above : List Node) → AreUnder chunks root (level + 1) above → IsChildless above wanted → IsTornPage chunks root wanted
  Astray : (level first : ℕ) (above below : List Node) → AreUnder chunks root (level + 1) above → NamesFirst above first → IsLevelFrom chunks level first below → IsAstray above below wanted
      → IsTornPage chunks root wanted
