-- Where a key is in a tree.
use Rattle.std.specs.Prelude.{◌≡◌, ℕ, ◌≤◌, false, List, IfSome}
use Rattle.bx_page.specs.Keys.{is_below, IsBelow}
use Rattle.bx_page.specs.Contents.{Contents}
use Rattle.bx_truth.specs.PageTrees.{Node, IsIn, PageTree}

-- A key's page on a level of a tree: the key is in the page's range.
pub record IsPlaceOf (tree : PageTree) (level : ℕ) (key : List ℕ) (handle : ℕ) (page : Contents) : Type 0 where
  pub node : Node
  pub within : level ≤ tree.height
  pub there : IsIn node (tree.level level)
  pub handle_is : node.handle ≡ handle
  pub page_is : node.page ≡ page
  pub from : is_below key node.begins ≡ false
  pub to : IfSome node.page.high (IsBelow key)
