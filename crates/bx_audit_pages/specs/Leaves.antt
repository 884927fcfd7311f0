-- The page of a level where a key is.
use Rattle.std.specs.Prelude.{◌≡◌, ℕ, false, List, ◌∷◌, ◌++◌, All}
use Rattle.bx_page.specs.Keys.{is_below, IsBelow}
use Rattle.bx_truth.specs.PageTrees.{Node}

-- the key isn't below where the page's range begins, and is below where those of all pages behind it begin
pub record IsLeafFor (nodes : List Node) (key : List ℕ) (node : Node) : Type 0 where
  pub before : List Node
  pub behind : List Node
  pub parts : nodes ≡ before ++ node ∷ behind
  pub from : is_below key node.begins ≡ false
  pub to : All (λ other. IsBelow key other.begins) behind
