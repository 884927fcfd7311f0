-- Where a walk in a tree is, and where it ends.
use Rattle.std.proofs.Common.{◌≡◌, ℕ, ◌<◌, ◌≤◌, false, List, Option, Some, None}
use Rattle.bx_page.specs.Keys.{is_below, IsBelow}
use Rattle.bx_blink.specs.declared.steps.Spot.{Spot}
use Rattle.bx_blink.specs.declared.steps.End.{End}
use Rattle.bx_blink.specs.declared.steps.End.TheVariants.{Needs, Lost, Lands}
use Rattle.bx_blink.specs.declared.steps.Out.{Out}
use Rattle.bx_blink.specs.declared.steps.Out.TheVariants.{Goes, Stops}
use Rattle.bx_truth.specs.PageTrees.{Node, IsIn, PageTree}
use Rattle.bx_blink.specs.Hints.{Place}
use Rattle.bx_blink.specs.Places.{IsPlaceOf}

-- a walk in a tree ends at the key's page, or needs a block
abbrev pub IsRightEnd : PageTree → ℕ → List ℕ → End → Type 0
IsRightEnd tree level key (Needs at mode) = Unit {0}
IsRightEnd tree level key Lost = ⊥
IsRightEnd tree level key (Lands handle page) = IsPlaceOf tree level key handle page

-- where a spot is: at a page of the tree, or, where a hint led to it, where a page of the tree is or was
pub data Onto (home : ℕ → Option Place) (tree : PageTree) (spot : Spot) (level : ℕ) (begins : List ℕ) : Type 0 where
  known : (node : Node) → IsIn node (tree.level level) → level ≤ tree.height → node.handle ≡ spot.handle → node.begins ≡ begins → Onto home tree spot level begins
  old : (via : ℕ) → spot.via ≡ Some via → home spot.handle ≡ Some (record { level = level; begins = begins }) → Onto home tree spot level begins

-- a page comes behind another on a walk: it is lower, or further to the right
pub data Behind (p : Place) (level : ℕ) (begins : List ℕ) : Type 0 where
  lower : level < p.level → Behind p level begins
  further : level ≡ p.level → IsBelow p.begins begins → Behind p level begins

-- a spot that a page led to
abbrev pub IsSince : (ℕ → Option Place) → Spot → Option Place → ℕ → ℕ → List ℕ → Type 0
IsSince home spot None rank level begins = Unit {0}
IsSince home spot (Some p) rank level begins = Behind p level begins × (home spot.handle ≡ Some (record { level = level; begins = begins })) × (rank ≡ level)

-- the page that a walk is at, or was to be at, isn't below the wanted level, and begins at or below the key
pub record IsOnWay (home : ℕ → Option Place) (root most : ℕ) (tree : PageTree) (target : ℕ) (key : List ℕ) (low : Option Place) (spot : Spot) : Type 0 where
  pub level : ℕ
  pub begins : List ℕ
  pub enough : target ≤ level
  pub from : is_below key begins ≡ false
  pub onto : Onto home tree spot level begins
  pub rank : ℕ
  pub ranked : level ≤ rank
  pub rooted : spot.handle ≡ root → most ≤ rank
  pub since : IsSince home spot low rank level begins

abbrev pub After : (ℕ → Option Place) → ℕ → ℕ → PageTree → ℕ → List ℕ → Place → Out → Type 0
After home root most tree target key low (Goes next) = IsOnWay home root most tree target key (Some low) next
After home root most tree target key low (Stops end) = IsRightEnd tree target key end
