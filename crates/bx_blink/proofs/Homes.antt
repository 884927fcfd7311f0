-- The root has no home.
use Rattle.std.proofs.Common.{◌≡◌, ℕ, Option, Some, None, sym, ap, ◌∙◌}
use Rattle.bx_truth.specs.PageTrees.{Chunks, PageTree}
use Rattle.bx_blink.specs.Walks.{Reads}
use Rattle.bx_blink.specs.Hints.{Place, HintsAgree}

module _ (areas : ℕ) (reads : Reads) (chunks : Chunks) (root : ℕ) (tree : PageTree) (hints : HintsAgree areas reads.hint chunks root tree) where
  -- the root has no home
  pub not_home : (handle : ℕ) (place : Place) → hints.home handle ≡ Some place → handle ≡ root → ⊥
  not_home handle place e same = let both : ◌≡◌ {A = Option Place} None (Some place) = sym hints.root_apart ∙ ap hints.home (sym same) ∙ e in absurd cc
