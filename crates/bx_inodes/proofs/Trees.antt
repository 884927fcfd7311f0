-- Hints of one page tree, and of the same tree by other lists of pages.
use Rattle.std.proofs.Common.{◌≡◌, ℕ, ◌-◌, ◌≤◌, arith, sym, subst}
use Rattle.bx_blink.specs.bx_truth.specs.Chunks.{chunks_of}
use Rattle.bx_blink.specs.bx_truth.specs.PageTrees.{PageTree, IsIn, IsTree}
use Rattle.bx_blink.specs.bx_truth.proofs.OneTree.{same_height, same_levels}
use Rattle.bx_blink.specs.bx_views.specs.Truths.{Truth, Hints}
use Rattle.bx_inodes.specs.Hints.{HintsFit, Place, PlaceStands}

module _ (areas : ℕ) (hints : Hints) (truth : Truth) (root : ℕ) (a b : PageTree) (is_a : IsTree (chunks_of areas truth) root a) (is_b : IsTree (chunks_of areas truth) root b) (fit : HintsFit areas hints truth root a) where
  height : a.height ≡ b.height
  height = same_height (chunks_of areas truth) root a b is_a is_b

  level_same : (level : ℕ) → level ≤ a.height → a.level level ≡ b.level level
  level_same level le = same_levels (chunks_of areas truth) root a b is_a is_b (a.height - level) level (omega (arith, le))

  stands_in : (handle : ℕ) (place : Place) → PlaceStands a handle place → PlaceStands b handle place
  stands_in handle place s = record {
    node = s.node;
    within = let w = s.within in omega (arith, w, height);
    there = subst (IsIn s.node) (level_same place.level s.within) s.there;
    handle_is = s.handle_is;
    begins_is = s.begins_is;
  }

  pub fit_other : HintsFit areas hints truth root b
  fit_other = record {
    agree = record {
      home = fit.agree.home;
      names = fit.agree.names;
      root_apart = fit.agree.root_apart;
      most = fit.agree.most;
      highest = let h = fit.agree.highest in omega (arith, h, height);
      placed = λ level node less there.
          fit.agree.placed level node (omega (arith, less, height)) (subst (IsIn node) (sym (level_same level (omega (arith, less, height)))) there);
      stands = λ handle place block home_is some. stands_in handle place (fit.agree.stands handle place block home_is some);
      hints = fit.agree.hints;
      root_hints = fit.agree.root_hints;
    };
    given = record { homes = fit.given.homes; hints = fit.given.hints };
  }
