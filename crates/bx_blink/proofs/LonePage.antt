-- A tree of one page agrees with no hints.
use Rattle.std.proofs.Common.{◌≡◌, ℕ, ◌<◌, Some, None, refl, arith}
use Rattle.bx_truth.specs.bx_layout.specs.declared.block.Block.{Block}
use Rattle.bx_truth.specs.Chunks.{chunks_of}
use Rattle.bx_truth.specs.bx_views.specs.Truths.{Truth, no_hints}
use Rattle.bx_truth.specs.PageTrees.{Chunks, PageTree}
use Rattle.bx_blink.specs.Hints.{Place, HintsAgree, HintsFit}

no_place : (place : Place) → None ≡ Some place → ⊥
no_place place e = cc

no_block : (block : Block) → None ≡ Some block → ⊥
no_block block e = cc

none_below : (level height : ℕ) → height ≡ 0 → level < height → ⊥
none_below level height e lt = omega arith

pub lone_page : (areas root : ℕ) (chunks : Chunks) (tree : PageTree) → tree.height ≡ 0 → HintsAgree areas no_hints chunks root tree
lone_page areas root chunks tree flat = record {
  home = λ handle. None;
  names = λ handle place e. absurd (no_place place e);
  root_apart = refl;
  most = 0;
  highest = omega (arith, flat);
  placed = λ level node lt there. absurd (none_below level tree.height flat lt);
  stands = λ handle place block e chunk. absurd (no_place place e);
  hints = λ handle place block page e hint header has above. absurd (no_place place e);
  root_hints = λ block page hint header has above. absurd (no_block block hint);
}

pub lone_fit : (areas root : ℕ) (truth : Truth) (tree : PageTree) → tree.height ≡ 0 → HintsFit areas no_hints truth root tree
unfolding lone_page
lone_fit areas root truth tree flat = record {
  agree = lone_page areas root (chunks_of areas truth) tree flat;
  given = record { homes = λ handle place e. absurd (no_place place e); hints = λ handle block hint header name. absurd (no_block block hint) };
}
