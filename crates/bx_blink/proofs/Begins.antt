-- Where a search begins in a tree: at its root, or at a leaf that is on the way to its key.
use Rattle.std.proofs.Common.{◌≡◌, ℕ, zero, suc, ◌<◌, List, [], ◌∷◌, Option, Some, None, refl, sym, ap, subst, ◌∙◌, arith, inl, inr}
use Rattle.bx_base.specs.declared.names.Mode.TheVariants.{Shared}
use Rattle.bx_page.proofs.Order.{not_below_itself}
use Rattle.bx_truth.specs.PageTrees.{Chunks, Node, IsIn, PageTree, IsTree}
use Rattle.bx_blink.specs.Walks.{Reads, start}
use Rattle.bx_blink.specs.Hints.{Place, HintsAgree}
use Rattle.bx_blink.specs.Leaves.{BeginsAt, IsLeafOf}
use Rattle.bx_blink.proofs.Handles.{alone}
use Rattle.bx_blink.proofs.OnWay.{IsOnWay, known, lower}

pub data Begun (home : ℕ → Option Place) (root most : ℕ) (tree : PageTree) (key : List ℕ) (handle : ℕ) : Type 0 where
  at_root : handle ≡ root → Begun home root most tree key handle
  at_leaf : (p : Place) → IsOnWay home root most tree 0 key (Some p) (start handle Shared) → Begun home root most tree key handle

module _ (areas : ℕ) (reads : Reads) (chunks : Chunks) (root : ℕ) (tree : PageTree) (is : IsTree chunks root tree) (hints : HintsAgree areas reads.hint chunks root tree) where
  none_place : (place : Place) → None ≡ Some place → ⊥
  none_place place e = cc

  -- a leaf below others is apart from the root
  leaf_way : (key : List ℕ) (handle : ℕ) → 0 < tree.height → IsLeafOf tree key handle → IsOnWay hints.home root hints.most tree 0 key (Some (record { level = 1; begins = [] })) (start handle Shared)
  leaf_way key handle lower_than leaf =
      let node_home = hints.placed 0 leaf.node lower_than leaf.there in
      let home_is : hints.home handle ≡ Some (record { level = 0; begins = key }) = (λ i. hints.home (sym leaf.handle_is i)) ∙ node_home ∙ ap (λ (k : List ℕ). Some (record { level = 0; begins = k })) leaf.begins_is in
      record {
        level = 0;
        begins = key;
        enough = omega arith;
        from = not_below_itself key;
        onto = known leaf.node leaf.there (omega arith) leaf.handle_is leaf.begins_is;
        rank = 0;
        ranked = omega arith;
        rooted = λ at_root. absurd (none_place (record { level = 0; begins = key }) (sym hints.root_apart ∙ ap hints.home (sym at_root) ∙ home_is));
        since = (lower (omega arith), home_is, refl);
      }

  -- a leaf that is all of the tree is the root
  lone_leaf : (key : List ℕ) (handle : ℕ) → tree.height ≡ 0 → IsLeafOf tree key handle → handle ≡ root
  lone_leaf key handle flat leaf =
      let top_level : tree.level 0 ≡ is.top ∷ [] = ap tree.level (sym flat) ∙ is.root_alone in
      let node_is : leaf.node ≡ is.top = alone leaf.node is.top (subst (λ (ns : List Node). IsIn leaf.node ns) top_level leaf.there) in
      sym leaf.handle_is ∙ ap (λ (n : Node). n.handle) node_is ∙ is.root_is

  pub begun : (key : List ℕ) (handle : ℕ) → BeginsAt root tree key handle → Begun hints.home root hints.most tree key handle
  begun key handle (inl here) = at_root here
  begun key handle (inr leaf) = by_height tree.height refl
    where
      by_height : (n : ℕ) → tree.height ≡ n → Begun hints.home root hints.most tree key handle
      by_height zero flat = at_root (lone_leaf key handle flat leaf)
      by_height (suc n) tall = at_leaf (record { level = 1; begins = [] }) (leaf_way key handle (omega (arith, tall)) leaf)
