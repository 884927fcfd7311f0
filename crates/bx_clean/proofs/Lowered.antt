-- A root whose one child is alone on its level takes the child's place.
use Rattle.std.proofs.Common.{◌≡◌, ℕ, ◌+◌, ◌<◌, ◌≤◌, List, [], ◌∷◌, get_or, Option, Some, None, refl, sym, ap, subst, ◌∙◌, arith, inl, inr}
use Rattle.std.specs.Prelude.{◌≢◌, ◌⊎◌, IfSome}
use Rattle.bx_layout.specs.declared.block.Block.{Block}
use Rattle.bx_page.specs.Keys.{IsBelow}
use Rattle.bx_truth.specs.Chunks.{chunks_of}
use Rattle.bx_truth.specs.PageTrees.{Node, HasPage, IsIn, IsNode, IsLevel, IsInterior, PageTree, IsTree, IsPageOf, entries_of, map_of}
use Rattle.bx_truth.specs.Shown.{KeepsSlots}
use Rattle.bx_truth.proofs.Cases.{same_or}
use Rattle.bx_truth.proofs.Put.{some_there}
use Rattle.bx_views.specs.Truths.{Truth, Hints}
use Rattle.bx_blink.specs.Hints.{HintsFit, Place, PlaceStands}
use Rattle.bx_leaves.proofs.Members.{in_cases, in_head, in_none}
use Rattle.bx_leaves.proofs.Replaced.{with_level}
use Rattle.bx_clean.specs.Shrinking.{ChunkGone, HasOneChild, ShrinksTree}
use Rattle.bx_clean.proofs.Given.{given_now}
use Rattle.bx_clean.proofs.Levels.{levels_apart, levels_now, inside_now, level_here, level_there, none_below}

none_some : (block : Block) → ◌≡◌ {A = Option Block} None (Some block) → ⊥
none_some block e = absurd cc

no_place : (place : Place) → ◌≡◌ {A = Option Place} None (Some place) → ⊥
no_place place e = absurd cc

-- the child's page, under the root
abbrev pub lowered_of : ℕ → Node → Node
lowered_of root child = record { handle = root; begins = []; page = child.page }

abbrev pub tree_lowered : PageTree → ℕ → ℕ → Node → PageTree
tree_lowered tree under root child = record { height = under; level = (with_level tree under (record { handle = root; begins = []; page = child.page } ∷ [])).level }

module _ (areas : ℕ) (truth now : Truth) (root : ℕ) (tree : PageTree) (under : ℕ) (top child : Node) (block : Block)
    (is : IsTree (chunks_of areas truth) root tree) (one : HasOneChild tree under top child []) (has : HasPage child.page block)
    (gone : ChunkGone (chunks_of areas truth) (chunks_of areas now) root child.handle block) (slots : KeepsSlots areas truth now) where
  within : under ≤ tree.height
  within = let h = one.height in omega (arith, h)

  apart : tree.height ≢ under
  apart e = let h = one.height in absurd (omega (arith, h, e))

  level : IsLevel (chunks_of areas truth) under (child ∷ [])
  level = rw one.level at (is.levels under within)

  here : IsNode (chunks_of areas truth) under child
  here = level.nodes_are child (in_head child [])

  top_level : IsLevel (chunks_of areas truth) tree.height (top ∷ [])
  top_level = rw one.top_is at (is.levels tree.height (omega arith))

  top_node : IsNode (chunks_of areas truth) tree.height top
  top_node = top_level.nodes_are top (in_head top [])

  begins : child.begins ≡ []
  begins = (level.chain).0

  top_handle : top.handle ≡ root
  top_handle = let e : top ∷ [] ≡ is.top ∷ [] = sym one.top_is ∙ is.root_alone in let same : top ≡ is.top = cc in ap (λ (n : Node). n.handle) same ∙ is.root_is

  is_top : (m : Node) → IsIn m (tree.level tree.height) → m ≡ top
  is_top m i = elim (in_cases m top [] (subst (λ (ns : List Node). IsIn m ns) one.top_is i)) [ inl e ↦ e | inr j ↦ absurd (in_none m j) ]

  is_child : (m : Node) → IsIn m (tree.level under) → m ≡ child
  is_child m i = elim (in_cases m child [] (subst (λ (ns : List Node). IsIn m ns) one.level i)) [ inl e ↦ e | inr j ↦ absurd (in_none m j) ]

  is_lowered : (m : Node) → IsIn m ((with_level tree under (lowered_of root child ∷ [])).level under) → m ≡ lowered_of root child
  is_lowered m i = elim (in_cases m (lowered_of root child) [] (subst (λ (ns : List Node). IsIn m ns) (level_here tree under (lowered_of root child ∷ [])) i)) [ inl e ↦ e | inr j ↦ absurd (in_none m j) ]

  -- the root isn't the child
  root_apart : root ≢ child.handle
  root_apart e = levels_apart (chunks_of areas truth) tree.height under top child top_node here apart (top_handle ∙ e)

  below_stays : (l : ℕ) → l < under → (m : Node) → IsIn m (tree.level l) → chunks_of areas now m.handle ≡ chunks_of areas truth m.handle
  below_stays l less m i =
      let h = one.height in
      let mm = (is.levels l (omega (arith, less, h))).nodes_are m i in
      gone.others m.handle
      (λ e. levels_apart (chunks_of areas truth) l tree.height m top mm top_node (λ q. absurd (omega (arith, less, h, q))) (e ∙ sym top_handle))
      (levels_apart (chunks_of areas truth) l under m child mm here (λ q. absurd (omega (arith, less, q))))

  lowered_node : IsNode (chunks_of areas now) under (lowered_of root child)
  lowered_node = record {
    block = block;
    chunk = gone.here;
    has = has;
    same_level = here.same_level;
    lowest = λ k d less. none_below (get_or child.page.entries k d).key;
    highest = subst (λ (b : List ℕ). IfSome child.page.high (IsBelow b)) begins here.highest;
  }

  level_now : IsLevel (chunks_of areas now) under (lowered_of root child ∷ [])
  level_now = record {
    nodes_are = λ m i. elim (in_cases m (lowered_of root child) [] i) [
      | inl e ↦ subst (λ (n : Node). IsNode (chunks_of areas now) under n) (sym e) lowered_node
      | inr j ↦ absurd (in_none m j)
    ];
    chain = (refl, (level.chain).1);
  }

  inside : (below : ℕ) → under ≡ below + 1 → (m : Node) → IsIn m (lowered_of root child ∷ []) → IsInterior (tree.level below) m
  inside below e m i =
      let child_in : IsIn child (tree.level (below + 1)) = subst (λ (ns : List Node). IsIn child ns) (sym (ap tree.level (sym e) ∙ one.level)) (in_head child []) in
      let inner = is.interior below (omega (arith, within, e)) child child_in in
      let inner_now : IsInterior (tree.level below) (lowered_of root child) = record { first = inner.first ∙ ap (λ (b : List ℕ). Some b) begins; names = inner.names } in
      elim (in_cases m (lowered_of root child) [] i) [
        | inl q ↦ subst (λ (n : Node). IsInterior (tree.level below) n) (sym q) inner_now
        | inr j ↦ absurd (in_none m j)
      ]

  is_now : IsTree (chunks_of areas now) root (tree_lowered tree under root child)
  is_now = record {
    levels = levels_now (chunks_of areas truth) (chunks_of areas now) root tree under (lowered_of root child ∷ []) is within level_now below_stays inside;
    interior = inside_now (chunks_of areas truth) (chunks_of areas now) root tree under (lowered_of root child ∷ []) is within level_now below_stays inside;
    top = lowered_of root child;
    root_alone = level_here tree under (lowered_of root child ∷ []);
    root_is = refl;
  }

  map_same : map_of (tree_lowered tree under root child) ≡ map_of tree
  map_same = by (same_or under 0)
    where
      by : (under ≡ 0) ⊎ (under ≢ 0) → map_of (tree_lowered tree under root child) ≡ map_of tree
      by (inl e) =
          ap entries_of (ap (with_level tree under (lowered_of root child ∷ [])).level (sym e) ∙ level_here tree under (lowered_of root child ∷ []))
          ∙ ap entries_of (sym (ap tree.level (sym e) ∙ one.level))
      by (inr other) = ap entries_of (level_there tree under 0 (lowered_of root child ∷ []) (λ e. other (sym e)))

  -- ---- its pages

  top_page : IsPageOf tree top
  top_page = record { level = tree.height; within = omega arith; there = subst (λ (ns : List Node). IsIn top ns) (sym one.top_is) (in_head top []) }

  child_page : IsPageOf tree child
  child_page = record { level = under; within = within; there = subst (λ (ns : List Node). IsIn child ns) (sym one.level) (in_head child []) }

  not_gone : (h : ℕ) (b : Block) → chunks_of areas now h ≡ Some b → h ≢ child.handle
  not_gone h b some e = none_some b (sym gone.none ∙ ap (chunks_of areas now) (sym e) ∙ some)

  used : (h : ℕ) (b : Block) → chunks_of areas now h ≡ Some b → (c : Block) × (chunks_of areas truth h ≡ Some c)
  used h b some = by (same_or h root)
    where
      by : (h ≡ root) ⊎ (h ≢ root) → (c : Block) × (chunks_of areas truth h ≡ Some c)
      by (inl e) = (top_node.block, ap (chunks_of areas truth) (e ∙ sym top_handle) ∙ top_node.chunk)
      by (inr other) = (b, sym (gone.others h other (not_gone h b some)) ∙ some)

  back : (m : Node) → IsPageOf (tree_lowered tree under root child) m → (n : Node) × IsPageOf tree n × (n.handle ≡ m.handle)
  back m p = by (same_or p.level under)
    where
      by : (p.level ≡ under) ⊎ (p.level ≢ under) → (n : Node) × IsPageOf tree n × (n.handle ≡ m.handle)
      by (inl e) =
          let m_is : m ≡ lowered_of root child = is_lowered m (subst (λ (l : ℕ). IsIn m ((with_level tree under (lowered_of root child ∷ [])).level l)) e p.there) in
          (top, top_page, top_handle ∙ ap (λ (n : Node). n.handle) (sym m_is))
      by (inr other) = (m, record { level = p.level; within = let w = p.within in omega (arith, w, within); there = subst (λ (ns : List Node). IsIn m ns) (level_there tree under p.level (lowered_of root child ∷ []) other) p.there }, refl)

  -- a page at its place stays there, where it isn't one of the two
  stays_at : (l : ℕ) (m : Node) → l ≤ tree.height → l ≢ tree.height → l ≢ under → IsIn m (tree.level l) → IsPageOf (tree_lowered tree under root child) m
  stays_at l m le high low i = record {
    level = l;
    within = let h = one.height in omega (arith, le, high, h);
    there = subst (λ (ns : List Node). IsIn m ns) (sym (level_there tree under l (lowered_of root child ∷ []) low)) i;
  }

  forth : (m : Node) → IsPageOf tree m → m.handle ≢ child.handle → (n : Node) × IsPageOf (tree_lowered tree under root child) n × (n.handle ≡ m.handle)
  forth m p other = by (same_or p.level tree.height) (same_or p.level under)
    where
      by : (p.level ≡ tree.height) ⊎ (p.level ≢ tree.height) → (p.level ≡ under) ⊎ (p.level ≢ under) → (n : Node) × IsPageOf (tree_lowered tree under root child) n × (n.handle ≡ m.handle)
      by (inl e) low =
          let m_is : m ≡ top = is_top m (subst (λ (l : ℕ). IsIn m (tree.level l)) e p.there) in (
            lowered_of root child,
            record { level = under; within = omega arith; there = subst (λ (ns : List Node). IsIn (lowered_of root child) ns) (sym (level_here tree under (lowered_of root child ∷ []))) (in_head (lowered_of root child) []) },
            sym top_handle ∙ ap (λ (n : Node). n.handle) (sym m_is),
          )
      by (inr high) (inl e) = absurd (other (ap (λ (n : Node). n.handle) (is_child m (subst (λ (l : ℕ). IsIn m (tree.level l)) e p.there))))
      by (inr high) (inr low) = (m, stays_at p.level m p.within high low p.there, refl)

  fits : (hints : Hints) → HintsFit areas hints truth root tree → HintsFit areas hints now root (tree_lowered tree under root child)
  fits hints f = record {
    agree = record {
      home = f.agree.home;
      names = f.agree.names;
      root_apart = f.agree.root_apart;
      most = f.agree.most;
      highest = let h = f.agree.highest in omega (arith, h, within);
      placed = λ l m less i. f.agree.placed l m (omega (arith, less, within))
          (subst (λ (ns : List Node). IsIn m ns) (level_there tree under l (lowered_of root child ∷ []) (λ e. absurd (omega (arith, less, e)))) i);
      stands = λ h place b home_is some. let c = used h b some in stands_now h place home_is (not_gone h b some) (f.agree.stands h place c.0 home_is c.1);
      hints = f.agree.hints;
      root_hints = f.agree.root_hints;
    };
    given = record {
      homes = λ h place home_is. given_now areas truth now slots h (f.given.homes h place home_is);
      hints = λ h b hint header name. given_now areas truth now slots h (f.given.hints h b hint header name);
    };
  }
    where
      stands_now : (h : ℕ) (place : Place) → f.agree.home h ≡ Some place → h ≢ child.handle → PlaceStands tree h place → PlaceStands (tree_lowered tree under root child) h place
      stands_now h place home_is other s = by (same_or place.level tree.height) (same_or place.level under)
        where
          by : (place.level ≡ tree.height) ⊎ (place.level ≢ tree.height) → (place.level ≡ under) ⊎ (place.level ≢ under) → PlaceStands (tree_lowered tree under root child) h place
          by (inl e) low =
              let m_is : s.node ≡ top = is_top s.node (subst (λ (l : ℕ). IsIn s.node (tree.level l)) e s.there) in
              let h_is : h ≡ root = sym s.handle_is ∙ ap (λ (n : Node). n.handle) m_is ∙ top_handle in
              absurd (no_place place (sym f.agree.root_apart ∙ ap f.agree.home (sym h_is) ∙ home_is))
          by (inr high) (inl e) = absurd (other (sym s.handle_is ∙ ap (λ (n : Node). n.handle) (is_child s.node (subst (λ (l : ℕ). IsIn s.node (tree.level l)) e s.there))))
          by (inr high) (inr low) =
              let p = stays_at place.level s.node s.within high low s.there in
              record { node = s.node; within = let w = s.within in let h = one.height in omega (arith, w, high, h); there = subst (λ (ns : List Node). IsIn s.node ns) (sym (level_there tree under place.level (lowered_of root child ∷ []) low)) s.there; handle_is = s.handle_is; begins_is = s.begins_is }

  pub lowered : ShrinksTree areas truth now root tree (tree_lowered tree under root child)
  lowered = record {
    is = is_now;
    map_is = map_same;
    back = back;
    forth = λ m p some. let c = some_there (chunks_of areas now m.handle) some in forth m p (not_gone m.handle c.0 c.1);
    others = λ h apart. gone.others h (λ e. apart top top_page (top_handle ∙ sym e)) (λ e. apart child child_page (sym e));
    used = λ h b some none. let c = used h b some in none_some c.0 (sym none ∙ c.1);
    slots = slots;
    leads = fits;
  }
