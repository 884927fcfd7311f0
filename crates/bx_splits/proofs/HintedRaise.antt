-- Hints agree with a tree whose root was cut in two: the two pages get their places.
use Rattle.std.proofs.Common.{◌≡◌, ℕ, ◌+◌, ◌<◌, ◌≤◌, Bool, true, false, eqb, cond, List, [], ◌∷◌, Option, Some, None, refl, sym, ap, subst, ◌∙◌, arith, eqb-true, inl, inr}
use Rattle.std.specs.Prelude.{◌⊎◌}
use Rattle.std.proofs.lemmas.Bool.{cases_lt, eq-eqb, ne_eqb}
use Rattle.bx_views.specs.Truths.{Hints}
use Rattle.bx_layout.specs.declared.block.Block.{Block}
use Rattle.bx_page.specs.Contents.{Contents, first_half, other_half}
use Rattle.bx_truth.specs.Chunks.{block_at, IsName}
use Rattle.bx_truth.specs.PageTrees.{Chunks, Node, IsIn, PageTree, IsTree}
use Rattle.bx_blink.specs.Hints.{Place, IsOld, PlaceStands, HintsAgree}
use Rattle.bx_leaves.proofs.Members.{in_cases, in_head, in_tail, in_none}
use Rattle.bx_splits.proofs.HintedCut.{with_home, home_still, old_still}
use Rattle.bx_splits.specs.Splits.{root_page}
use Rattle.bx_splits.proofs.Raise.{Raises}

module _ (areas : ℕ) (hint : Hints) (chunks chunks' : Chunks) (root : ℕ) (tree : PageTree) (left right : ℕ) (middle : List ℕ) (root_block left_block right_block : Block) (is : IsTree chunks root tree)
    (c : Raises chunks chunks' root left right root_block left_block right_block) (h : HintsAgree areas hint chunks root tree)
    (left_name : IsName areas left) (right_name : IsName areas right) (differ : left ≡ right → ⊥) (left_not_root : root ≡ left → ⊥) (right_not_root : root ≡ right → ⊥)
    (left_home : h.home left ≡ None) (right_home : h.home right ≡ None)
    (no_left : (block : Block) → hint (block_at left) ≡ Some block → block.handle ≡ left → ⊥) (no_right : (block : Block) → hint (block_at right) ≡ Some block → block.handle ≡ right → ⊥) where
  abbrev left_node : Node
  left_node = record { handle = left; begins = []; page = first_half (is.top).page right }

  abbrev right_node : Node
  right_node = record { handle = right; begins = middle; page = other_half (is.top).page }

  abbrev new_top : Node
  new_top = record { handle = root; begins = []; page = root_page (is.top).page left right middle }

  abbrev raised : PageTree
  raised = record { height = tree.height + 1; level = λ l. cond (eqb l (tree.height + 1)) (new_top ∷ []) (cond (eqb l tree.height) (left_node ∷ right_node ∷ []) (tree.level l)) }

  abbrev left_place : Place
  left_place = record { level = tree.height; begins = [] }

  abbrev right_place : Place
  right_place = record { level = tree.height; begins = middle }

  abbrev half_way : ℕ → Option Place
  half_way = with_home h.home left left_place

  right_still_none : half_way right ≡ None
  right_still_none = rw (ne_eqb right left (λ e. differ (sym e))) right_home

  abbrev now : ℕ → Option Place
  now = with_home half_way right right_place

  keeps : (handle : ℕ) (p : Place) → h.home handle ≡ Some p → now handle ≡ Some p
  keeps handle p e = home_still half_way right right_place right_still_none handle p (home_still h.home left left_place left_home handle p e)

  is_right : now right ≡ Some right_place
  is_right = rw (eq-eqb right right refl) refl

  is_left : now left ≡ Some left_place
  is_left = home_still half_way right right_place right_still_none left left_place (rw (eq-eqb left left refl) refl)

  data Where (handle : ℕ) (p : Place) : Type 0 where
    at_left : handle ≡ left → p ≡ left_place → Where handle p
    at_right : handle ≡ right → p ≡ right_place → Where handle p
    before : h.home handle ≡ Some p → Where handle p

  where_is : (handle : ℕ) (p : Place) → now handle ≡ Some p → Where handle p
  where_is handle p e = by_right (eqb handle right) refl
    where
      by_left : (b : Bool) → eqb handle left ≡ b → half_way handle ≡ Some p → Where handle p
      by_left true t q =
          let both : ◌≡◌ {A = Option Place} (Some p) (Some left_place) = sym q ∙ rw t refl in
          at_left (eqb-true handle left t) cc
      by_left false t q = before (rw t at q)

      by_right : (b : Bool) → eqb handle right ≡ b → Where handle p
      by_right true t =
          let both : ◌≡◌ {A = Option Place} (Some p) (Some right_place) = sym e ∙ rw t refl in
          at_right (eqb-true handle right t) cc
      by_right false t = by_left (eqb handle left) refl (rw t at e)

  level_height : raised.level tree.height ≡ left_node ∷ right_node ∷ []
  level_height = rw (ne_eqb tree.height (tree.height + 1) (λ q. omega arith), eq-eqb tree.height tree.height refl) refl

  level_low : (l : ℕ) → l < tree.height → raised.level l ≡ tree.level l
  level_low l lt = rw (ne_eqb l (tree.height + 1) (λ q. omega arith), ne_eqb l tree.height (λ q. omega arith)) refl

  placed' : (l : ℕ) (m : Node) → l < tree.height + 1 → IsIn m (raised.level l) → now m.handle ≡ Some (record { level = l; begins = m.begins })
  placed' l m less i = by_level (cases_lt l tree.height)
    where
      by_level : (l < tree.height) ⊎ (tree.height ≤ l) → now m.handle ≡ Some (record { level = l; begins = m.begins })
      by_level (inl lt) = keeps m.handle (record { level = l; begins = m.begins }) (h.placed l m lt (subst (λ (ns : List Node). IsIn m ns) (level_low l lt) i))
      by_level (inr ge) =
          let same : l ≡ tree.height = omega arith in
          let j : IsIn m (left_node ∷ right_node ∷ []) = subst (λ (ns : List Node). IsIn m ns) (ap raised.level same ∙ level_height) i in
          elim (in_cases m left_node (right_node ∷ []) j) [
            | inl q ↦ subst (λ (n : Node). now n.handle ≡ Some (record { level = l; begins = n.begins })) (sym q) (subst (λ (k : ℕ). now left ≡ Some (record { level = k; begins = [] })) (sym same) is_left)
            | inr k ↦ elim (in_cases m right_node [] k) [
              | inl q ↦ subst (λ (n : Node). now n.handle ≡ Some (record { level = l; begins = n.begins })) (sym q) (subst (λ (k : ℕ). now right ≡ Some (record { level = k; begins = middle })) (sym same) is_right)
              | inr none ↦ absurd (in_none m none)
            ]
          ]

  stands_old : (handle : ℕ) (p : Place) → h.home handle ≡ Some p → PlaceStands tree handle p → PlaceStands raised handle p
  stands_old handle p e s = by_level (cases_lt p.level tree.height)
    where
      by_level : (p.level < tree.height) ⊎ (tree.height ≤ p.level) → PlaceStands raised handle p
      by_level (inl lt) = record { node = s.node; within = omega (arith, lt); there = subst (λ (ns : List Node). IsIn s.node ns) (sym (level_low p.level lt)) s.there; handle_is = s.handle_is; begins_is = s.begins_is }
      by_level (inr ge) =
          let same : p.level ≡ tree.height = (let w = s.within in omega (arith, w)) in
          let at_top : IsIn s.node (is.top ∷ []) = subst (λ (ns : List Node). IsIn s.node ns) (ap tree.level same ∙ is.root_alone) s.there in
          elim (in_cases s.node is.top [] at_top) [
            | inl q ↦ (
                let at_root : handle ≡ root = sym s.handle_is ∙ ap (λ (n : Node). n.handle) q ∙ is.root_is in
                let both : ◌≡◌ {A = Option Place} None (Some p) = sym h.root_apart ∙ ap h.home (sym at_root) ∙ e in
                absurd cc)
            | inr none ↦ absurd (in_none s.node none)
          ]

  used : (handle : ℕ) (b : Block) → (handle ≡ left → ⊥) → (handle ≡ right → ⊥) → (handle ≡ root → ⊥) → chunks' handle ≡ Some b → chunks handle ≡ Some b
  used handle b nl nr nt e = sym (c.others handle nt nl nr) ∙ e

  stands' : (handle : ℕ) (p : Place) (b : Block) → now handle ≡ Some p → chunks' handle ≡ Some b → PlaceStands raised handle p
  stands' handle p b home_is e = by_where (where_is handle p home_is)
    where
      pair : (n : Node) → IsIn n (left_node ∷ right_node ∷ []) → IsIn n (raised.level tree.height)
      pair n i = subst (λ (ns : List Node). IsIn n ns) (sym level_height) i

      by_where : Where handle p → PlaceStands raised handle p
      by_where (at_left a q) = subst (λ (k : Place). PlaceStands raised handle k) (sym q) (record { node = left_node; within = omega arith; there = pair left_node (in_head left_node (right_node ∷ [])); handle_is = sym a; begins_is = refl })
      by_where (at_right a q) = subst (λ (k : Place). PlaceStands raised handle k) (sym q) (record { node = right_node; within = omega arith; there = pair right_node (in_tail right_node left_node (right_node ∷ []) (in_head right_node [])); handle_is = sym a; begins_is = refl })
      by_where (before q) =
          let not_left : handle ≡ left → ⊥ = λ x. clash (ap h.home (sym x) ∙ q) left_home in
          let not_right : handle ≡ right → ⊥ = λ x. clash (ap h.home (sym x) ∙ q) right_home in
          let not_root : handle ≡ root → ⊥ = λ x. clash (ap h.home (sym x) ∙ q) h.root_apart in
          stands_old handle p q (h.stands handle p b q (used handle b not_left not_right not_root e))
        where
          clash : {o : Option Place} → o ≡ Some p → o ≡ None → ⊥
          clash x y = let both : ◌≡◌ {A = Option Place} None (Some p) = sym y ∙ x in absurd cc

  old_now : (begins : List ℕ) (page : Contents) → IsOld h.home begins page → IsOld now begins page
  old_now begins page o = old_still half_way right right_place right_still_none begins page (old_still h.home left left_place left_home begins page o)

  pub agree_raised : HintsAgree areas hint chunks' root raised
  agree_raised = record {
    home = now;
    names = λ handle p e. elim (where_is handle p e) [
      | at_left a q ↦ subst (λ (k : ℕ). IsName areas k) (sym a) left_name
      | at_right a q ↦ subst (λ (k : ℕ). IsName areas k) (sym a) right_name
      | before q ↦ h.names handle p q
    ];
    root_apart = rw (ne_eqb root right right_not_root, ne_eqb root left left_not_root) h.root_apart;
    most = h.most + 1;
    highest = let le = h.highest in omega (arith, le);
    placed = placed';
    stands = stands';
    hints = λ handle p b page home_is e header has above. elim (where_is handle p home_is) [
      | at_left a q ↦ absurd (no_left b (subst (λ (k : ℕ). hint (block_at k) ≡ Some b) a e) (header ∙ a))
      | at_right a q ↦ absurd (no_right b (subst (λ (k : ℕ). hint (block_at k) ≡ Some b) a e) (header ∙ a))
      | before q ↦ (let o = h.hints handle p b page q e header has above in (o.0, old_now p.begins page o.1))
    ];
    root_hints = λ b page e header has above. let o = h.root_hints b page e header has above in (let le = o.0 in omega (arith, le), old_now [] page o.1);
  }

  -- the homes are those from before, and the two new pages'
  pub raised_home : (handle : ℕ) (p : Place) → agree_raised.home handle ≡ Some p → ((handle ≡ left) ⊎ (handle ≡ right)) ⊎ (h.home handle ≡ Some p)
  unfolding agree_raised
  raised_home handle p e = elim (where_is handle p e) [ at_left a q ↦ inl (inl a) | at_right a q ↦ inl (inr a) | before q ↦ inr q ]
