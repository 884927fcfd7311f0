-- Hints agree with a tree in which a page was cut in two: the new page gets its place.
use Rattle.std.proofs.Common.{◌≡◌, ℕ, ◌-◌, ◌<◌, Bool, true, false, eqb, cond, List, [], ◌∷◌, ◌++◌, Option, Some, None, refl, sym, ap, subst, ◌∙◌, arith, eqb-true, inl, inr}
use Rattle.std.specs.Prelude.{◌⊎◌}
use Rattle.std.proofs.lemmas.Bool.{cases_eq, eq-eqb, ne_eqb}
use Rattle.std.proofs.lemmas.List.Elements.{All-weaker}
use Rattle.bx_views.specs.Truths.{Hints}
use Rattle.bx_layout.specs.declared.block.Block.{Block}
use Rattle.bx_page.specs.Contents.{Contents}
use Rattle.bx_truth.specs.Chunks.{block_at, IsName}
use Rattle.bx_truth.specs.PageTrees.{Chunks, Node, IsIn, PageTree}
use Rattle.bx_blink.specs.Hints.{Place, LeadsDown, IsOld, PlaceStands, HintsAgree}
use Rattle.bx_leaves.proofs.Members.{in_left, in_right, in_split, in_cases, in_middle, in_head, in_tail}
use Rattle.bx_leaves.proofs.Replaced.{with_level}
use Rattle.bx_splits.proofs.Cut.{left_of, right_of, Cuts}
use Rattle.bx_splits.proofs.CutPages.{forth}

-- one place more
abbrev pub with_home : (ℕ → Option Place) → ℕ → Place → ℕ → Option Place
with_home home new place handle = cond (eqb handle new) (Some place) (home handle)

module _ (home : ℕ → Option Place) (new : ℕ) (place : Place) (none : home new ≡ None) where
  pub home_still : (handle : ℕ) (p : Place) → home handle ≡ Some p → with_home home new place handle ≡ Some p
  home_still handle p e = by_test (eqb handle new) refl
    where
      by_test : (b : Bool) → eqb handle new ≡ b → with_home home new place handle ≡ Some p
      by_test true t = let both : ◌≡◌ {A = Option Place} None (Some p) = sym none ∙ ap home (sym (eqb-true handle new t)) ∙ e in absurd cc
      by_test false t = rw t e

  pub old_still : (begins : List ℕ) (page : Contents) → IsOld home begins page → IsOld (with_home home new place) begins page
  old_still begins page o = record {
    first = o.first;
    down = All-weaker (LeadsDown home page.level) (LeadsDown (with_home home new place) page.level)
        (λ e d. record { handle = d.handle; begins = d.begins; eight = d.eight; value = d.value; home_is = home_still d.handle (record { level = page.level - 1; begins = d.begins }) d.home_is; key = d.key }) page.entries o.down;
    right = elim o.right [
      | inl last ↦ inl last
      | inr r ↦ inr (record { high = r.high; high_is = r.high_is; above = r.above; home_is = home_still page.right (record { level = page.level; begins = r.high }) r.home_is })
    ];
  }

module _ (areas : ℕ) (hint : Hints) (chunks chunks' : Chunks) (root : ℕ) (tree : PageTree) (level : ℕ) (before : List Node) (node : Node) (behind : List Node) (right : ℕ) (middle : List ℕ)
    (left_block right_block old_block : Block) (lt : level < tree.height) (parts : tree.level level ≡ before ++ node ∷ behind) (was : chunks node.handle ≡ Some old_block)
    (c : Cuts chunks chunks' node.handle right left_block right_block) (h : HintsAgree areas hint chunks root tree)
    (name : IsName areas right) (not_root : root ≡ right → ⊥)
    (no_home : h.home right ≡ None) (no_hint : (block : Block) → hint (block_at right) ≡ Some block → block.handle ≡ right → ⊥) where
  abbrev new_place : Place
  new_place = record { level = level; begins = middle }

  abbrev now : ℕ → Option Place
  now = with_home h.home right (record { level = level; begins = middle })

  is_new : now right ≡ Some (record { level = level; begins = middle })
  is_new = rw (eq-eqb right right refl) refl

  pub by_home : (handle : ℕ) (p : Place) → now handle ≡ Some p → (handle ≡ right) × (p ≡ (record { level = level; begins = middle })) ⊎ (h.home handle ≡ Some p)
  by_home handle p e = by_test (eqb handle right) refl
    where
      by_test : (b : Bool) → eqb handle right ≡ b → (handle ≡ right) × (p ≡ (record { level = level; begins = middle })) ⊎ (h.home handle ≡ Some p)
      by_test true t =
          let same : handle ≡ right = eqb-true handle right t in
          let both : ◌≡◌ {A = Option Place} (Some p) (Some (record { level = level; begins = middle })) = sym e ∙ rw t refl in
          inl (same, cc)
      by_test false t = inr (rw t at e)

  abbrev nodes' : List Node
  nodes' = before ++ left_of node right ∷ (right_of node right middle ∷ behind)

  here : (l : ℕ) → eqb l level ≡ true → (with_level tree level nodes').level l ≡ nodes'
  here l e = rw e refl

  old_in : (l : ℕ) → eqb l level ≡ true → (n : Node) → IsIn n (before ++ node ∷ behind) → IsIn n (tree.level l)
  old_in l e n j = subst (λ (ns : List Node). IsIn n ns) (sym (ap tree.level (eqb-true l level e) ∙ parts)) j

  placed' : (l : ℕ) (m : Node) → l < tree.height → (b : Bool) → eqb l level ≡ b → IsIn m (cond b (before ++ left_of node right ∷ (right_of node right middle ∷ behind)) (tree.level l)) → now m.handle ≡ Some (record { level = l; begins = m.begins })
  placed' l m less false e i = home_still h.home right new_place no_home m.handle (record { level = l; begins = m.begins }) (h.placed l m less i)
  placed' l m less true e i =
      let still : (n : Node) → IsIn n (before ++ node ∷ behind) → now n.handle ≡ Some (record { level = l; begins = n.begins }) = λ n j. home_still h.home right new_place no_home n.handle (record { level = l; begins = n.begins }) (h.placed l n less (old_in l e n j)) in
      elim (in_split m (left_of node right) before (right_of node right middle ∷ behind) i) [
        | inl q ↦ subst (λ (n : Node). now n.handle ≡ Some (record { level = l; begins = n.begins })) (sym q) (still node (in_middle node before behind))
        | inr (inl j) ↦ still m (in_left m before (node ∷ behind) j)
        | inr (inr j) ↦ elim (in_cases m (right_of node right middle) behind j) [
          | inl q ↦ subst (λ (n : Node). now n.handle ≡ Some (record { level = l; begins = n.begins })) (sym q) (subst (λ (k : ℕ). now right ≡ Some (record { level = k; begins = middle })) (sym (eqb-true l level e)) is_new)
          | inr k ↦ still m (in_right m before (node ∷ behind) (in_tail m node behind k))
        ]
      ]

  used : (handle : ℕ) (b : Block) → (handle ≡ right → ⊥) → chunks' handle ≡ Some b → (d : Block) × (chunks handle ≡ Some d)
  used handle b ne e = elim (cases_eq handle node.handle) [ inl same ↦ (old_block, ap chunks same ∙ was) | inr apart ↦ (b, sym (c.others handle apart ne) ∙ e) ]

  right_stands : PlaceStands (with_level tree level (before ++ left_of node right ∷ (right_of node right middle ∷ behind))) right (record { level = level; begins = middle })
  right_stands = record {
    node = right_of node right middle;
    within = omega arith;
    there = subst (λ (ns : List Node). IsIn (right_of node right middle) ns) (sym (here level (eq-eqb level level refl))) (in_right (right_of node right middle) before (left_of node right ∷ (right_of node right middle ∷ behind)) (in_tail (right_of node right middle) (left_of node right) (right_of node right middle ∷ behind) (in_head (right_of node right middle) behind)));
    handle_is = refl;
    begins_is = refl;
  }

  stands' : (handle : ℕ) (p : Place) (b : Block) → now handle ≡ Some p → chunks' handle ≡ Some b → PlaceStands (with_level tree level (before ++ left_of node right ∷ (right_of node right middle ∷ behind))) handle p
  stands' handle p b home_is e = by (cases_eq handle right)
    where
      by : (handle ≡ right) ⊎ (handle ≡ right → ⊥) → PlaceStands (with_level tree level (before ++ left_of node right ∷ (right_of node right middle ∷ behind))) handle p
      by (inl same) =
          let both : ◌≡◌ {A = Option Place} (Some (record { level = level; begins = middle })) (Some p) = sym is_new ∙ ap now (sym same) ∙ home_is in
          let place : (record { level = level; begins = middle }) ≡ p = cc in
          subst (λ (q : Place). PlaceStands (with_level tree level (before ++ left_of node right ∷ (right_of node right middle ∷ behind))) handle q) place
          (subst (λ (k : ℕ). PlaceStands (with_level tree level (before ++ left_of node right ∷ (right_of node right middle ∷ behind))) k (record { level = level; begins = middle })) (sym same) right_stands)
      by (inr apart) = elim (by_home handle p home_is) [
        | inl both ↦ absurd (apart both.0)
        | inr before_is ↦ (
            let d = used handle b apart e in
            let s = h.stands handle p d.0 before_is d.1 in
            let n = forth tree level before node behind right middle parts p.level s.node s.there (eqb p.level level) refl in
            record { node = n.0; within = s.within; there = n.1; handle_is = n.2 ∙ s.handle_is; begins_is = n.3 ∙ s.begins_is })
      ]

  pub agree_cut : HintsAgree areas hint chunks' root (with_level tree level (before ++ left_of node right ∷ (right_of node right middle ∷ behind)))
  agree_cut = record {
    home = now;
    names = λ handle p e. elim (by_home handle p e) [ inl both ↦ subst (λ (k : ℕ). IsName areas k) (sym both.0) name | inr before_is ↦ h.names handle p before_is ];
    root_apart = rw (ne_eqb root right not_root) h.root_apart;
    most = h.most;
    highest = h.highest;
    placed = λ l m less i. placed' l m less (eqb l level) refl i;
    stands = stands';
    hints = λ handle p b page home_is e header has above. elim (by_home handle p home_is) [
      | inl both ↦ absurd (no_hint b (subst (λ (k : ℕ). hint (block_at k) ≡ Some b) both.0 e) (header ∙ both.0))
      | inr before_is ↦ (let o = h.hints handle p b page before_is e header has above in (o.0, old_still h.home right (record { level = level; begins = middle }) no_home p.begins page o.1))
    ];
    root_hints = λ b page e header has above. let o = h.root_hints b page e header has above in (o.0, old_still h.home right (record { level = level; begins = middle }) no_home [] page o.1);
  }

  -- the homes are those from before, and the new page's
  pub cut_home : (handle : ℕ) (p : Place) → agree_cut.home handle ≡ Some p → (handle ≡ right) ⊎ (h.home handle ≡ Some p)
  unfolding agree_cut
  cut_home handle p e = elim (by_home handle p e) [ inl both ↦ inl both.0 | inr was_home ↦ inr was_home ]
