-- Hints agree with a tree in which a page was rewritten.
use Rattle.std.proofs.Common.{◌≡◌, ℕ, Bool, true, false, eqb, cond, List, [], ◌∷◌, ◌++◌, Some, refl, sym, ap, subst, ◌∙◌, eqb-true, inl, inr}
use Rattle.std.specs.Prelude.{◌⊎◌}
use Rattle.std.proofs.lemmas.Bool.{cases_eq}
use Rattle.bx_layout.specs.declared.block.Block.{Block}
use Rattle.bx_page.specs.Contents.{Contents}
use Rattle.bx_blink.specs.bx_truth.specs.Edits.{ChunkAnew}
use Rattle.bx_blink.specs.bx_truth.specs.PageTrees.{Chunks, Node, IsIn, PageTree}
use Rattle.bx_blink.specs.bx_views.specs.Truths.{Hints}
use Rattle.bx_blink.specs.Hints.{HintsAgree}
use Rattle.bx_leaves.proofs.Exchanged.{with_page}
use Rattle.bx_leaves.proofs.Members.{in_left, in_right, in_split, in_middle}
use Rattle.bx_leaves.proofs.Replaced.{with_level}

module _ (tree : PageTree) (level : ℕ) (before : List Node) (node : Node) (behind : List Node) (page : Contents) (parts : tree.level level ≡ before ++ node ∷ behind) where
  -- each node of the new tree stands where one of the old tree did, and the other way round
  pub back : (l : ℕ) (m : Node) → (b : Bool) → eqb l level ≡ b → IsIn m (cond b (before ++ with_page node page ∷ behind) (tree.level l)) → (n : Node) × IsIn n (tree.level l) × (n.handle ≡ m.handle) × (n.begins ≡ m.begins)
  back l m false e i = (m, i, refl, refl)
  back l m true e i =
      let here : tree.level l ≡ before ++ node ∷ behind = ap tree.level (eqb-true l level e) ∙ parts in
      let old_in : (n : Node) → IsIn n (before ++ node ∷ behind) → IsIn n (tree.level l) = λ n j. subst (λ (ns : List Node). IsIn n ns) (sym here) j in
      elim (in_split m (with_page node page) before behind i) [
        | inl q ↦ (node, old_in node (in_middle node before behind), ap (λ (n : Node). n.handle) (sym q), ap (λ (n : Node). n.begins) (sym q))
        | inr (inl j) ↦ (m, old_in m (in_left m before (node ∷ behind) j), refl, refl)
        | inr (inr j) ↦ (m, old_in m (in_right m before (node ∷ behind) (in_right m (node ∷ []) behind j)), refl, refl)
      ]

  pub forth : (l : ℕ) (m : Node) → IsIn m (tree.level l) → (b : Bool) → eqb l level ≡ b → (n : Node) × IsIn n (cond b (before ++ with_page node page ∷ behind) (tree.level l)) × (n.handle ≡ m.handle) × (n.begins ≡ m.begins)
  forth l m i false e = (m, i, refl, refl)
  forth l m i true e =
      let here : tree.level l ≡ before ++ node ∷ behind = ap tree.level (eqb-true l level e) ∙ parts in
      elim (in_split m node before behind (subst (λ (ns : List Node). IsIn m ns) here i)) [
        | inl q ↦ (with_page node page, in_middle (with_page node page) before behind, ap (λ (n : Node). n.handle) (sym q), ap (λ (n : Node). n.begins) (sym q))
        | inr (inl j) ↦ (m, in_left m before (with_page node page ∷ behind) j, refl, refl)
        | inr (inr j) ↦ (m, in_right m before (with_page node page ∷ behind) (in_right m (with_page node page ∷ []) behind j), refl, refl)
      ]

module _ (areas : ℕ) (hint : Hints) (chunks chunks' : Chunks) (root : ℕ) (tree : PageTree) (level : ℕ) (before : List Node) (node : Node) (behind : List Node) (page : Contents)
    (old_block block : Block) (parts : tree.level level ≡ before ++ node ∷ behind) (was : chunks node.handle ≡ Some old_block) (w : ChunkAnew chunks chunks' node.handle block) (h : HintsAgree areas hint chunks root tree) where
  pub was_used : (handle : ℕ) (b : Block) → chunks' handle ≡ Some b → (c : Block) × (chunks handle ≡ Some c)
  was_used handle b e = by (cases_eq handle node.handle)
    where
      by : (handle ≡ node.handle) ⊎ (handle ≡ node.handle → ⊥) → (c : Block) × (chunks handle ≡ Some c)
      by (inl same) = (old_block, ap chunks same ∙ was)
      by (inr apart) = (b, sym (w.others handle apart) ∙ e)

  unfoldable pub agree_still : HintsAgree areas hint chunks' root (with_level tree level (before ++ with_page node page ∷ behind))
  agree_still = record {
    home = h.home;
    names = h.names;
    root_apart = h.root_apart;
    most = h.most;
    highest = h.highest;
    placed = λ l m lt i.
        let n = back tree level before node behind page parts l m (eqb l level) refl i in
        subst (λ (k : ℕ). h.home k ≡ Some (record { level = l; begins = m.begins })) n.2
        (subst (λ (b : List ℕ). h.home (n.0).handle ≡ Some (record { level = l; begins = b })) n.3 (h.placed l n.0 lt n.1));
    stands = λ handle place b home_is e.
        let c = was_used handle b e in
        let s = h.stands handle place c.0 home_is c.1 in
        let n = forth tree level before node behind page parts place.level s.node s.there (eqb place.level level) refl in
        record { node = n.0; within = s.within; there = n.1; handle_is = n.2 ∙ s.handle_is; begins_is = n.3 ∙ s.begins_is };
    hints = λ handle place b p home_is e header has above. h.hints handle place b p home_is e header has above;
    root_hints = λ b p e header has above. h.root_hints b p e header has above;
  }
