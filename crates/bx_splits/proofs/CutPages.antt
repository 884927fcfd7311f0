-- The pages of a tree in which one is cut in two, by those of the tree before, and the other way round.
use Rattle.std.proofs.Common.{◌≡◌, ℕ, Bool, true, false, eqb, cond, List, ◌∷◌, ◌++◌, refl, sym, ap, subst, ◌∙◌, eqb-true, inl, inr}
use Rattle.std.specs.Prelude.{◌⊎◌}
use Rattle.bx_truth.specs.PageTrees.{Node, IsIn, PageTree}
use Rattle.bx_leaves.proofs.Members.{in_left, in_right, in_split, in_cases, in_middle, in_tail}
use Rattle.bx_splits.proofs.Cut.{left_of, right_of}

module _ (tree : PageTree) (level : ℕ) (before : List Node) (node : Node) (behind : List Node) (right : ℕ) (middle : List ℕ) (parts : tree.level level ≡ before ++ node ∷ behind) where
  pub forth : (l : ℕ) (m : Node) → IsIn m (tree.level l) → (b : Bool) → eqb l level ≡ b
      → (n : Node) × IsIn n (cond b (before ++ left_of node right ∷ (right_of node right middle ∷ behind)) (tree.level l)) × (n.handle ≡ m.handle) × (n.begins ≡ m.begins)
  forth l m i false e = (m, i, refl, refl)
  forth l m i true e =
      elim (in_split m node before behind (subst (λ (ns : List Node). IsIn m ns) (ap tree.level (eqb-true l level e) ∙ parts) i)) [
        | inl q ↦ (left_of node right, in_middle (left_of node right) before (right_of node right middle ∷ behind), ap (λ (n : Node). n.handle) (sym q), ap (λ (n : Node). n.begins) (sym q))
        | inr (inl j) ↦ (m, in_left m before (left_of node right ∷ (right_of node right middle ∷ behind)) j, refl, refl)
        | inr (inr j) ↦ (m, in_right m before (left_of node right ∷ (right_of node right middle ∷ behind)) (in_tail m (left_of node right) (right_of node right middle ∷ behind) (in_tail m (right_of node right middle) behind j)), refl, refl)
      ]

  -- a page that isn't the new one was there
  pub back : (l : ℕ) (m : Node) → (b : Bool) → eqb l level ≡ b → IsIn m (cond b (before ++ left_of node right ∷ (right_of node right middle ∷ behind)) (tree.level l))
      → (m.handle ≡ right) ⊎ ((n : Node) × IsIn n (tree.level l) × (n.handle ≡ m.handle))
  back l m false e i = inr (m, i, refl)
  back l m true e i =
      let old_in : (n : Node) → IsIn n (before ++ node ∷ behind) → IsIn n (tree.level l) = λ n j. subst (λ (ns : List Node). IsIn n ns) (sym (ap tree.level (eqb-true l level e) ∙ parts)) j in
      elim (in_split m (left_of node right) before (right_of node right middle ∷ behind) i) [
        | inl q ↦ inr (node, old_in node (in_middle node before behind), ap (λ (n : Node). n.handle) (sym q))
        | inr (inl j) ↦ inr (m, old_in m (in_left m before (node ∷ behind) j), refl)
        | inr (inr j) ↦ elim (in_cases m (right_of node right middle) behind j) [
          | inl q ↦ inl (ap (λ (n : Node). n.handle) q)
          | inr k ↦ inr (m, old_in m (in_right m before (node ∷ behind) (in_tail m node behind k)), refl)
        ]
      ]
