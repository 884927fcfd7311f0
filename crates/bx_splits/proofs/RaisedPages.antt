-- The pages of a tree whose root is cut in two, by those of the tree before, and the other way round.
use Rattle.std.proofs.Common.{◌≡◌, ℕ, ◌+◌, ◌<◌, ◌≤◌, Bool, true, false, eqb, cond, List, [], ◌∷◌, refl, sym, ap, subst, ◌∙◌, arith, inl, inr}
use Rattle.std.specs.Prelude.{◌⊎◌}
use Rattle.std.proofs.lemmas.Bool.{cases_lt, eqb-false, eq-eqb, ne_eqb}
use Rattle.bx_truth.specs.PageTrees.{Chunks, Node, IsIn, PageTree, IsTree, IsPageOf}
use Rattle.bx_blink.proofs.Handles.{alone}
use Rattle.bx_leaves.proofs.Members.{in_cases, in_head, in_tail}

module _ (chunks : Chunks) (root : ℕ) (tree : PageTree) (is : IsTree chunks root tree) (left right new_top : Node) (top_is : new_top.handle ≡ root) where
  abbrev raised : PageTree
  raised = record { height = tree.height + 1; level = λ l. cond (eqb l (tree.height + 1)) (new_top ∷ []) (cond (eqb l tree.height) (left ∷ right ∷ []) (tree.level l)) }

  top_there : IsPageOf tree is.top
  top_there = record { level = tree.height; within = omega arith; there = record { before = []; behind = []; parts = is.root_alone } }

  -- a page that isn't one of the two new ones was there
  back_at : (l : ℕ) (m : Node) → l ≤ tree.height + 1 → (a : Bool) → eqb l (tree.height + 1) ≡ a → (b : Bool) → eqb l tree.height ≡ b → IsIn m (cond a (new_top ∷ []) (cond b (left ∷ right ∷ []) (tree.level l)))
      → ((m.handle ≡ left.handle) ⊎ (m.handle ≡ right.handle)) ⊎ ((was : Node) × IsPageOf tree was × (was.handle ≡ m.handle))
  back_at l m within true e b f i = inr (is.top, top_there, is.root_is ∙ sym top_is ∙ ap (λ (n : Node). n.handle) (sym (alone m new_top i)))
  back_at l m within false e true f i = elim (in_cases m left (right ∷ []) i) [
    | inl q ↦ inl (inl (ap (λ (n : Node). n.handle) q))
    | inr j ↦ inl (inr (ap (λ (n : Node). n.handle) (alone m right j)))
  ]
  back_at l m within false e false f i =
      let ne = eqb-false l (tree.height + 1) e in
      inr (m, record { level = l; within = omega (arith, ne, within); there = i }, refl)

  pub back : (m : Node) → IsPageOf raised m → ((m.handle ≡ left.handle) ⊎ (m.handle ≡ right.handle)) ⊎ ((was : Node) × IsPageOf tree was × (was.handle ≡ m.handle))
  back m i = back_at i.level m i.within (eqb i.level (tree.height + 1)) refl (eqb i.level tree.height) refl i.there

  height_is : raised.level tree.height ≡ left ∷ right ∷ []
  height_is = rw (ne_eqb tree.height (tree.height + 1) (λ q. omega arith), eq-eqb tree.height tree.height refl) refl

  pub left_there : IsPageOf raised left
  left_there = record { level = tree.height; within = omega arith; there = subst (λ (ns : List Node). IsIn left ns) (sym height_is) (in_head left (right ∷ [])) }

  pub right_there : IsPageOf raised right
  right_there = record { level = tree.height; within = omega arith; there = subst (λ (ns : List Node). IsIn right ns) (sym height_is) (in_tail right left (right ∷ []) (in_head right [])) }

  new_top_there : IsPageOf raised new_top
  new_top_there = record {
    level = tree.height + 1;
    within = omega arith;
    there = subst (λ (ns : List Node). IsIn new_top ns) (sym (top_level (eqb (tree.height + 1) (tree.height + 1)) (eq-eqb (tree.height + 1) (tree.height + 1) refl))) (in_head new_top []);
  }
    where
      top_level : (b : Bool) → b ≡ true → cond b (new_top ∷ []) (cond (eqb (tree.height + 1) tree.height) (left ∷ right ∷ []) (tree.level (tree.height + 1))) ≡ new_top ∷ []
      top_level true e = refl
      top_level false e = absurd cc

  pub forth : (m : Node) → IsPageOf tree m → (n : Node) × IsPageOf raised n × (n.handle ≡ m.handle)
  forth m i = by_level (cases_lt i.level tree.height)
    where
      by_level : (i.level < tree.height) ⊎ (tree.height ≤ i.level) → (n : Node) × IsPageOf raised n × (n.handle ≡ m.handle)
      by_level (inl lt) =
          let low : raised.level i.level ≡ tree.level i.level = rw (ne_eqb i.level (tree.height + 1) (λ q. omega (arith, lt, q)), ne_eqb i.level tree.height (λ q. omega (arith, lt, q))) refl in
          (m, record { level = i.level; within = omega (arith, lt); there = subst (λ (ns : List Node). IsIn m ns) (sym low) i.there }, refl)
      by_level (inr ge) =
          let same : i.level ≡ tree.height = (let w = i.within in omega (arith, w, ge)) in
          let at_top : m ≡ is.top = alone m is.top (subst (λ (ns : List Node). IsIn m ns) (ap tree.level same ∙ is.root_alone) i.there) in
          (new_top, new_top_there, top_is ∙ sym is.root_is ∙ ap (λ (n : Node). n.handle) (sym at_top))
