-- A tree of which a level is other pages, with the levels below it.
use Rattle.std.proofs.Common.{◌≡◌, ℕ, ◌+◌, ◌<◌, ◌≤◌, Bool, true, false, eqb, cond, List, [], ◌∷◌, refl, sym, ap, subst, ◌∙◌, eqb-true, arith, inl, inr}
use Rattle.std.specs.Prelude.{◌≢◌}
use Rattle.std.specs.List.{AllByRecursion}
use Rattle.std.proofs.lemmas.Bool.{eqb-false}
use Rattle.bx_page.specs.Contents.{Contents}
use Rattle.bx_page.specs.Keys.{is_below, IsBelow}
use Rattle.bx_truth.specs.PageTrees.{Chunks, Node, IsIn, IsNode, IsLevel, IsInterior, PageTree, IsTree}
use Rattle.bx_blink.proofs.Chains.{IsRange, all_before}
use Rattle.bx_blink.proofs.Places.{range_of, ranges_of}
use Rattle.bx_leaves.proofs.Apart.{same_page}
use Rattle.bx_leaves.proofs.Members.{in_cases}
use Rattle.bx_leaves.proofs.Replaced.{with_level}

-- a page whose chunk is the same in other chunks
pub moved : (chunks now : Chunks) (level : ℕ) (m : Node) → now m.handle ≡ chunks m.handle → IsNode chunks level m → IsNode now level m
moved chunks now level m same n = record { block = n.block; chunk = same ∙ n.chunk; has = n.has; same_level = n.same_level; lowest = n.lowest; highest = n.highest }

-- pages of two levels have different handles
pub levels_apart : (chunks : Chunks) (k l : ℕ) (m n : Node) → IsNode chunks k m → IsNode chunks l n → k ≢ l → m.handle ≢ n.handle
levels_apart chunks k l m n mm nn apart same = apart (sym mm.same_level ∙ ap (λ (p : Contents). p.level) (same_page chunks k l m n mm nn same) ∙ nn.same_level)

module _ (chunks now : Chunks) (root : ℕ) (tree : PageTree) (under : ℕ) (nodes : List Node) (is : IsTree chunks root tree) (within : under ≤ tree.height)
    (level_is : IsLevel now under nodes)
    (same : (l : ℕ) → l < under → (m : Node) → IsIn m (tree.level l) → now m.handle ≡ chunks m.handle)
    (inside : (below : ℕ) → under ≡ below + 1 → (m : Node) → IsIn m nodes → IsInterior (tree.level below) m) where
  level_at : (l : ℕ) → l ≤ under → (b : Bool) → eqb l under ≡ b → IsLevel now l (cond b nodes (tree.level l))
  level_at l less true e = subst (λ (n : ℕ). IsLevel now n nodes) (sym (eqb-true l under e)) level_is
  level_at l less false e =
      let apart = eqb-false l under e in
      let o = is.levels l (omega (arith, less, within)) in
      record { nodes_are = λ m i. moved chunks now l m (same l (omega (arith, less, apart)) m i) (o.nodes_are m i); chain = o.chain }

  pub levels_now : (l : ℕ) → l ≤ under → IsLevel now l ((with_level tree under nodes).level l)
  levels_now l less = level_at l less (eqb l under) refl

  -- a level below has the same pages
  pub level_below : (l : ℕ) → l < under → tree.level l ≡ (with_level tree under nodes).level l
  level_below l less = by (eqb l under) refl
    where
      by : (b : Bool) → eqb l under ≡ b → tree.level l ≡ cond b nodes (tree.level l)
      by true e = let at = eqb-true l under e in absurd (omega (arith, less, at))
      by false e = refl

  inside_at : (l : ℕ) → l < under → (m : Node) → (b : Bool) → eqb (l + 1) under ≡ b → IsIn m (cond b nodes (tree.level (l + 1))) → IsInterior (tree.level l) m
  inside_at l less m true e i = inside l (sym (eqb-true (l + 1) under e)) m i
  inside_at l less m false e i = is.interior l (omega (arith, less, within)) m i

  pub inside_now : (l : ℕ) → l < under → (m : Node) → IsIn m ((with_level tree under nodes).level (l + 1)) → IsInterior ((with_level tree under nodes).level l) m
  inside_now l less m i = subst (λ (ns : List Node). IsInterior ns m) (level_below l less) (inside_at l less m (eqb (l + 1) under) refl i)

-- the level has these pages
pub level_here : (tree : PageTree) (under : ℕ) (nodes : List Node) → (with_level tree under nodes).level under ≡ nodes
level_here tree under nodes = by (eqb under under) refl
  where
    by : (b : Bool) → eqb under under ≡ b → cond b nodes (tree.level under) ≡ nodes
    by true e = refl
    by false e = absurd (eqb-false under under e refl)

-- another level has those it had
pub level_there : (tree : PageTree) (under l : ℕ) (nodes : List Node) → l ≢ under → (with_level tree under nodes).level l ≡ tree.level l
level_there tree under l nodes apart = by (eqb l under) refl
  where
    by : (b : Bool) → eqb l under ≡ b → cond b nodes (tree.level l) ≡ tree.level l
    by true e = absurd (apart (eqb-true l under e))
    by false e = refl

-- nothing is below the empty key
pub none_below : (key : List ℕ) → is_below key [] ≡ false
none_below [] = refl
none_below (x ∷ xs) = refl

-- the page of a level whose range begins at the empty key is its first one
pub first_of : (chunks : Chunks) (level : ℕ) (x : Node) (xs : List Node) (m : Node) → IsLevel chunks level (x ∷ xs) → IsIn m (x ∷ xs) → m.begins ≡ [] → m ≡ x
first_of chunks level x xs m l i begins = elim (in_cases m x xs i) [
  | inl e ↦ e
  | inr j ↦ (
      let ranges : AllByRecursion IsRange (x ∷ xs) = ranges_of (x ∷ xs) (λ n there. range_of chunks level n (l.nodes_are n there)) in
      let above : IsBelow x.begins m.begins = (all_before x j.before m j.behind (rw j.parts at (l.chain).1) (rw j.parts at ranges)).begins in
      let both : false ≡ true = sym (none_below x.begins) ∙ ap (is_below x.begins) (sym begins) ∙ above in
      absurd cc)
]
