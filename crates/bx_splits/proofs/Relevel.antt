-- A level of a tree gets another list of pages, and the other levels stay.
use Rattle.std.proofs.Common.{◌≡◌, ℕ, ◌+◌, ◌<◌, ◌≤◌, Bool, true, false, eqb, cond, List, [], ◌∷◌, refl, sym, subst, ◌∙◌, eqb-true}
use Rattle.std.proofs.lemmas.List.Elements.{All-weaker}
use Rattle.std.proofs.lemmas.Bool.{eqb-false}
use Rattle.bx_page.specs.declared.entry.Entry.{Entry}
use Rattle.bx_truth.specs.PageTrees.{Chunks, Node, IsIn, IsNode, IsLevel, NamesChild, IsInterior, PageTree, IsTree}
use Rattle.bx_leaves.proofs.Replaced.{with_level}

-- a node whose chunk is the same in other chunks
pub moved : (chunks chunks' : Chunks) (level : ℕ) (m : Node) → chunks' m.handle ≡ chunks m.handle → IsNode chunks level m → IsNode chunks' level m
moved chunks chunks' level m same n = record { block = n.block; chunk = same ∙ n.chunk; has = n.has; same_level = n.same_level; lowest = n.lowest; highest = n.highest }

-- what another list of pages of a level is to a tree
pub record TakesLevel (chunks chunks' : Chunks) (root : ℕ) (tree : PageTree) (level : ℕ) (nodes : List Node) : Type 0 where
  pub is : IsLevel chunks' level nodes
  pub others : (l : ℕ) → l ≤ tree.height → (l ≡ level → ⊥) → (m : Node) → IsIn m (tree.level l) → chunks' m.handle ≡ chunks m.handle
  pub children : (entry : Entry) → NamesChild (tree.level level) entry → NamesChild nodes entry
  pub interior : (under : ℕ) → level ≡ under + 1 → (m : Node) → IsIn m nodes → IsInterior (tree.level under) m
  pub top : level ≡ tree.height → (t : Node) × (nodes ≡ t ∷ []) × (t.handle ≡ root)

module _ (chunks chunks' : Chunks) (root : ℕ) (tree : PageTree) (level : ℕ) (nodes : List Node) (is : IsTree chunks root tree) (t : TakesLevel chunks chunks' root tree level nodes) where
  levels' : (l : ℕ) → l ≤ tree.height → (b : Bool) → eqb l level ≡ b → IsLevel chunks' l (cond b nodes (tree.level l))
  levels' l within true e = subst (λ (n : ℕ). IsLevel chunks' n nodes) (sym (eqb-true l level e)) t.is
  levels' l within false e =
      let o = is.levels l within in
      record { nodes_are = λ m i. moved chunks chunks' l m (t.others l within (eqb-false l level e) m i) (o.nodes_are m i); chain = o.chain }

  children' : (l : ℕ) (entry : Entry) → NamesChild (tree.level l) entry → (b : Bool) → eqb l level ≡ b → NamesChild (cond b nodes (tree.level l)) entry
  children' l entry n true e = t.children entry (subst (λ (k : ℕ). NamesChild (tree.level k) entry) (eqb-true l level e) n)
  children' l entry n false e = n

  interior' : (l : ℕ) (m : Node) → IsInterior (tree.level l) m → IsInterior (cond (eqb l level) nodes (tree.level l)) m
  interior' l m i = record {
    first = i.first;
    names = All-weaker (NamesChild (tree.level l)) (NamesChild (cond (eqb l level) nodes (tree.level l))) (λ entry n. children' l entry n (eqb l level) refl) m.page.entries i.names;
  }

  inside' : (l : ℕ) → l < tree.height → (m : Node) → (b : Bool) → eqb (l + 1) level ≡ b → IsIn m (cond b nodes (tree.level (l + 1))) → IsInterior (tree.level l) m
  inside' l lt m true e i = t.interior l (sym (eqb-true (l + 1) level e)) m i
  inside' l lt m false e i = is.interior l lt m i

  top' : (b : Bool) → eqb tree.height level ≡ b → (n : Node) × (cond b nodes (tree.level tree.height) ≡ n ∷ []) × (n.handle ≡ root)
  top' true e = t.top (sym (eqb-true tree.height level e))
  top' false e = (is.top, is.root_alone, is.root_is)

  pub releveled : IsTree chunks' root (with_level tree level nodes)
  releveled =
      let n = top' (eqb tree.height level) refl in
      record {
        levels = λ l within. levels' l within (eqb l level) refl;
        interior = λ l lt m i. interior' l m (inside' l lt m (eqb (l + 1) level) refl i);
        top = n.0;
        root_alone = n.1;
        root_is = n.2;
      }
