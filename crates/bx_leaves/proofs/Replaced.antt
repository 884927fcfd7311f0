-- A page of a tree is replaced by one with the same range: the rest of the tree stays.
use Rattle.std.proofs.Common.{◌≡◌, ℕ, ◌+◌, ◌<◌, ◌≤◌, Bool, true, false, eqb, cond, List, [], ◌∷◌, ◌++◌, Option, refl, sym, ap, subst, ◌∙◌, eqb-true, inl, inr}
use Rattle.std.specs.Prelude.{All, IfSome}
use Rattle.std.proofs.lemmas.List.Elements.{All-weaker}
use Rattle.std.proofs.lemmas.Bool.{eqb-false}
use Rattle.bx_layout.specs.declared.block.Block.{Block}
use Rattle.bx_page.specs.declared.entry.Entry.{Entry}
use Rattle.bx_page.specs.Keys.{is_below, IsBelow}
use Rattle.bx_page.specs.Contents.{Contents}
use Rattle.bx_blink.specs.bx_truth.specs.Edits.{ChunkAnew}
use Rattle.bx_blink.specs.bx_truth.specs.PageTrees.{Chunks, Node, IsIn, HasPage, IsNode, IsLevel, NamesChild, IsInterior, PageTree, IsTree}
use Rattle.bx_leaves.proofs.Apart.{same_page}
use Rattle.bx_leaves.proofs.Exchanged.{with_page, stays, chain_with, names_with, apart_before, apart_behind}
use Rattle.bx_leaves.proofs.Members.{in_left, in_right, in_split, in_middle}

pub record IsAlone (before : List Node) (node : Node) (behind : List Node) (top : Node) : Type 0 where
  pub before_is : before ≡ []
  pub behind_is : behind ≡ []
  pub node_is : node ≡ top

pub alone : (before : List Node) (node : Node) (behind : List Node) (top : Node) → before ++ node ∷ behind ≡ top ∷ [] → IsAlone before node behind top
alone [] node behind top e = record { before_is = refl; behind_is = cc; node_is = cc }
alone (x ∷ []) node behind top e = absurd cc
alone (x ∷ y ∷ ys) node behind top e = absurd cc

-- the tree with another list of pages on a level
abbrev pub with_level : PageTree → ℕ → List Node → PageTree
with_level tree level nodes = record { height = tree.height; level = λ l. cond (eqb l level) nodes (tree.level l) }

-- what a page is that may stand in place of one
pub record Fits (tree : PageTree) (level : ℕ) (node : Node) (page : Contents) (block : Block) : Type 0 where
  pub has : HasPage page block
  pub same_level : page.level ≡ node.page.level
  pub right : page.right ≡ node.page.right
  pub high : page.high ≡ node.page.high
  pub lowest : All (λ entry. is_below entry.key node.begins ≡ false) page.entries
  pub interior : (under : ℕ) → level ≡ under + 1 → IsInterior (tree.level under) (with_page node page)

module _ (chunks chunks' : Chunks) (root : ℕ) (tree : PageTree) (level : ℕ) (before : List Node) (node : Node) (behind : List Node) (page : Contents) (block : Block)
    (is : IsTree chunks root tree) (le : level ≤ tree.height) (parts : tree.level level ≡ before ++ node ∷ behind) (w : ChunkAnew chunks chunks' node.handle block) (fits : Fits tree level node page block) where
  old : IsLevel chunks level (before ++ node ∷ behind)
  old = rw parts at (is.levels level le)

  nodes' : List Node
  nodes' = before ++ with_page node page ∷ behind

  high_fits : (o : Option (List ℕ)) → o ≡ node.page.high → IfSome o (IsBelow node.begins)
  high_fits o e = rw e ((old.nodes_are node (in_middle node before behind)).highest)

  new_node : IsNode chunks' level (with_page node page)
  new_node = record {
    block = block;
    chunk = w.here;
    has = fits.has;
    same_level = fits.same_level ∙ (old.nodes_are node (in_middle node before behind)).same_level;
    lowest = fits.lowest;
    highest = high_fits page.high fits.high;
  }

  new_level : IsLevel chunks' level (before ++ with_page node page ∷ behind)
  new_level = record {
    nodes_are = λ m i. elim (in_split m (with_page node page) before behind i) [
      | inl e ↦ subst (λ (n : Node). IsNode chunks' level n) (sym e) new_node
      | inr (inl b) ↦ stays chunks chunks' node.handle block level m w (apart_before chunks level before node behind old m b) (old.nodes_are m (in_left m before (node ∷ behind) b))
      | inr (inr b) ↦ stays chunks chunks' node.handle block level m w (apart_behind chunks level before node behind old m b) (old.nodes_are m (in_right m before (node ∷ behind) (in_right m (node ∷ []) behind b)))
    ];
    chain = chain_with node page fits.right fits.high before behind old.chain;
  }

  other_level : (l : ℕ) → l ≤ tree.height → (l ≡ level → ⊥) → IsLevel chunks' l (tree.level l)
  other_level l within apart =
      let o = is.levels l within in
      record {
        nodes_are = λ m i.
            let mm = o.nodes_are m i in
            let nn = old.nodes_are node (in_middle node before behind) in
            stays chunks chunks' node.handle block l m w (λ same. apart (sym mm.same_level ∙ ap (λ (p : Contents). p.level) (same_page chunks l level m node mm nn same) ∙ nn.same_level)) mm;
        chain = o.chain;
      }

  levels' : (l : ℕ) → l ≤ tree.height → (b : Bool) → eqb l level ≡ b → IsLevel chunks' l (cond b (before ++ with_page node page ∷ behind) (tree.level l))
  levels' l within true e = subst (λ (n : ℕ). IsLevel chunks' n (before ++ with_page node page ∷ behind)) (sym (eqb-true l level e)) new_level
  levels' l within false e = other_level l within (eqb-false l level e)

  children' : (l : ℕ) (entry : Entry) → NamesChild (tree.level l) entry → (b : Bool) → eqb l level ≡ b → NamesChild (cond b (before ++ with_page node page ∷ behind) (tree.level l)) entry
  children' l entry n true e =
      let same : tree.level l ≡ before ++ node ∷ behind = ap tree.level (eqb-true l level e) ∙ parts in
      names_with node page fits.right fits.high before behind entry (rw same at n)
  children' l entry n false e = n

  interior' : (l : ℕ) (m : Node) → IsInterior (tree.level l) m → IsInterior (cond (eqb l level) (before ++ with_page node page ∷ behind) (tree.level l)) m
  interior' l m i = record {
    first = i.first;
    names = All-weaker (NamesChild (tree.level l)) (NamesChild (cond (eqb l level) (before ++ with_page node page ∷ behind) (tree.level l))) (λ entry n. children' l entry n (eqb l level) refl) m.page.entries i.names;
  }

  inside' : (l : ℕ) → l < tree.height → (m : Node) → (b : Bool) → eqb (l + 1) level ≡ b → IsIn m (cond b (before ++ with_page node page ∷ behind) (tree.level (l + 1))) → IsInterior (tree.level l) m
  inside' l lt m true e i =
      let same : l + 1 ≡ level = eqb-true (l + 1) level e in
      let old_in : (n : Node) → IsIn n (before ++ node ∷ behind) → IsInterior (tree.level l) n = λ n there. is.interior l lt n (subst (λ (ns : List Node). IsIn n ns) (sym (ap tree.level same ∙ parts)) there) in
      elim (in_split m (with_page node page) before behind i) [
        | inl q ↦ subst (λ (n : Node). IsInterior (tree.level l) n) (sym q) (fits.interior l (sym same))
        | inr (inl b) ↦ old_in m (in_left m before (node ∷ behind) b)
        | inr (inr b) ↦ old_in m (in_right m before (node ∷ behind) (in_right m (node ∷ []) behind b))
      ]
  inside' l lt m false e i = is.interior l lt m i

  top' : (b : Bool) → eqb tree.height level ≡ b → (t : Node) × (cond b (before ++ with_page node page ∷ behind) (tree.level tree.height) ≡ t ∷ []) × (t.handle ≡ root)
  top' true e =
      let both : before ++ node ∷ behind ≡ is.top ∷ [] = sym parts ∙ ap tree.level (sym (eqb-true tree.height level e)) ∙ is.root_alone in
      let a = alone before node behind is.top both in
      (with_page node page, ap (λ (xs : List Node). xs ++ with_page node page ∷ behind) a.before_is ∙ ap (λ (xs : List Node). with_page node page ∷ xs) a.behind_is, ap (λ (n : Node). n.handle) a.node_is ∙ is.root_is)
  top' false e = (is.top, is.root_alone, is.root_is)

  pub replaced : IsTree chunks' root (with_level tree level (before ++ with_page node page ∷ behind))
  replaced =
      let t = top' (eqb tree.height level) refl in
      record {
        levels = λ l within. levels' l within (eqb l level) refl;
        interior = λ l lt m i. interior' l m (inside' l lt m (eqb (l + 1) level) refl i);
        top = t.0;
        root_alone = t.1;
        root_is = t.2;
      }
