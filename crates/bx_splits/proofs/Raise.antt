-- The root is cut in two pages of its level, and stands above them.
use Rattle.std.proofs.Common.{◌≡◌, ℕ, ◌+◌, ◌^◌, ◌<◌, ◌≤◌, Bool, true, false, eqb, cond, List, [], ◌∷◌, ◌++◌, take, drop, Option, Some, None, refl, sym, ap, subst, ◌∙◌, arith, inl, inr, eqb-true}
use Rattle.std.specs.Prelude.{IfSome}
use Rattle.std.specs.Int.{w64, to_be_bytes}
use Rattle.std.proofs.lemmas.Bool.{eqb-false, eq-eqb, ne_eqb}
use Rattle.std.proofs.lemmas.List.{append-nil, take-append-drop}
use Rattle.std.proofs.lemmas.List.Elements.{All-cons, All-nil, All-take, All-drop}
use Rattle.std.proofs.lemmas.Nat.{from_be_bytes-to_be_bytes_8}
use Rattle.bx_layout.specs.declared.block.Block.{Block}
use Rattle.bx_page.specs.declared.entry.Entry.{Entry}
use Rattle.bx_page.specs.Keys.{is_below, IsBelow}
use Rattle.bx_page.specs.Contents.{Contents, half, first_half, other_half}
use Rattle.bx_truth.specs.PageTrees.{Chunks, Node, IsIn, HasPage, IsNode, IsLast, IsLevel, NamesChild, IsInterior, PageTree, IsTree, entries_of, map_of}
use Rattle.bx_leaves.proofs.Apart.{same_page}
use Rattle.bx_leaves.proofs.Members.{in_cases, in_head, in_tail, in_none}
use Rattle.bx_splits.proofs.Relevel.{moved}
use Rattle.bx_splits.specs.Splits.{root_page}
use Rattle.bx_splits.proofs.Cut.{IsMiddle}

pub record Raises (chunks chunks' : Chunks) (root left right : ℕ) (root_block left_block right_block : Block) : Type 0 where
  pub here : chunks' root ≡ Some root_block
  pub at_left : chunks' left ≡ Some left_block
  pub at_right : chunks' right ≡ Some right_block
  pub left_fresh : chunks left ≡ None
  pub right_fresh : chunks right ≡ None
  pub others : (other : ℕ) → (other ≡ root → ⊥) → (other ≡ left → ⊥) → (other ≡ right → ⊥) → chunks' other ≡ chunks other

module _ (chunks chunks' : Chunks) (root : ℕ) (tree : PageTree) (left right : ℕ) (middle : List ℕ) (root_block left_block right_block : Block) (is : IsTree chunks root tree)
    (left_fits : left < 2 ^ 64) (right_fits : right < 2 ^ 64) (m : IsMiddle is.top right middle) (c : Raises chunks chunks' root left right root_block left_block right_block)
    (root_has : HasPage (root_page (is.top).page left right middle) root_block) (left_has : HasPage (first_half (is.top).page right) left_block) (right_has : HasPage (other_half (is.top).page) right_block) where
  old : IsLevel chunks tree.height (is.top ∷ [])
  old = rw is.root_alone at (is.levels tree.height (omega arith))

  top : IsNode chunks tree.height is.top
  top = old.nodes_are is.top (in_head is.top [])

  abbrev pub left_node : Node
  left_node = record { handle = left; begins = []; page = first_half (is.top).page right }

  abbrev pub right_node : Node
  right_node = record { handle = right; begins = middle; page = other_half (is.top).page }

  abbrev pub new_top : Node
  new_top = record { handle = root; begins = []; page = root_page (is.top).page left right middle }

  empty : (is.top).begins ≡ []
  empty = (old.chain).0

  last : IsLast (is.top).page
  last = (old.chain).1

  not_fresh : (l : ℕ) (n : Node) (h : ℕ) → IsNode chunks l n → chunks h ≡ None → n.handle ≡ h → ⊥
  not_fresh l n h nn fresh same = let both : Some nn.block ≡ None = sym nn.chunk ∙ ap chunks same ∙ fresh in absurd cc

  pair_level : IsLevel chunks' tree.height (left_node ∷ right_node ∷ [])
  pair_level = record {
    nodes_are = λ n i. elim (in_cases n left_node (right_node ∷ []) i) [
      | inl e ↦ subst (λ (x : Node). IsNode chunks' tree.height x) (sym e) (record {
        block = left_block;
        chunk = c.at_left;
        has = left_has;
        same_level = top.same_level;
        lowest = All-take (λ entry. is_below entry.key [] ≡ false) (half (is.top).page) (is.top).page.entries (rw empty at top.lowest);
        highest = subst (λ (o : Option (List ℕ)). IfSome o (IsBelow [])) (sym m.high) (rw empty at m.above);
      })
      | inr j ↦ elim (in_cases n right_node [] j) [
        | inl e ↦ subst (λ (x : Node). IsNode chunks' tree.height x) (sym e) (record { block = right_block; chunk = c.at_right; has = right_has; same_level = top.same_level; lowest = m.lowest; highest = m.highest })
        | inr k ↦ absurd (in_none n k)
      ]
    ];
    chain = (refl, (record { right = refl; high = m.high }, record { right = last.right; high = last.high }));
  }

  top_level : IsLevel chunks' (tree.height + 1) (new_top ∷ [])
  top_level = record {
    nodes_are = λ n i. elim (in_cases n new_top [] i) [
      | inl e ↦ subst (λ (x : Node). IsNode chunks' (tree.height + 1) x) (sym e) (record {
        block = root_block;
        chunk = c.here;
        has = root_has;
        same_level = ap (λ (l : ℕ). l + 1) top.same_level;
        lowest = All-cons (λ (entry : Entry). is_below entry.key [] ≡ false) (record { key = []; value = to_be_bytes w64 left }) (record { key = middle; value = to_be_bytes w64 right } ∷ []) refl
            (All-cons (λ (entry : Entry). is_below entry.key [] ≡ false) (record { key = middle; value = to_be_bytes w64 right }) [] (not_below_empty middle) (All-nil (λ (entry : Entry). is_below entry.key [] ≡ false)));
        highest = tt;
      })
      | inr j ↦ absurd (in_none n j)
    ];
    chain = (refl, record { right = refl; high = refl });
  }
    where
      not_below_empty : (key : List ℕ) → is_below key [] ≡ false
      not_below_empty [] = refl
      not_below_empty (k ∷ ks) = refl

  lower_level : (l : ℕ) → l ≤ tree.height → (l ≡ tree.height → ⊥) → IsLevel chunks' l (tree.level l)
  lower_level l within ne =
      let o = is.levels l within in
      record {
        nodes_are = λ n i.
            let nn = o.nodes_are n i in
            moved chunks chunks' l n (c.others n.handle
            (λ e. ne (sym nn.same_level ∙ ap (λ (p : Contents). p.level) (same_page chunks l tree.height n is.top nn top (e ∙ sym is.root_is)) ∙ top.same_level))
            (not_fresh l n left nn c.left_fresh) (not_fresh l n right nn c.right_fresh)) nn;
        chain = o.chain;
      }

  abbrev pub raised : PageTree
  raised = record { height = tree.height + 1; level = λ l. cond (eqb l (tree.height + 1)) (new_top ∷ []) (cond (eqb l tree.height) (left_node ∷ right_node ∷ []) (tree.level l)) }

  levels' : (l : ℕ) → l ≤ tree.height + 1 → (a : Bool) → eqb l (tree.height + 1) ≡ a → (b : Bool) → eqb l tree.height ≡ b → IsLevel chunks' l (cond a (new_top ∷ []) (cond b (left_node ∷ right_node ∷ []) (tree.level l)))
  levels' l within true e b f = subst (λ (n : ℕ). IsLevel chunks' n (new_top ∷ [])) (sym (eqb-true l (tree.height + 1) e)) top_level
  levels' l within false e true f = subst (λ (n : ℕ). IsLevel chunks' n (left_node ∷ right_node ∷ [])) (sym (eqb-true l tree.height f)) pair_level
  levels' l within false e false f = let ne = eqb-false l (tree.height + 1) e in let nf = eqb-false l tree.height f in lower_level l (omega (arith, ne)) nf

  names_two : IsInterior (left_node ∷ right_node ∷ []) new_top
  names_two = record {
    first = refl;
    names = All-cons (NamesChild (left_node ∷ right_node ∷ [])) (record { key = []; value = to_be_bytes w64 left }) (record { key = middle; value = to_be_bytes w64 right } ∷ [])
        (record { child = left_node; there = in_head left_node (right_node ∷ []); eight = refl; value = from_be_bytes-to_be_bytes_8 left left_fits; key = refl })
        (All-cons (NamesChild (left_node ∷ right_node ∷ [])) (record { key = middle; value = to_be_bytes w64 right }) []
        (record { child = right_node; there = in_tail right_node left_node (right_node ∷ []) (in_head right_node []); eight = refl; value = from_be_bytes-to_be_bytes_8 right right_fits; key = refl })
        (All-nil (NamesChild (left_node ∷ right_node ∷ []))));
  }

  inner : (l : ℕ) → l + 1 ≡ tree.height → (n : Node) → IsIn n (left_node ∷ right_node ∷ []) → IsInterior (tree.level l) n
  inner l e n i =
      let t = is.interior l (omega arith) is.top (subst (λ (ns : List Node). IsIn is.top ns) (sym (ap tree.level e ∙ is.root_alone)) (in_head is.top [])) in
      elim (in_cases n left_node (right_node ∷ []) i) [
        | inl q ↦ subst (λ (x : Node). IsInterior (tree.level l) x) (sym q) (record { first = m.left_first ∙ t.first ∙ ap Some empty; names = All-take (NamesChild (tree.level l)) (half (is.top).page) (is.top).page.entries t.names })
        | inr j ↦ elim (in_cases n right_node [] j) [
          | inl q ↦ subst (λ (x : Node). IsInterior (tree.level l) x) (sym q) (record { first = m.right_first; names = All-drop (NamesChild (tree.level l)) (half (is.top).page) (is.top).page.entries t.names })
          | inr k ↦ absurd (in_none n k)
        ]
      ]

  pub children : (l : ℕ) → (l ≡ tree.height + 1 → ⊥) → (l ≡ tree.height → ⊥) → tree.level l ≡ raised.level l
  children l ne nf = rw (ne_eqb l (tree.height + 1) ne, ne_eqb l tree.height nf) refl

  inside : (l : ℕ) → l < tree.height + 1 → (n : Node) → (a : Bool) → eqb (l + 1) (tree.height + 1) ≡ a → (b : Bool) → eqb (l + 1) tree.height ≡ b
      → IsIn n (cond a (new_top ∷ []) (cond b (left_node ∷ right_node ∷ []) (tree.level (l + 1)))) → IsInterior (raised.level l) n
  inside l lt n true e b f i =
      let same : l ≡ tree.height = (let q = eqb-true (l + 1) (tree.height + 1) e in omega arith) in
      let here : raised.level l ≡ left_node ∷ right_node ∷ [] = rw (ne_eqb l (tree.height + 1) (λ q. omega arith), eq-eqb l tree.height same) refl in
      elim (in_cases n new_top [] i) [
        | inl q ↦ subst (λ (ns : List Node). IsInterior ns n) (sym here) (subst (λ (x : Node). IsInterior (left_node ∷ right_node ∷ []) x) (sym q) names_two)
        | inr j ↦ absurd (in_none n j)
      ]
  inside l lt n false e true f i =
      let same : l + 1 ≡ tree.height = eqb-true (l + 1) tree.height f in
      subst (λ (ns : List Node). IsInterior ns n) (children l (λ q. omega arith) (λ q. omega arith)) (inner l same n i)
  inside l lt n false e false f i =
      let ne = eqb-false (l + 1) (tree.height + 1) e in
      let nf = eqb-false (l + 1) tree.height f in
      let low : l < tree.height = omega (arith, ne) in
      subst (λ (ns : List Node). IsInterior ns n) (children l (λ q. omega arith) (λ q. omega arith)) (is.interior l low n i)

  pub is_raised : IsTree chunks' root raised
  is_raised = record {
    levels = λ l within. levels' l within (eqb l (tree.height + 1)) refl (eqb l tree.height) refl;
    interior = λ l lt n i. inside l lt n (eqb (l + 1) (tree.height + 1)) refl (eqb (l + 1) tree.height) refl i;
    top = new_top;
    root_alone = rw (eq-eqb (tree.height + 1) (tree.height + 1) refl) refl;
    root_is = refl;
  }

  -- the map stays
  pub map_stays : (b : Bool) → eqb 0 tree.height ≡ b → map_of raised ≡ map_of tree
  map_stays true e =
      let none : tree.height ≡ 0 = sym (eqb-true 0 tree.height e) in
      let here : raised.level 0 ≡ left_node ∷ right_node ∷ [] = rw (ne_eqb 0 (tree.height + 1) (λ q. omega arith), e) refl in
      ap entries_of here
      ∙ ap (λ (es : List Entry). take (half (is.top).page) (is.top).page.entries ++ es) (append-nil (drop (half (is.top).page) (is.top).page.entries))
      ∙ take-append-drop (half (is.top).page) (is.top).page.entries
      ∙ sym (append-nil (is.top).page.entries)
      ∙ ap entries_of (sym (ap tree.level (sym none) ∙ is.root_alone))
  map_stays false e = ap entries_of (sym (children 0 (λ q. omega arith) (eqb-false 0 tree.height e)))
