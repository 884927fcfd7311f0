-- A page of a level is cut in two: the level's entries stay.
use Rattle.std.proofs.Common.{◌≡◌, ℕ, ◌<◌, false, List, [], ◌∷◌, ◌++◌, take, drop, Option, Some, None, refl, sym, ap, subst, ◌∙◌, arith, inl, inr}
use Rattle.std.specs.Prelude.{All, IfSome}
use Rattle.std.specs.Option.{option_map}
use Rattle.std.proofs.lemmas.List.{append_assoc, take-append-drop}
use Rattle.std.proofs.lemmas.List.Elements.{All-take, All-drop}
use Rattle.bx_layout.specs.declared.block.Block.{Block}
use Rattle.bx_page.specs.declared.entry.Entry.{Entry}
use Rattle.bx_page.specs.Keys.{is_below, IsBelow}
use Rattle.bx_page.specs.Contents.{Contents, first, half, first_half, other_half}
use Rattle.bx_truth.specs.PageTrees.{Chunks, Node, IsIn, HasPage, IsNode, PagesLead, IsChain, IsLevel, NamesChild, IsInterior, PageTree, IsTree, entries_of}
use Rattle.bx_blink.proofs.Chains.{entries_at}
use Rattle.bx_leaves.proofs.Apart.{same_page}
use Rattle.bx_leaves.proofs.Members.{in_left, in_right, in_split, in_cases, in_tail, in_middle}
use Rattle.bx_leaves.proofs.Exchanged.{apart_before, apart_behind}
use Rattle.bx_leaves.proofs.Replaced.{with_level}
use Rattle.bx_splits.proofs.Relevel.{moved, TakesLevel, releveled}

-- the two pages
abbrev pub left_of : Node → ℕ → Node
left_of node right = record { handle = node.handle; begins = node.begins; page = first_half node.page right }

abbrev pub right_of : Node → ℕ → List ℕ → Node
right_of node right middle = record { handle = right; begins = middle; page = other_half node.page }

-- the chunks are the same, but that a handle names another block, and one that named none a block
pub record Cuts (chunks chunks' : Chunks) (handle right : ℕ) (left_block right_block : Block) : Type 0 where
  pub here : chunks' handle ≡ Some left_block
  pub new : chunks' right ≡ Some right_block
  pub fresh : chunks right ≡ None
  pub others : (other : ℕ) → (other ≡ handle → ⊥) → (other ≡ right → ⊥) → chunks' other ≡ chunks other

module _ (node : Node) (right : ℕ) (middle : List ℕ) (high : (first_half node.page right).high ≡ Some middle) where
  right_leads : (behind : List Node) → PagesLead node behind → PagesLead (right_of node right middle) behind
  right_leads [] l = record { right = l.right; high = l.high }
  right_leads (next ∷ more) l = (record { right = l.0.right; high = l.0.high }, l.1)

  left_leads : (behind : List Node) → PagesLead node behind → PagesLead (left_of node right) (right_of node right middle ∷ behind)
  left_leads behind l = (record { right = refl; high = high }, right_leads behind l)

  leads_cut : (x : Node) (before behind : List Node) → PagesLead x (before ++ node ∷ behind) → PagesLead x (before ++ left_of node right ∷ (right_of node right middle ∷ behind))
  leads_cut x [] behind l = (record { right = l.0.right; high = l.0.high }, left_leads behind l.1)
  leads_cut x (y ∷ ys) behind l = (l.0, leads_cut y ys behind l.1)

  pub chain_cut : (before behind : List Node) → IsChain (before ++ node ∷ behind) → IsChain (before ++ left_of node right ∷ (right_of node right middle ∷ behind))
  chain_cut [] behind c = (c.0, left_leads behind c.1)
  chain_cut (x ∷ before) behind c = (c.0, leads_cut x before behind c.1)

  pub names_cut : (before behind : List Node) (entry : Entry) → NamesChild (before ++ node ∷ behind) entry → NamesChild (before ++ left_of node right ∷ (right_of node right middle ∷ behind)) entry
  names_cut before behind entry n = elim (in_split n.child node before behind n.there) [
    | inl e ↦ record { child = left_of node right; there = in_middle (left_of node right) before (right_of node right middle ∷ behind); eight = n.eight; value = n.value ∙ ap (λ (m : Node). m.handle) e; key = n.key ∙ ap (λ (m : Node). m.begins) e }
    | inr (inl b) ↦ record { child = n.child; there = in_left n.child before (left_of node right ∷ (right_of node right middle ∷ behind)) b; eight = n.eight; value = n.value; key = n.key }
    | inr (inr b) ↦ record { child = n.child; there = in_right n.child before (left_of node right ∷ (right_of node right middle ∷ behind)) (in_tail n.child (left_of node right) (right_of node right middle ∷ behind) (in_tail n.child (right_of node right middle) behind b)); eight = n.eight; value = n.value; key = n.key }
  ]

  -- the entries are the same
  pub entries_cut : (before behind : List Node) → entries_of (before ++ left_of node right ∷ (right_of node right middle ∷ behind)) ≡ entries_of (before ++ node ∷ behind)
  entries_cut before behind =
      entries_at before (left_of node right) (right_of node right middle ∷ behind)
      ∙ ap (λ (es : List Entry). entries_of before ++ es) (sym (append_assoc (take (half node.page) node.page.entries) (drop (half node.page) node.page.entries) (entries_of behind)) ∙ ap (λ (es : List Entry). es ++ entries_of behind) (take-append-drop (half node.page) node.page.entries))
      ∙ sym (entries_at before node behind)

-- what is known of the middle key
pub record IsMiddle (node : Node) (right : ℕ) (middle : List ℕ) : Type 0 where
  pub high : (first_half node.page right).high ≡ Some middle
  pub above : IsBelow node.begins middle
  pub lowest : All (λ entry. is_below entry.key middle ≡ false) (other_half node.page).entries
  pub highest : IfSome node.page.high (IsBelow middle)
  pub left_first : option_map (λ entry. entry.key) (first (first_half node.page right).entries) ≡ option_map (λ entry. entry.key) (first node.page.entries)
  pub right_first : option_map (λ entry. entry.key) (first (other_half node.page).entries) ≡ Some middle

module _ (chunks chunks' : Chunks) (root : ℕ) (tree : PageTree) (level : ℕ) (before : List Node) (node : Node) (behind : List Node) (right : ℕ) (middle : List ℕ) (left_block right_block : Block)
    (is : IsTree chunks root tree) (lt : level < tree.height) (parts : tree.level level ≡ before ++ node ∷ behind) (m : IsMiddle node right middle)
    (c : Cuts chunks chunks' node.handle right left_block right_block) (left_has : HasPage (first_half node.page right) left_block) (right_has : HasPage (other_half node.page) right_block) where
  old : IsLevel chunks level (before ++ node ∷ behind)
  old = rw parts at (is.levels level (omega arith))

  here : IsNode chunks level node
  here = old.nodes_are node (in_middle node before behind)

  -- a page in use has another handle than the new one
  not_new : (l : ℕ) (n : Node) → IsNode chunks l n → n.handle ≡ right → ⊥
  not_new l n nn same = let both : Some nn.block ≡ None = sym nn.chunk ∙ ap chunks same ∙ c.fresh in absurd cc

  left_node : IsNode chunks' level (left_of node right)
  left_node = record { block = left_block; chunk = c.here; has = left_has; same_level = here.same_level; lowest = All-take (λ entry. is_below entry.key node.begins ≡ false) (half node.page) node.page.entries here.lowest; highest = subst (λ (o : Option (List ℕ)). IfSome o (IsBelow node.begins)) (sym m.high) m.above }

  right_node : IsNode chunks' level (right_of node right middle)
  right_node = record { block = right_block; chunk = c.new; has = right_has; same_level = here.same_level; lowest = m.lowest; highest = m.highest }

  stays_old : (n : Node) → IsIn n (before ++ node ∷ behind) → (n.handle ≡ node.handle → ⊥) → IsNode chunks' level n
  stays_old n i apart = moved chunks chunks' level n (c.others n.handle apart (not_new level n (old.nodes_are n i))) (old.nodes_are n i)

  -- the members of the new list
  by_member : (P : Node → Type 0) → P (left_of node right) → P (right_of node right middle) → ((n : Node) → IsIn n before → P n) → ((n : Node) → IsIn n behind → P n)
      → (n : Node) → IsIn n (before ++ left_of node right ∷ (right_of node right middle ∷ behind)) → P n
  by_member P a b f g n i = elim (in_split n (left_of node right) before (right_of node right middle ∷ behind) i) [
    | inl e ↦ subst P (sym e) a
    | inr (inl j) ↦ f n j
    | inr (inr j) ↦ elim (in_cases n (right_of node right middle) behind j) [ inl e ↦ subst P (sym e) b | inr k ↦ g n k ]
  ]

  pub takes : TakesLevel chunks chunks' root tree level (before ++ left_of node right ∷ (right_of node right middle ∷ behind))
  takes = record {
    is = record {
      nodes_are = by_member (λ n. IsNode chunks' level n) left_node right_node
          (λ n i. stays_old n (in_left n before (node ∷ behind) i) (apart_before chunks level before node behind old n i))
          (λ n i. stays_old n (in_right n before (node ∷ behind) (in_tail n node behind i)) (apart_behind chunks level before node behind old n i));
      chain = chain_cut node right middle m.high before behind old.chain;
    };
    others = λ l within apart n i.
        let nn = (is.levels l within).nodes_are n i in
        c.others n.handle (λ same. apart (sym nn.same_level ∙ ap (λ (p : Contents). p.level) (same_page chunks l level n node nn here same) ∙ here.same_level)) (not_new l n nn);
    children = λ entry n. names_cut node right middle m.high before behind entry (rw parts at n);
    interior = λ under e.
        let old_in : (n : Node) → IsIn n (before ++ node ∷ behind) → IsInterior (tree.level under) n = λ n there. is.interior under (omega arith) n (subst (λ (ns : List Node). IsIn n ns) (sym (ap tree.level (sym e) ∙ parts)) there) in
        let inner = old_in node (in_middle node before behind) in
        by_member (λ n. IsInterior (tree.level under) n)
        (record { first = m.left_first ∙ inner.first; names = All-take (NamesChild (tree.level under)) (half node.page) node.page.entries inner.names })
        (record { first = m.right_first; names = All-drop (NamesChild (tree.level under)) (half node.page) node.page.entries inner.names })
        (λ n i. old_in n (in_left n before (node ∷ behind) i))
        (λ n i. old_in n (in_right n before (node ∷ behind) (in_tail n node behind i)));
    top = λ e. absurd (omega arith);
  }

  -- the tree with the page cut in two
  pub is_cut : IsTree chunks' root (with_level tree level (before ++ left_of node right ∷ (right_of node right middle ∷ behind)))
  is_cut = releveled chunks chunks' root tree level (before ++ left_of node right ∷ (right_of node right middle ∷ behind)) is takes
