-- At a key's leaf: what is behind it is what there is from its high key on.
use Rattle.std.proofs.Common.{◌≡◌, ℕ, true, false, List, [], ◌∷◌, ◌++◌, Option, Some, None, refl, sym, ap, ◌∙◌}
use Rattle.std.specs.Prelude.{not, IfSome}
use Rattle.std.proofs.lemmas.List.{append_assoc}
use Rattle.std.proofs.lemmas.List.Elements.{All-weaker}
use Rattle.bx_page.specs.declared.entry.Entry.{Entry}
use Rattle.bx_page.specs.Keys.{is_below}
use Rattle.bx_page.specs.Contents.{Contents, first, from}
use Rattle.bx_page.proofs.Order.{not_below_itself}
use Rattle.bx_page.proofs.Cuts.{filter_all}
use Rattle.bx_truth.specs.PageTrees.{Chunks, Node, IsIn, PagesLead, PageTree, IsTree, entries_of, map_of}
use Rattle.bx_blink.specs.Leaves.{IsLeafOf, IsNextLeaf, behind_leaf}
use Rattle.bx_blink.specs.Places.{IsPlaceOf}
use Rattle.bx_blink.proofs.Entries.{from_within}
use Rattle.bx_blink.proofs.Chains.{leads_in}
use Rattle.bx_blink.proofs.Places.{within}

first_more : (xs ys : List Entry) (entry : Entry) → first xs ≡ Some entry → first (xs ++ ys) ≡ Some entry
first_more [] ys entry e = absurd cc
first_more (x ∷ xs) ys entry e = e

pub first_none : (xs : List Entry) → first xs ≡ None → xs ≡ []
first_none [] e = refl
first_none (x ∷ xs) e = absurd cc

none_some : {X : Type 0} (x : X) → None ≡ Some x → ⊥
none_some x e = cc

module _ (chunks : Chunks) (root : ℕ) (tree : PageTree) (is : IsTree chunks root tree) where
  -- the entries from a key on are those of its leaf, and all behind
  from_here : (key : List ℕ) (handle : ℕ) (page : Contents) (p : IsPlaceOf tree 0 key handle page) → from (map_of tree) key ≡ from page.entries key ++ entries_of (p.there).behind
  from_here key handle page p =
      let w = within chunks root tree 0 key handle page is p in
      ap (λ (es : List Entry). from es key) w.parts ∙ from_within key w.front page.entries w.back w.around ∙ ap (λ (es : List Entry). from page.entries key ++ es) w.back_is

  pub here : (key : List ℕ) (handle : ℕ) (page : Contents) (entry : Entry) → IsPlaceOf tree 0 key handle page → first (from page.entries key) ≡ Some entry → first (from (map_of tree) key) ≡ Some entry
  here key handle page entry p e = ap first (from_here key handle page p) ∙ first_more (from page.entries key) (entries_of (p.there).behind) entry e

  -- the entries from a key on are all behind its leaf
  behind : (key : List ℕ) (handle : ℕ) (page : Contents) (p : IsPlaceOf tree 0 key handle page) → first (from page.entries key) ≡ None → from (map_of tree) key ≡ entries_of (p.there).behind
  behind key handle page p e = from_here key handle page p ∙ ap (λ (es : List Entry). es ++ entries_of (p.there).behind) (first_none (from page.entries key) e)

  chained : (key : List ℕ) (handle : ℕ) (page : Contents) (p : IsPlaceOf tree 0 key handle page) → PagesLead p.node (p.there).behind
  chained key handle page p = leads_in (p.there).before p.node (p.there).behind (rw (p.there).parts at (is.levels 0 p.within).chain)

  -- where it has no high key, there is nothing behind it
  none_behind : (key : List ℕ) (handle : ℕ) (page : Contents) (p : IsPlaceOf tree 0 key handle page) → page.high ≡ None → entries_of (p.there).behind ≡ []
  none_behind key handle page p high = by_behind (p.there).behind (chained key handle page p)
    where
      by_behind : (nodes : List Node) → PagesLead p.node nodes → entries_of nodes ≡ []
      by_behind [] l = refl
      by_behind (next ∷ more) l = absurd (none_some next.begins (sym high ∙ ap (λ (c : Contents). c.high) (sym p.page_is) ∙ l.0.high))

  -- else the next leaf is the high key's
  next_behind : (key : List ℕ) (handle : ℕ) (page : Contents) (high : List ℕ) (p : IsPlaceOf tree 0 key handle page) → page.high ≡ Some high
      → (entries_of (p.there).behind ≡ from (map_of tree) high) × IsLeafOf tree high page.right
  next_behind key handle page high p is_high = by_behind (p.there).behind (p.there).parts (chained key handle page p)
    where
      node_high : (p.node).page.high ≡ Some high
      node_high = ap (λ (c : Contents). c.high) p.page_is ∙ is_high

      by_behind : (nodes : List Node) → tree.level 0 ≡ (p.there).before ++ p.node ∷ nodes → PagesLead p.node nodes → (entries_of nodes ≡ from (map_of tree) high) × IsLeafOf tree high page.right
      by_behind [] parts l = absurd (none_some high (sym l.high ∙ node_high))
      by_behind (next ∷ more) parts l =
          let there : IsIn next (tree.level 0) = record { before = (p.there).before ++ p.node ∷ []; behind = more; parts = parts ∙ sym (append_assoc (p.there).before (p.node ∷ []) (next ∷ more)) } in
          let nd = (is.levels 0 p.within).nodes_are next there in
          let begins : next.begins ≡ high = (let both : Some next.begins ≡ Some high = sym l.0.high ∙ node_high in cc) in
          let q : IsPlaceOf tree 0 high next.handle next.page = record {
            node = next;
            within = p.within;
            there = there;
            handle_is = refl;
            page_is = refl;
            from = rw begins (not_below_itself high);
            to = rw begins at nd.highest;
          } in
          let all : from next.page.entries high ≡ next.page.entries =
          filter_all (λ (x : Entry). not (is_below x.key high)) next.page.entries
          (All-weaker (λ (x : Entry). is_below x.key next.begins ≡ false) (λ (x : Entry). not (is_below x.key high) ≡ true) (λ x h. ap not (rw begins at h)) next.page.entries nd.lowest) in (
            ap (λ (es : List Entry). es ++ entries_of more) (sym all) ∙ sym (from_here high next.handle next.page q),
            record { node = next; there = there; handle_is = sym l.0.right ∙ ap (λ (c : Contents). c.right) p.page_is; begins_is = begins },
          )

  by_high : (key : List ℕ) (handle : ℕ) (page : Contents) (p : IsPlaceOf tree 0 key handle page) (high : Option (List ℕ)) → page.high ≡ high
      → (entries_of (p.there).behind ≡ behind_leaf (map_of tree) high) × IfSome high (λ (h : List ℕ). IsLeafOf tree h page.right)
  by_high key handle page p None is_high = (none_behind key handle page p is_high, tt)
  by_high key handle page p (Some high) is_high = next_behind key handle page high p is_high

  pub next_leaf : (key : List ℕ) (handle : ℕ) (page : Contents) → IsPlaceOf tree 0 key handle page → IsNextLeaf tree key key page
  next_leaf key handle page p =
      let h = by_high key handle page p page.high refl in
      record { entries = from_here key handle page p ∙ ap (λ (es : List Entry). from page.entries key ++ es) h.0; onward = h.1 }

  pub nowhere : (key : List ℕ) (handle : ℕ) (page : Contents) → IsPlaceOf tree 0 key handle page → first (from page.entries key) ≡ None → page.high ≡ None → from (map_of tree) key ≡ []
  nowhere key handle page p e high = behind key handle page p e ∙ none_behind key handle page p high

  -- the next leaf is the high key's
  pub beyond : (key : List ℕ) (handle : ℕ) (page : Contents) (high : List ℕ) → IsPlaceOf tree 0 key handle page → first (from page.entries key) ≡ None → page.high ≡ Some high → from (map_of tree) key ≡ from (map_of tree) high
  beyond key handle page high p e is_high = behind key handle page p e ∙ (next_behind key handle page high p is_high).0
