-- The keys of a tree's map rise.
use Rattle.std.proofs.Common.{◌≡◌, ℕ, suc, arith, false, List, [], ◌∷◌, ◌++◌, get_or, refl, sym, ap, subst, Option}
use Rattle.std.specs.Prelude.{All, IfSome}
use Rattle.std.proofs.lemmas.List.{append-nil}
use Rattle.std.proofs.lemmas.List.Elements.{All-append}
use Rattle.std.proofs.lemmas.List.Kept.{AllPairs-cons}
use Rattle.bx_page.specs.declared.entry.Entry.{Entry}
use Rattle.bx_page.specs.Keys.{is_below, IsBelow}
use Rattle.bx_page.specs.Contents.{Rises}
use Rattle.bx_truth.specs.PageTrees.{Chunks, Node, IsIn, IsNode, PagesLead, IsLevel, PageTree, IsTree, entries_of, map_of}
use Rattle.bx_leaves.specs.bx_blink.proofs.Keys.{lt_le, lt_not}

here : (node : Node) (others : List Node) → IsIn node (node ∷ others)
here node others = record { before = []; behind = others; parts = refl }

later : (node first : Node) (others : List Node) → IsIn node others → IsIn node (first ∷ others)
later node first others there = record { before = first ∷ there.before; behind = there.behind; parts = ap (λ (l : List Node). first ∷ l) there.parts }

-- two lists that rise, one behind the other
join : (xs ys : List Entry) → Rises xs → Rises ys → All (λ x. All (λ y. IsBelow x.key y.key) ys) xs → Rises (xs ++ ys)
join [] ys rises more apart = more
join (x ∷ xs) ys rises more apart =
    AllPairs-cons (λ (a b : Entry). IsBelow a.key b.key) x (xs ++ ys)
    (All-append (λ (b : Entry). IsBelow x.key b.key) xs ys (λ k d less. rises 0 (suc k) d (omega arith) (omega (arith, less))) (apart 0 x (omega arith)))
    (join xs ys (λ i j d less within. rises (suc i) (suc j) d (omega (arith, less)) (omega (arith, within))) more (λ k d less. apart (suc k) d (omega (arith, less))))

module _ (chunks : Chunks) (level : ℕ) where
  -- the entries from a page on, and where its range begins
  rise_on : (x : Node) (others : List Node) → ((node : Node) → IsIn node (x ∷ others) → IsNode chunks level node) → PagesLead x others
      → Rises (entries_of (x ∷ others)) × All (λ (e : Entry). is_below e.key x.begins ≡ false) (entries_of (x ∷ others))
  rise_on x [] all last =
      let is = all x (here x []) in
      let same : entries_of (x ∷ []) ≡ x.page.entries = append-nil x.page.entries in
      (subst Rises (sym same) is.has.spells.is.rises, subst (All (λ (e : Entry). is_below e.key x.begins ≡ false)) (sym same) is.lowest)
  rise_on x (y ∷ others) all next =
      let is = all x (here x (y ∷ others)) in
      let rest = rise_on y others (λ node there. all node (later node x (y ∷ others) there)) next.1 in
      let below : All (λ (e : Entry). IsBelow e.key y.begins) x.page.entries = subst (λ (o : Option (List ℕ)). IfSome o (λ h. All (λ (e : Entry). IsBelow e.key h) x.page.entries)) next.0.high is.has.spells.is.below in
      let above : IsBelow x.begins y.begins = subst (λ (o : Option (List ℕ)). IfSome o (IsBelow x.begins)) next.0.high is.highest in (
        join x.page.entries (entries_of (y ∷ others)) is.has.spells.is.rises rest.0
            (λ k d less j e within. lt_le (get_or x.page.entries k d).key y.begins (get_or (entries_of (y ∷ others)) j e).key (below k d less) (rest.1 j e within)),
        All-append (λ (e : Entry). is_below e.key x.begins ≡ false) x.page.entries (entries_of (y ∷ others)) is.lowest
            (λ k d less. lt_not x.begins (get_or (entries_of (y ∷ others)) k d).key (lt_le x.begins y.begins (get_or (entries_of (y ∷ others)) k d).key above (rest.1 k d less))),
      )

  entries_rise : (nodes : List Node) → IsLevel chunks level nodes → Rises (entries_of nodes)
  entries_rise [] is = absurd is.chain
  entries_rise (x ∷ others) is = (rise_on x others is.nodes_are is.chain.1).0

pub map_rises : (chunks : Chunks) (root : ℕ) (tree : PageTree) → IsTree chunks root tree → Rises (map_of tree)
map_rises chunks root tree is = entries_rise chunks 0 (tree.level 0) (is.levels 0 (omega arith))
