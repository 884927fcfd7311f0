-- A separator is put into the parent of a page: the tree stays one, with the same map.
use Rattle.std.proofs.Common.{◌≡◌, ℕ, ◌+◌, ◌<◌, ◌^◌, true, false, List, [], ◌∷◌, ◌++◌, Some, None, refl, sym, ap, subst, ◌∙◌, arith}
use Rattle.std.specs.Prelude.{All}
use Rattle.std.specs.Int.{w64, to_be_bytes}
use Rattle.std.specs.Option.{option_map}
use Rattle.std.proofs.lemmas.Bool.{ne_eqb}
use Rattle.std.proofs.lemmas.List.Elements.{All-append, All-cons, All-filter}
use Rattle.std.proofs.lemmas.Nat.{from_be_bytes-to_be_bytes_8}
use Rattle.bx_records.specs.Drafts.{Changed, with_block}
use Rattle.bx_page.specs.declared.entry.Entry.{Entry}
use Rattle.bx_page.specs.Keys.{is_below}
use Rattle.bx_page.specs.Contents.{Contents, first, below, above, with_entry, with_value}
use Rattle.bx_page.proofs.Cuts.{filter_none}
use Rattle.bx_truth.specs.Chunks.{block_at, chunks_of}
use Rattle.bx_truth.specs.PageTrees.{Node, IsIn, IsNode, PagesLead, NamesChild, IsInterior, PageTree, map_of}
use Rattle.bx_views.specs.Truths.{Truth, Held, Hints, with_draft}
use Rattle.bx_blink.specs.Hints.{Under}
use Rattle.bx_blink.specs.Places.{IsPlaceOf}
use Rattle.bx_blink.proofs.Chains.{leads_in}
use Rattle.bx_blink.proofs.Keys.{Order, lower, same, higher, order}
use Rattle.bx_leaves.specs.Changes.{MakesMap}
use Rattle.bx_leaves.specs.Leaves.{PutsPage}
use Rattle.bx_leaves.proofs.Exchanged.{with_page}
use Rattle.bx_leaves.proofs.Replaced.{Fits}
use Rattle.bx_leaves.proofs.Rewritten.{rewritten}
use Rattle.bx_splits.proofs.Kept.{used_fits}

none_some : {X : Type 0} (x : X) → None ≡ Some x → ⊥
none_some x e = cc

-- the page on the right of one with a high key
pub record HasNext (nodes : List Node) (node : Node) (high : List ℕ) : Type 0 where
  pub next : Node
  pub there : IsIn next nodes
  pub handle_is : node.page.right ≡ next.handle
  pub begins_is : next.begins ≡ high

some_key : (a b : List ℕ) → Some a ≡ Some b → a ≡ b
some_key a b e = cc

pub next_of : (before : List Node) (node : Node) (behind : List Node) (high : List ℕ) → PagesLead node behind → node.page.high ≡ Some high → HasNext (before ++ node ∷ behind) node high
next_of before node [] high leads e = absurd (none_some high (sym leads.high ∙ e))
next_of before node (next ∷ more) high leads e =
    record { next = next; there = in_second before; handle_is = leads.0.right; begins_is = some_key next.begins high (sym leads.0.high ∙ e) }
  where
    in_second : (xs : List Node) → IsIn next (xs ++ node ∷ (next ∷ more))
    in_second [] = record { before = node ∷ []; behind = more; parts = refl }
    in_second (x ∷ xs) = let i = in_second xs in record { before = x ∷ i.before; behind = i.behind; parts = ap (λ (ys : List Node). x ∷ ys) i.parts }

-- the first key stays, where the one that is put isn't below it
first_with : (entries : List Entry) (key value begins : List ℕ) → option_map (λ entry. entry.key) (first entries) ≡ Some begins → All (λ (entry : Entry). is_below entry.key begins ≡ false) entries → is_below key begins ≡ false
    → option_map (λ entry. entry.key) (first (with_entry entries key value)) ≡ Some begins
first_with [] key value begins e lowest from = absurd (none_some begins e)
first_with (x ∷ xs) key value begins e lowest from = by_order (order begins key)
  where
    by_order : Order begins key → option_map (λ entry. entry.key) (first (with_entry (x ∷ xs) key value)) ≡ Some begins
    by_order (lower less) = let test : is_below x.key key ≡ true = rw (some_key x.key begins e) less in rw test e
    by_order (same is) =
        let none : below (x ∷ xs) key ≡ [] = filter_none (λ (entry : Entry). is_below entry.key key) (x ∷ xs) (subst (λ (k : List ℕ). All (λ (entry : Entry). is_below entry.key k ≡ false) (x ∷ xs)) is lowest) in
        ap (λ (es : List Entry). option_map (λ (entry : Entry). entry.key) (first (es ++ record { key = key; value = value } ∷ above (x ∷ xs) key))) none ∙ ap Some (sym is)
    by_order (higher more) = let both : false ≡ true = sym from ∙ more in absurd cc

module _ (areas : ℕ) (held : Held) (hints : Hints) (truth : Truth) (old new : List Changed) (root : ℕ) (tree : PageTree) (u : Under areas held hints truth old root tree)
    (level : ℕ) (lt : level < tree.height) (node : Node) (i : IsIn node (tree.level level)) (high : List ℕ) (high_is : node.page.high ≡ Some high)
    (handle : ℕ) (page : Contents) (p : IsPlaceOf tree (level + 1) high handle page) (puts : PutsPage old new handle (with_value page high (to_be_bytes w64 node.page.right))) where
  abbrev P : Entry → Type 0
  P = λ (entry : Entry). is_below entry.key (p.node).begins ≡ false

  abbrev entry : Entry
  entry = record { key = high; value = to_be_bytes w64 node.page.right }

  abbrev q : Contents
  q = with_value page high (to_be_bytes w64 node.page.right)

  parent : IsNode (chunks_of areas (with_draft truth old)) (level + 1) p.node
  parent = ((u.is).levels (level + 1) p.within).nodes_are p.node p.there

  inner : IsInterior (tree.level level) p.node
  inner = (u.is).interior level lt p.node p.there

  next : HasNext (tree.level level) node high
  next = subst (λ (ns : List Node). HasNext ns node high) (sym i.parts) (next_of i.before node i.behind high (leads_in i.before node i.behind (rw i.parts at ((u.is).levels level (omega (arith, lt))).chain)) high_is)

  right_fits : node.page.right < 2 ^ 64
  right_fits =
      let n = ((u.is).levels level (omega (arith, lt))).nodes_are next.next next.there in
      subst (λ (h : ℕ). h < 2 ^ 64) (sym next.handle_is) (used_fits areas (with_draft truth old) (next.next).handle n.block u.few n.chunk)

  names_next : NamesChild (tree.level level) entry
  names_next = record { child = next.next; there = next.there; eight = refl; value = from_be_bytes-to_be_bytes_8 node.page.right right_fits ∙ next.handle_is; key = sym next.begins_is }

  lowest : All (λ (entry : Entry). is_below entry.key (p.node).begins ≡ false) page.entries
  lowest = subst (λ (c : Contents). All (λ (entry : Entry). is_below entry.key (p.node).begins ≡ false) c.entries) p.page_is parent.lowest

  names : All (NamesChild (tree.level level)) page.entries
  names = subst (λ (c : Contents). All (NamesChild (tree.level level)) c.entries) p.page_is inner.names

  interior : IsInterior (tree.level level) (with_page p.node (with_value page high (to_be_bytes w64 node.page.right)))
  interior = record {
    first = first_with page.entries high (to_be_bytes w64 node.page.right) (p.node).begins (subst (λ (c : Contents). option_map (λ (entry : Entry). entry.key) (first c.entries) ≡ Some (p.node).begins) p.page_is inner.first) lowest p.from;
    names = All-append (NamesChild (tree.level level)) (below page.entries high) (entry ∷ above page.entries high) (All-filter (λ (e : Entry). is_below e.key high) (NamesChild (tree.level level)) page.entries names)
        (All-cons (NamesChild (tree.level level)) entry (above page.entries high) names_next (All-filter (λ (e : Entry). is_below high e.key) (NamesChild (tree.level level)) page.entries names));
  }

  fits : Fits tree (level + 1) p.node q puts.block
  fits = record {
    has = puts.has;
    same_level = ap (λ (c : Contents). c.level) (sym p.page_is);
    right = ap (λ (c : Contents). c.right) (sym p.page_is);
    high = ap (λ (c : Contents). c.high) (sym p.page_is);
    lowest = All-append P (below page.entries high) (entry ∷ above page.entries high) (All-filter (λ (e : Entry). is_below e.key high) P page.entries lowest)
        (All-cons P entry (above page.entries high) p.from (All-filter (λ (e : Entry). is_below high e.key) P page.entries lowest));
    interior = λ under e. let same : level ≡ under = omega (arith, e) in subst (λ (l : ℕ). IsInterior (tree.level l) (with_page p.node (with_value page high (to_be_bytes w64 node.page.right)))) same interior;
  }

  pub posted : MakesMap areas held hints truth old new root tree (map_of tree)
  posted =
      let j = p.there in
      let here : with_block old (block_at (p.node).handle) puts.block ≡ new = ap (λ (h : ℕ). with_block old (block_at h) puts.block) p.handle_is ∙ sym puts.put in
      subst (λ (d : List Changed). MakesMap areas held hints truth old d root tree (map_of tree)) here
      (rewritten areas held hints truth old root tree u (level + 1) p.within j.before p.node j.behind j.parts q puts.block (puts.header ∙ sym p.handle_is) fits (map_of tree)
      (rw (ne_eqb 0 (level + 1) (λ e. omega (arith, e))) refl))
