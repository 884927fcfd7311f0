-- A key's page and the map.
use Rattle.std.proofs.Common.{◌≡◌, ℕ, List, [], ◌∷◌, ◌++◌, refl, ap, ◌∙◌}
use Rattle.std.specs.List.{AllByRecursion}
use Rattle.bx_page.specs.declared.entry.Entry.{Entry}
use Rattle.bx_page.specs.Contents.{Contents, value_of}
use Rattle.bx_truth.specs.PageTrees.{Chunks, Node, IsIn, IsNode, PageTree, IsTree, entries_of, map_of}
use Rattle.bx_blink.specs.Places.{IsPlaceOf}
use Rattle.bx_blink.proofs.Entries.{Surrounds, value_within}
use Rattle.bx_blink.proofs.Chains.{IsRange, surrounds, entries_at}

in_more : {X : Type 0} (x y : X) (xs : List X) → IsIn x xs → IsIn x (y ∷ xs)
in_more {X = X} x y xs i = record { before = y ∷ i.before; behind = i.behind; parts = ap (λ (zs : List X). y ∷ zs) i.parts }

pub range_of : (chunks : Chunks) (level : ℕ) (node : Node) → IsNode chunks level node → IsRange node
range_of chunks level node n = record { lowest = n.lowest; highest = n.highest; below = ((n.has).spells.is).below }

pub ranges_of : (nodes : List Node) → ((node : Node) → IsIn node nodes → IsRange node) → AllByRecursion IsRange nodes
ranges_of [] h = tt
ranges_of (node ∷ nodes) h = (h node (record { before = []; behind = nodes; parts = refl }), ranges_of nodes (λ n i. h n (in_more n node nodes i)))

-- the entries of a level are those of a key's page, with lesser ones before them and greater ones behind
pub record Within (nodes : List Node) (key : List ℕ) (page : Contents) (before behind : List Node) : Type 0 where
  pub front : List Entry
  pub back : List Entry
  pub front_is : front ≡ entries_of before
  pub back_is : back ≡ entries_of behind
  pub parts : entries_of nodes ≡ front ++ (page.entries ++ back)
  pub around : Surrounds key front back

pub within : (chunks : Chunks) (root : ℕ) (tree : PageTree) (level : ℕ) (key : List ℕ) (handle : ℕ) (page : Contents) → IsTree chunks root tree → (p : IsPlaceOf tree level key handle page) → Within (tree.level level) key page (p.there).before (p.there).behind
within chunks root tree level key handle page is p =
    let l = is.levels level p.within in
    let i = p.there in
    let ranges = rw i.parts at (ranges_of (tree.level level) (λ n there. range_of chunks level n (l.nodes_are n there))) in
    record {
      front = entries_of i.before;
      back = entries_of i.behind;
      front_is = refl;
      back_is = refl;
      parts = ap entries_of i.parts ∙ entries_at i.before p.node i.behind ∙ ap (λ (c : Contents). entries_of i.before ++ (c.entries ++ entries_of i.behind)) p.page_is;
      around = surrounds key i.before p.node i.behind (rw i.parts at l.chain) ranges (record { from = p.from; to = p.to });
    }

pub value_here : (chunks : Chunks) (root : ℕ) (tree : PageTree) (key : List ℕ) (handle : ℕ) (page : Contents) → IsTree chunks root tree → IsPlaceOf tree 0 key handle page → value_of (map_of tree) key ≡ value_of page.entries key
value_here chunks root tree key handle page is p =
    let w = within chunks root tree 0 key handle page is p in
    ap (λ (es : List Entry). value_of es key) w.parts ∙ value_within key w.front page.entries w.back w.around
