-- Chunks hold one tree under a root.
use Rattle.std.proofs.Common.{◌≡◌, ℕ, zero, suc, ◌+◌, ◌-◌, ◌<◌, arith, List, [], ◌∷◌, ◌++◌, length, sym, ap, ◌∙◌, subst, refl, Option, Some, None}
use Rattle.std.specs.Prelude.{All, IfSome}
use Rattle.std.specs.Option.{option_map}
use Rattle.std.specs.Int.{w64, from_be_bytes}
use Rattle.bx_views.specs.bx_layout.specs.declared.block.Block.{Block}
use Rattle.bx_page.specs.declared.entry.Entry.{Entry}
use Rattle.bx_page.specs.Keys.{IsBelow}
use Rattle.bx_page.specs.Contents.{Contents, first}
use Rattle.bx_page.specs.Spelling.{Spells}
use Rattle.bx_page.proofs.Whole.{one_page}
use Rattle.std.proofs.lemmas.List.{length-append}
use Rattle.bx_truth.specs.PageTrees.{Chunks, Node, IsIn, IsNode, PagesLead, IsChain, IsLevel, NamesChild, IsInterior, PageTree, IsTree, IsPageOf, entries_of, map_of}

some_same : {X : Type 0} (x y : X) → Some x ≡ Some y → x ≡ y
some_same x y e = cc

here : (node : Node) (others : List Node) → IsIn node (node ∷ others)
here node others = record { before = []; behind = others; parts = refl }

later : (node first : Node) (others : List Node) → IsIn node others → IsIn node (first ∷ others)
later node first others there = record { before = first ∷ there.before; behind = there.behind; parts = λ i. first ∷ there.parts i }

-- ---- a page

module _ (chunks : Chunks) where
  one_page_of : (level other : ℕ) (a b : Node) → IsNode chunks level a → IsNode chunks other b → a.handle ≡ b.handle → a.page ≡ b.page
  one_page_of level other a b is_a is_b same =
      let blocks : is_a.block ≡ is_b.block = some_same is_a.block is_b.block (sym is_a.chunk ∙ ap chunks same ∙ is_b.chunk) in
      one_page a.page b.page is_a.block.payload is_a.has.spells (subst (λ (x : Block). Spells b.page x.payload) (sym blocks) is_b.has.spells)

  one_node : (level : ℕ) (a b : Node) → IsNode chunks level a → IsNode chunks level b → a.handle ≡ b.handle → a.begins ≡ b.begins → a ≡ b
  one_node level a b is_a is_b handles begins = let pages = one_page_of level level a b is_a is_b handles in λ i. record { handle = handles i; begins = begins i; page = pages i }

  -- ---- a level

  none_some : (o : Option (List ℕ)) (x : List ℕ) → o ≡ None → o ≡ Some x → ⊥
  none_some o x none some = let e : None ≡ Some x = sym none ∙ some in absurd cc

  one_rest : (level : ℕ) (a b : Node) (xs ys : List Node) → a ≡ b → ((n : Node) → IsIn n (a ∷ xs) → IsNode chunks level n) → ((n : Node) → IsIn n (b ∷ ys) → IsNode chunks level n) → PagesLead a xs → PagesLead b ys → xs ≡ ys
  one_rest level a b [] [] same all_a all_b leads_a leads_b = refl
  one_rest level a b [] (y ∷ ys) same all_a all_b last next = absurd (none_some a.page.high y.begins last.high (ap (λ (n : Node). n.page.high) same ∙ next.0.high))
  one_rest level a b (x ∷ xs) [] same all_a all_b next last = absurd (none_some a.page.high x.begins (ap (λ (n : Node). n.page.high) same ∙ last.high) next.0.high)
  one_rest level a b (x ∷ xs) (y ∷ ys) same all_a all_b next_a next_b =
      let handles : x.handle ≡ y.handle = sym next_a.0.right ∙ ap (λ (n : Node). n.page.right) same ∙ next_b.0.right in
      let begins : x.begins ≡ y.begins = some_same x.begins y.begins (sym next_a.0.high ∙ ap (λ (n : Node). n.page.high) same ∙ next_b.0.high) in
      let first = one_node level x y (all_a x (later x a (x ∷ xs) (here x xs))) (all_b y (later y b (y ∷ ys) (here y ys))) handles begins in
      let rest = one_rest level x y xs ys first (λ n there. all_a n (later n a (x ∷ xs) there)) (λ n there. all_b n (later n b (y ∷ ys) there)) next_a.1 next_b.1 in
      λ i. first i ∷ rest i

  -- the first page of a level
  head_of : (xs : List Node) → IsChain xs → (x : Node) × (others : List Node) × (xs ≡ x ∷ others) × (x.begins ≡ []) × PagesLead x others
  head_of [] chain = absurd chain
  head_of (x ∷ xs) chain = (x, xs, refl, chain.0, chain.1)

  one_level : (level : ℕ) (xs ys : List Node) → IsLevel chunks level xs → IsLevel chunks level ys
      → ((x y : Node) (others more : List Node) → xs ≡ x ∷ others → ys ≡ y ∷ more → x.handle ≡ y.handle) → xs ≡ ys
  one_level level xs ys is_x is_y firsts = by (head_of xs is_x.chain) (head_of ys is_y.chain)
    where
      by : ((x : Node) × (others : List Node) × (xs ≡ x ∷ others) × (x.begins ≡ []) × PagesLead x others) → ((y : Node) × (more : List Node) × (ys ≡ y ∷ more) × (y.begins ≡ []) × PagesLead y more) → xs ≡ ys
      by (x, others, e, empty_x, leads_x) (y, more, f, empty_y, leads_y) =
          let all_x : (n : Node) → IsIn n (x ∷ others) → IsNode chunks level n = subst (λ (l : List Node). (n : Node) → IsIn n l → IsNode chunks level n) e is_x.nodes_are in
          let all_y : (n : Node) → IsIn n (y ∷ more) → IsNode chunks level n = subst (λ (l : List Node). (n : Node) → IsIn n l → IsNode chunks level n) f is_y.nodes_are in
          let first = one_node level x y (all_x x (here x others)) (all_y y (here y more)) (firsts x y others more e f) (empty_x ∙ sym empty_y) in
          let rest = one_rest level x y others more first all_x all_y leads_x leads_y in
          e ∙ (λ i. first i ∷ rest i) ∙ sym f

  -- ---- the level below

  not_below_empty : (key : List ℕ) → IsBelow key [] → ⊥
  not_below_empty [] is = absurd cc
  not_below_empty (x ∷ key) is = absurd cc

  -- a page whose range begins at the empty key is the first
  first_only : (level : ℕ) (a c : Node) (xs before behind : List Node) → ((n : Node) → IsIn n (a ∷ xs) → IsNode chunks level n) → PagesLead a xs
      → a ∷ xs ≡ before ++ c ∷ behind → c.begins ≡ [] → c ≡ a
  first_only level a c xs [] behind all leads parts empty = let same : a ≡ c = cc in sym same
  first_only level a c [] (x ∷ before) behind all leads parts empty = absurd (omega (arith, ap length parts, length-append before (c ∷ behind)))
  first_only level a c (y ∷ xs) (x ∷ before) behind all leads parts empty =
      let rest : y ∷ xs ≡ before ++ c ∷ behind = cc in
      let next = first_only level y c xs before behind (λ n there. all n (later n a (y ∷ xs) there)) leads.1 rest empty in
      let above : IfSome a.page.high (IsBelow a.begins) = (all a (here a (y ∷ xs))).highest in
      let below : IsBelow a.begins y.begins = subst (λ (o : Option (List ℕ)). IfSome o (IsBelow a.begins)) leads.0.high above in
      absurd (not_below_empty a.begins (subst (IsBelow a.begins) (ap (λ (n : Node). n.begins) (sym next) ∙ empty) below))

  entry_of : (entries : List Entry) (key : List ℕ) → option_map (λ (e : Entry). e.key) (first entries) ≡ Some key → (e : Entry) × (es : List Entry) × (entries ≡ e ∷ es)
  entry_of [] key is = absurd cc
  entry_of (e ∷ es) key is = (e, es, refl)

  -- the first child of a page whose range begins at the empty key is the first page of the level below
  first_child : (level : ℕ) (children : List Node) (x : Node) (others : List Node) (p : Node) (e : Entry) (es : List Entry) → IsLevel chunks level children → children ≡ x ∷ others
      → IsInterior children p → p.begins ≡ [] → p.page.entries ≡ e ∷ es → from_be_bytes w64 e.value ≡ x.handle
  first_child level children x others p e es is parts interior empty entries =
      let name : NamesChild children e = (subst (All (NamesChild children)) entries interior.names) 0 e (omega arith) in
      let key : e.key ≡ p.begins = some_same e.key p.begins (sym (ap (λ (l : List Entry). option_map (λ (y : Entry). y.key) (first l)) entries) ∙ interior.first) in
      let all : (n : Node) → IsIn n (x ∷ others) → IsNode chunks level n = subst (λ (l : List Node). (n : Node) → IsIn n l → IsNode chunks level n) parts is.nodes_are in
      let leads : PagesLead x others = (subst IsChain parts is.chain).1 in
      let same = first_only level x name.child others name.there.before name.there.behind all leads (sym parts ∙ name.there.parts) (sym name.key ∙ key ∙ empty) in
      name.value ∙ ap (λ (n : Node). n.handle) same

  module _ (root : ℕ) (a b : PageTree) (is_a : IsTree chunks root a) (is_b : IsTree chunks root b) where
    top_is : (t : PageTree) (is : IsTree chunks root t) → IsNode chunks t.height is.top
    top_is t is = (is.levels t.height (omega arith)).nodes_are is.top (subst (IsIn is.top) (sym is.root_alone) (here is.top []))

    top_begins : (t : PageTree) (is : IsTree chunks root t) → is.top.begins ≡ []
    top_begins t is = (subst IsChain is.root_alone (is.levels t.height (omega arith)).chain).0

    same_page : is_a.top.page ≡ is_b.top.page
    same_page = one_page_of a.height b.height is_a.top is_b.top (top_is a is_a) (top_is b is_b) (is_a.root_is ∙ sym is_b.root_is)

    pub same_height : a.height ≡ b.height
    same_height = sym (top_is a is_a).same_level ∙ ap (λ (p : Contents). p.level) same_page ∙ (top_is b is_b).same_level

    same_top : is_a.top ≡ is_b.top
    same_top = λ i. record { handle = (is_a.root_is ∙ sym is_b.root_is) i; begins = (top_begins a is_a ∙ sym (top_begins b is_b)) i; page = same_page i }

    below_same : (level : ℕ) → level < a.height → level < b.height → a.level (level + 1) ≡ b.level (level + 1) → a.level level ≡ b.level level
    below_same level less_a less_b above =
        one_level level (a.level level) (b.level level) (is_a.levels level (omega (arith, less_a))) (is_b.levels level (omega (arith, less_b)))
        (λ x y others more e f. by x y others more e f (head_of (a.level (level + 1)) (is_a.levels (level + 1) (omega (arith, less_a))).chain))
      where
        by : (x y : Node) (others more : List Node) → a.level level ≡ x ∷ others → b.level level ≡ y ∷ more
            → ((p : Node) × (rest : List Node) × (a.level (level + 1) ≡ p ∷ rest) × (p.begins ≡ []) × PagesLead p rest) → x.handle ≡ y.handle
        by x y others more e f (p, rest, parts, empty, leads) =
            let in_a : IsInterior (a.level level) p = is_a.interior level less_a p (subst (IsIn p) (sym parts) (here p rest)) in
            let in_b : IsInterior (b.level level) p = is_b.interior level less_b p (subst (IsIn p) (sym parts ∙ above) (here p rest)) in
            let entry = entry_of p.page.entries p.begins in_a.first in
            sym (first_child level (a.level level) x others p entry.0 entry.1 (is_a.levels level (omega (arith, less_a))) e in_a empty entry.2)
            ∙ first_child level (b.level level) y more p entry.0 entry.1 (is_b.levels level (omega (arith, less_b))) f in_b empty entry.2

    pub same_levels : (d level : ℕ) → d + level ≡ a.height → a.level level ≡ b.level level
    same_levels zero level is =
        let at_a : level ≡ a.height = omega (arith, is) in
        ap a.level at_a ∙ is_a.root_alone ∙ (λ i. same_top i ∷ []) ∙ sym is_b.root_alone ∙ ap b.level (sym same_height ∙ sym at_a)
    same_levels (suc d) level is =
        below_same level (omega (arith, is)) (omega (arith, is, same_height)) (same_levels d (level + 1) (omega (arith, is)))

pub one_map : (chunks : Chunks) (root : ℕ) (a b : PageTree) → IsTree chunks root a → IsTree chunks root b → map_of a ≡ map_of b
one_map chunks root a b is_a is_b = ap entries_of (same_levels chunks root a b is_a is_b a.height 0 (omega arith))

pub same_pages : (chunks : Chunks) (root : ℕ) (a b : PageTree) (node : Node) → IsTree chunks root a → IsTree chunks root b → IsPageOf a node → IsPageOf b node
same_pages chunks root a b node is_a is_b page = record {
  level = page.level;
  within = omega (arith, page.within, same_height chunks root a b is_a is_b);
  there = subst (IsIn node) (same_levels chunks root a b is_a is_b (a.height - page.level) page.level (omega (arith, page.within))) page.there;
}
