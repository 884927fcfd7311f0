-- From a level down to the one below it, and from the root to the leaves.
use Rattle.std.proofs.Common.{◌≡◌, ℕ, zero, suc, ◌+◌, ◌-◌, ◌<◌, ◌≤◌, arith, List, [], ◌∷◌, length, get_or, refl, sym, ap, ◌∙◌, subst, Some, None, Option}
use Rattle.std.specs.Prelude.{All}
use Rattle.std.specs.Option.{option_map}
use Rattle.std.specs.Int.{w64, from_be_bytes}
use Rattle.bx_page.specs.declared.entry.Entry.{Entry}
use Rattle.bx_page.specs.Contents.{Contents, first}
use Rattle.bx_truth.specs.PageTrees.{Chunks, Node, IsIn, IsNode, IsChain, IsLevel, NamesChild, IsInterior, PageTree, IsTree}
use Rattle.bx_audit_pages.specs.Pages.{IsPageAt, IsPlaced, LeadsTo, IsLevelFrom}
use Rattle.bx_audit_pages.specs.Trees.{NamesFirst, IsTop, LiesBelow, tree_of}
use Rattle.bx_audit_pages.proofs.NodeLists.{one_beginning, level_rises}
use Rattle.bx_audit_pages.proofs.OnePage.{one_page_at}
use Rattle.bx_audit_pages.proofs.Walk.{Walks, StandsHere, here, walk_of_level}

some_same : {X : Type 0} (x y : X) → Some x ≡ Some y → x ≡ y
some_same x y e = cc

none_some : {X : Type 0} (o : Option X) (x : X) → o ≡ None → o ≡ Some x → ⊥
none_some o x none some = let e : None ≡ Some x = sym none ∙ some in absurd cc

-- ---- the first child

head_of : (xs : List Node) → IsChain xs → (x : Node) × (others : List Node) × (xs ≡ x ∷ others) × (x.begins ≡ [])
head_of [] chain = absurd chain
head_of (x ∷ xs) chain = (x, xs, refl, chain.0)

entry_of : (entries : List Entry) (key : List ℕ) → option_map (λ (e : Entry). e.key) (first entries) ≡ Some key → (e : Entry) × (es : List Entry) × (entries ≡ e ∷ es) × (e.key ≡ key)
entry_of [] key is = absurd cc
entry_of (e ∷ es) key is = (e, es, refl, some_same e.key key is)

module _ (chunks : Chunks) (level : ℕ) (above nodes : List Node) (is_above : IsLevel chunks (level + 1) above) (lies : LiesBelow chunks level above nodes) where
  -- the first entry of the first page above
  pub names_first : (handle : ℕ) × NamesFirst above handle
  names_first =
      let h = head_of above is_above.chain in
      let interior = lies.interior h.0 (subst (IsIn h.0) (sym h.2) (here h.0 h.1)) in
      let e = entry_of h.0.page.entries h.0.begins interior.first in
      let named : NamesChild nodes e.0 = (subst (All (NamesChild nodes)) e.2 interior.names) 0 e.0 (omega arith) in
      (from_be_bytes w64 e.0.value, record { head = h.0; rest = h.1; parts = h.2; first = record { entry = e.0; others = e.1; parts = e.2; eight = named.eight; handle_is = refl } })

  pub level_first : (handle : ℕ) → NamesFirst above handle → IsLevelFrom chunks level handle nodes
  level_first handle names =
      let interior = lies.interior names.head (subst (IsIn names.head) (sym names.parts) (here names.head names.rest)) in
      let empty : names.head.begins ≡ [] = (subst IsChain names.parts is_above.chain).0 in
      let named : NamesChild nodes names.first.entry = (subst (All (NamesChild nodes)) names.first.parts interior.names) 0 names.first.entry (omega arith) in
      let key : names.first.entry.key ≡ names.head.begins = some_same names.first.entry.key names.head.begins (sym (ap (λ (l : List Entry). option_map (λ (y : Entry). y.key) (first l)) names.first.parts) ∙ interior.first) in
      let h = head_of nodes lies.is.chain in
      let same : named.child ≡ h.0 = one_beginning nodes named.child h.0 (level_rises chunks level nodes lies.is) named.there (subst (IsIn h.0) (sym h.2) (here h.0 h.1)) (sym named.key ∙ key ∙ empty ∙ sym h.3) in
      record {
        is = lies.is;
        head = h.0;
        others = h.1;
        parts = h.2;
        first_is = ap (λ (n : Node). n.handle) (sym same) ∙ sym named.value ∙ names.first.handle_is;
      }

-- ---- one level

module _ (chunks : Chunks) (level : ℕ) where
  same_node : (handle : ℕ) (begins : List ℕ) (x y : Node) → StandsHere chunks level handle begins x → StandsHere chunks level handle begins y → x ≡ y
  same_node handle begins x y is_x is_y =
      let pages = one_page_at chunks handle x.page y.page is_x.at is_y.at in
      let handles = is_x.handle_is ∙ sym is_y.handle_is in
      let keys = is_x.begins_is ∙ sym is_y.begins_is in
      λ i. record { handle = handles i; begins = keys i; page = pages i }

  one_walk : (handle : ℕ) (begins : List ℕ) (xs ys : List Node) → Walks chunks level handle begins xs → Walks chunks level handle begins ys → xs ≡ ys
  one_walk handle begins [] ys a b = absurd a
  one_walk handle begins (x ∷ xs) [] a b = absurd b
  one_walk handle begins (x ∷ []) (y ∷ []) a b = let same = same_node handle begins x y a.0 b.0 in λ i. same i ∷ []
  one_walk handle begins (x ∷ []) (y ∷ z ∷ ys) a b =
      let same = same_node handle begins x y a.0 b.0 in
      absurd (none_some x.page.high z.begins a.1.high (ap (λ (n : Node). n.page.high) same ∙ b.1.1))
  one_walk handle begins (x ∷ z ∷ xs) (y ∷ []) a b =
      let same = same_node handle begins x y a.0 b.0 in
      absurd (none_some x.page.high z.begins (ap (λ (n : Node). n.page.high) same ∙ b.1.high) a.1.1)
  one_walk handle begins (x ∷ w ∷ xs) (y ∷ z ∷ ys) a b =
      let same = same_node handle begins x y a.0 b.0 in
      let handles : z.handle ≡ w.handle = sym b.1.0 ∙ ap (λ (n : Node). n.page.right) (sym same) ∙ a.1.0 in
      let keys : z.begins ≡ w.begins = some_same z.begins w.begins (sym b.1.1 ∙ ap (λ (n : Node). n.page.high) (sym same) ∙ a.1.1) in
      let rest = one_walk w.handle w.begins (w ∷ xs) (z ∷ ys) a.2 (subst (λ (n : ℕ). Walks chunks level n w.begins (z ∷ ys)) handles (subst (λ (k : List ℕ). Walks chunks level z.handle k (z ∷ ys)) keys b.2)) in
      λ i. same i ∷ rest i

  pub one_level_from : chunks 0 ≡ None → (handle : ℕ) (xs ys : List Node) → IsLevelFrom chunks level handle xs → IsLevelFrom chunks level handle ys → xs ≡ ys
  one_level_from none handle xs ys a b = one_walk handle [] xs ys (walk_of_level chunks none level handle xs a) (walk_of_level chunks none level handle ys b)

-- ---- the root

module _ (chunks : Chunks) (root : ℕ) where
  top_node : (tree : PageTree) (is : IsTree chunks root tree) → IsNode chunks tree.height is.top
  top_node tree is = (is.levels tree.height (omega arith)).nodes_are is.top (subst (IsIn is.top) (sym is.root_alone) (here is.top []))

  top_begins : (tree : PageTree) (is : IsTree chunks root tree) → is.top.begins ≡ []
  top_begins tree is = (subst IsChain is.root_alone (is.levels tree.height (omega arith)).chain).0

  top_last : (tree : PageTree) (is : IsTree chunks root tree) → LeadsTo is.top.page None
  top_last tree is = (subst IsChain is.root_alone (is.levels tree.height (omega arith)).chain).1

  -- the page under a tree's root
  pub root_page_at : (tree : PageTree) → (is : IsTree chunks root tree) → IsPageAt chunks root is.top.page
  root_page_at tree is = let n = top_node tree is in record { block = n.block; chunk = ap chunks (sym is.root_is) ∙ n.chunk; has = n.has }

  -- where a tree's root is this page, the page is the only one of its level
  pub root_placed : (page : Contents) (tree : PageTree) → IsTree chunks root tree → IsPageAt chunks root page → IsPlaced page.level [] page × LeadsTo page None
  root_placed page tree is at =
      let node = top_node tree is in
      let same : is.top.page ≡ page = one_page_at chunks root is.top.page page (root_page_at tree is) at in
      let placed : IsPlaced is.top.page.level [] is.top.page = subst (λ (k : List ℕ). IsPlaced is.top.page.level k is.top.page) (top_begins tree is) record { same_level = refl; lowest = node.lowest; highest = node.highest } in
      (subst (λ (p : Contents). IsPlaced p.level [] p) same placed, subst (λ (p : Contents). LeadsTo p None) same (top_last tree is))

  -- the root is alone in its level, in every tree
  pub one_top : (level : ℕ) (nodes : List Node) (tree : PageTree) → IsTop chunks root level nodes → IsTree chunks root tree → (level ≤ tree.height) × (tree.level level ≡ nodes)
  one_top level nodes tree top is =
      let a = top.is.nodes_are top.node (subst (IsIn top.node) (sym top.alone) (here top.node [])) in
      let at : IsPageAt chunks root top.node.page = record { block = a.block; chunk = ap chunks (sym top.root_is) ∙ a.chunk; has = a.has } in
      let pages : is.top.page ≡ top.node.page = one_page_at chunks root is.top.page top.node.page (root_page_at tree is) at in
      let levels : tree.height ≡ level = sym (top_node tree is).same_level ∙ ap (λ (p : Contents). p.level) pages ∙ a.same_level in
      let empty : top.node.begins ≡ [] = (subst IsChain top.alone top.is.chain).0 in
      let handles = is.root_is ∙ sym top.root_is in
      let keys = top_begins tree is ∙ sym empty in
      (omega (arith, levels), ap tree.level (sym levels) ∙ is.root_alone ∙ (λ i. record { handle = handles i; begins = keys i; page = pages i } ∷ []) ∙ sym top.alone)

  -- ---- levels upon one another, the lowest first

  abbrev pub Stack : ℕ → List (List Node) → Type 0
  Stack level [] = ⊥
  Stack level (nodes ∷ []) = IsTop chunks root level nodes
  Stack level (nodes ∷ above ∷ others) = LiesBelow chunks level above nodes × Stack (suc level) (above ∷ others)

  stack_level : (level : ℕ) (levels : List (List Node)) → Stack level levels → (n : ℕ) → n < length levels → IsLevel chunks (level + n) (get_or levels n [])
  stack_level level [] stack n less = absurd stack
  stack_level level (x ∷ []) stack zero less = subst (λ (k : ℕ). IsLevel chunks k x) (omega arith) stack.is
  stack_level level (x ∷ []) stack (suc n) less = absurd (omega (arith, less))
  stack_level level (x ∷ y ∷ others) stack zero less = subst (λ (k : ℕ). IsLevel chunks k x) (omega arith) stack.0.is
  stack_level level (x ∷ y ∷ others) stack (suc n) less =
      subst (λ (k : ℕ). IsLevel chunks k (get_or (y ∷ others) n [])) (omega arith) (stack_level (suc level) (y ∷ others) stack.1 n (omega (arith, less)))

  stack_interior : (level : ℕ) (levels : List (List Node)) → Stack level levels → (n : ℕ) → suc n < length levels → (node : Node) → IsIn node (get_or levels (suc n) []) → IsInterior (get_or levels n []) node
  stack_interior level [] stack n less node there = absurd stack
  stack_interior level (x ∷ []) stack n less node there = absurd (omega (arith, less))
  stack_interior level (x ∷ y ∷ others) stack zero less node there = stack.0.interior node there
  stack_interior level (x ∷ y ∷ others) stack (suc n) less node there = stack_interior (suc level) (y ∷ others) stack.1 n (omega (arith, less)) node there

  stack_top : (level : ℕ) (levels : List (List Node)) (n : ℕ) → suc n ≡ length levels → Stack level levels → (node : Node) × (get_or levels n [] ≡ node ∷ []) × (node.handle ≡ root)
  stack_top level [] n last stack = absurd stack
  stack_top level (x ∷ []) zero last stack = (stack.node, stack.alone, stack.root_is)
  stack_top level (x ∷ []) (suc n) last stack = absurd (omega (arith, last))
  stack_top level (x ∷ y ∷ others) zero last stack = absurd (omega (arith, last))
  stack_top level (x ∷ y ∷ others) (suc n) last stack = stack_top (suc level) (y ∷ others) n (omega (arith, last)) stack.1

  -- the lowest is a level
  pub lowest_level : (level : ℕ) (nodes : List Node) (others : List (List Node)) → Stack level (nodes ∷ others) → IsLevel chunks level nodes
  lowest_level level nodes [] stack = stack.is
  lowest_level level nodes (above ∷ others) stack = stack.0.is

  zero_more : (n : ℕ) → 0 + n ≡ n
  zero_more n = omega arith

  one_more : (n : ℕ) → n + 1 ≡ suc n
  one_more n = omega arith

  some_levels : (level : ℕ) (levels : List (List Node)) → Stack level levels → 0 < length levels
  some_levels level [] stack = absurd stack
  some_levels level (x ∷ others) stack = omega arith

  pub tree_is : (levels : List (List Node)) → Stack 0 levels → IsTree chunks root (tree_of levels)
  tree_is levels stack =
      let some = some_levels 0 levels stack in
      let top = stack_top 0 levels (length levels - 1) (omega (arith, some)) stack in
      record {
        levels = λ level le. subst (λ (k : ℕ). IsLevel chunks k (get_or levels level [])) (zero_more level) (stack_level 0 levels stack level (omega (arith, le, some)));
        interior = λ level less node there. stack_interior 0 levels stack level (omega (arith, less, some)) node (subst (λ (k : ℕ). IsIn node (get_or levels k [])) (one_more level) there);
        top = top.0;
        root_alone = top.1;
        root_is = top.2;
      }

  -- what lies below a level of a tree is its next one
  pub lies_below : (tree : PageTree) (level : ℕ) (above : List Node) → IsTree chunks root tree → level < tree.height → tree.level (level + 1) ≡ above → LiesBelow chunks level above (tree.level level)
  lies_below tree level above is less same = record {
    is = is.levels level (omega (arith, less));
    interior = λ node there. is.interior level less node (subst (IsIn node) (sym same) there);
  }
