-- A level as its right links lead through it, page by page.
use Rattle.std.proofs.Common.{◌≡◌, ℕ, List, [], ◌∷◌, ◌++◌, sym, ap, ◌∙◌, subst, refl, Option, Some, None}
use Rattle.bx_page.specs.Contents.{Contents}
use Rattle.bx_truth.specs.PageTrees.{Chunks, Node, IsIn, IsNode, PagesLead, IsChain}
use Rattle.bx_audit_pages.specs.Pages.{IsPageAt, IsPlaced, LeadsTo, IsLevelFrom}
use Rattle.bx_audit_pages.proofs.OnePage.{one_page_at}

-- the page stands under this handle, at a place where a range begins
pub record StandsHere (chunks : Chunks) (level handle : ℕ) (begins : List ℕ) (node : Node) : Type 0 where
  pub handle_is : node.handle ≡ handle
  pub begins_is : node.begins ≡ begins
  pub at : IsPageAt chunks handle node.page
  pub placed : IsPlaced level begins node.page

-- from a handle and a key on these are the pages of a level
abbrev pub Walks : Chunks → ℕ → ℕ → List ℕ → List Node → Type 0
Walks chunks level handle begins [] = ⊥
Walks chunks level handle begins (node ∷ []) = StandsHere chunks level handle begins node × LeadsTo node.page None
Walks chunks level handle begins (node ∷ next ∷ others) =
    StandsHere chunks level handle begins node × LeadsTo node.page (Some (next.handle, next.begins)) × Walks chunks level next.handle next.begins (next ∷ others)

-- ---- what was read

module _ (chunks : Chunks) (level handle : ℕ) (begins : List ℕ) (page : Contents) (at : IsPageAt chunks handle page) (placed : IsPlaced level begins page) where
  pub last_walks : LeadsTo page None → Walks chunks level handle begins (record { handle = handle; begins = begins; page = page } ∷ [])
  last_walks last = (record { handle_is = refl; begins_is = refl; at = at; placed = placed }, last)

  pub next_walks : (right : ℕ) (high : List ℕ) (rest : List Node) → LeadsTo page (Some (right, high)) → Walks chunks level right high rest
      → Walks chunks level handle begins (record { handle = handle; begins = begins; page = page } ∷ rest)
  next_walks right high [] leads walks = absurd walks
  next_walks right high (y ∷ []) leads walks = (
    record { handle_is = refl; begins_is = refl; at = at; placed = placed },
    (leads.0 ∙ sym walks.0.handle_is, leads.1 ∙ ap Some (sym walks.0.begins_is), λ zero. leads.2 (sym walks.0.handle_is ∙ zero)),
    (record { handle_is = refl; begins_is = refl; at = subst (λ (n : ℕ). IsPageAt chunks n y.page) (sym walks.0.handle_is) walks.0.at; placed = subst (λ (k : List ℕ). IsPlaced level k y.page) (sym walks.0.begins_is) walks.0.placed }, walks.1),
  )
  next_walks right high (y ∷ z ∷ others) leads walks = (
    record { handle_is = refl; begins_is = refl; at = at; placed = placed },
    (leads.0 ∙ sym walks.0.handle_is, leads.1 ∙ ap Some (sym walks.0.begins_is), λ zero. leads.2 (sym walks.0.handle_is ∙ zero)),
    (record { handle_is = refl; begins_is = refl; at = subst (λ (n : ℕ). IsPageAt chunks n y.page) (sym walks.0.handle_is) walks.0.at; placed = subst (λ (k : List ℕ). IsPlaced level k y.page) (sym walks.0.begins_is) walks.0.placed }, walks.1, walks.2),
  )

-- a page doesn't both lead on and end its level
pub leads_one_way : (page : Contents) (next : Option (ℕ × List ℕ)) (x : ℕ × List ℕ) → next ≡ Some x → LeadsTo page next → LeadsTo page None → ⊥
leads_one_way page None x is leads last = absurd cc
leads_one_way page (Some (handle, begins)) x is leads last = let e : None ≡ Some begins = sym last.high ∙ leads.1 in absurd cc

-- ---- what any level has

module _ (chunks : Chunks) (level handle : ℕ) (begins : List ℕ) where
  -- its first page is here, and leads somewhere
  pub first_of : (nodes : List Node) → Walks chunks level handle begins nodes → (page : Contents) × (next : Option (ℕ × List ℕ)) × IsPageAt chunks handle page × IsPlaced level begins page × LeadsTo page next
  first_of [] walks = absurd walks
  first_of (node ∷ []) walks = (node.page, None, walks.0.at, walks.0.placed, walks.1)
  first_of (node ∷ next ∷ others) walks = (node.page, Some (next.handle, next.begins), walks.0.at, walks.0.placed, walks.1)

  some_same : {X : Type 0} (x y : X) → Some x ≡ Some y → x ≡ y
  some_same x y e = cc

  -- where its first page, which is this one, leads on, so do the others
  pub rest_of : (page : Contents) (right : ℕ) (high : List ℕ) (nodes : List Node) → IsPageAt chunks handle page → LeadsTo page (Some (right, high)) → Walks chunks level handle begins nodes
      → (rest : List Node) × Walks chunks level right high rest
  rest_of page right high [] at leads walks = absurd walks
  rest_of page right high (node ∷ []) at leads walks =
      let same : page ≡ node.page = one_page_at chunks handle page node.page at walks.0.at in
      let e : None ≡ Some high = sym walks.1.high ∙ ap (λ (p : Contents). p.high) (sym same) ∙ leads.1 in absurd cc
  rest_of page right high (node ∷ next ∷ others) at leads walks =
      let same : page ≡ node.page = one_page_at chunks handle page node.page at walks.0.at in
      let handles : next.handle ≡ right = sym walks.1.0 ∙ ap (λ (p : Contents). p.right) (sym same) ∙ leads.0 in
      let begin : next.begins ≡ high = some_same next.begins high (sym walks.1.1 ∙ ap (λ (p : Contents). p.high) (sym same) ∙ leads.1) in
      (next ∷ others, subst (λ (n : ℕ). Walks chunks level n high (next ∷ others)) handles (subst (λ (k : List ℕ). Walks chunks level next.handle k (next ∷ others)) begin walks.2))

-- ---- levels are such walks

pub here : (node : Node) (others : List Node) → IsIn node (node ∷ others)
here node others = record { before = []; behind = others; parts = refl }

pub later : (node first : Node) (others : List Node) → IsIn node others → IsIn node (first ∷ others)
later node first others there = record { before = first ∷ there.before; behind = there.behind; parts = λ i. first ∷ there.parts i }

pub in_cons : (P : Node → Type 0) (first : Node) (others : List Node) → P first → ((node : Node) → IsIn node others → P node) → (node : Node) → IsIn node (first ∷ others) → P node
in_cons P first others here_is all node there = by there.before there.parts
  where
    by : (before : List Node) → first ∷ others ≡ before ++ node ∷ there.behind → P node
    by [] parts = let same : first ≡ node = cc in subst P same here_is
    by (x ∷ before) parts = let rest : others ≡ before ++ node ∷ there.behind = cc in all node record { before = before; behind = there.behind; parts = rest }

module _ (chunks : Chunks) (none : chunks 0 ≡ None) (level : ℕ) where
  is_node : (handle : ℕ) (begins : List ℕ) (node : Node) → StandsHere chunks level handle begins node → IsNode chunks level node
  is_node handle begins node is = record {
    block = is.at.block;
    chunk = ap chunks is.handle_is ∙ is.at.chunk;
    has = is.at.has;
    same_level = is.placed.same_level;
    lowest = (subst (λ (k : List ℕ). IsPlaced level k node.page) (sym is.begins_is) is.placed).lowest;
    highest = (subst (λ (k : List ℕ). IsPlaced level k node.page) (sym is.begins_is) is.placed).highest;
  }

  all_nodes : (handle : ℕ) (begins : List ℕ) (nodes : List Node) → Walks chunks level handle begins nodes → (node : Node) → IsIn node nodes → IsNode chunks level node
  all_nodes handle begins [] walks = absurd walks
  all_nodes handle begins (x ∷ []) walks = in_cons (IsNode chunks level) x [] (is_node handle begins x walks.0) (λ node there. nothing node there.behind there.before there.parts)
    where
      nothing : (node : Node) (behind before : List Node) → [] ≡ before ++ node ∷ behind → IsNode chunks level node
      nothing node behind [] parts = absurd cc
      nothing node behind (y ∷ before) parts = absurd cc
  all_nodes handle begins (x ∷ y ∷ others) walks = in_cons (IsNode chunks level) x (y ∷ others) (is_node handle begins x walks.0) (all_nodes y.handle y.begins (y ∷ others) walks.2)

  leads : (handle : ℕ) (begins : List ℕ) (x : Node) (others : List Node) → Walks chunks level handle begins (x ∷ others) → PagesLead x others
  leads handle begins x [] walks = walks.1
  leads handle begins x (y ∷ others) walks = (record { right = walks.1.0; high = walks.1.1 }, leads y.handle y.begins y others walks.2)

  pub level_of_walk : (first : ℕ) (nodes : List Node) → Walks chunks level first [] nodes → IsLevelFrom chunks level first nodes
  level_of_walk first [] walks = absurd walks
  level_of_walk first (x ∷ others) walks = record {
    is = record { nodes_are = all_nodes first [] (x ∷ others) walks; chain = ((here_of others walks).begins_is, leads first [] x others walks) };
    head = x;
    others = others;
    parts = refl;
    first_is = (here_of others walks).handle_is;
  }
    where
      here_of : (others : List Node) → Walks chunks level first [] (x ∷ others) → StandsHere chunks level first [] x
      here_of [] walks = walks.0
      here_of (y ∷ others) walks = walks.0

  stands : (x : Node) → IsNode chunks level x → StandsHere chunks level x.handle x.begins x
  stands x is = record {
    handle_is = refl;
    begins_is = refl;
    at = record { block = is.block; chunk = is.chunk; has = is.has };
    placed = record { same_level = is.same_level; lowest = is.lowest; highest = is.highest };
  }

  walk_from : (x : Node) (others : List Node) → ((node : Node) → IsIn node (x ∷ others) → IsNode chunks level node) → PagesLead x others → Walks chunks level x.handle x.begins (x ∷ others)
  walk_from x [] all last = (stands x (all x (here x [])), last)
  walk_from x (y ∷ others) all next =
      (stands x (all x (here x (y ∷ others))), (next.0.right, next.0.high, named), walk_from y others (λ node there. all node (later node x (y ∷ others) there)) next.1)
    where
      named : y.handle ≡ 0 → ⊥
      named zero =
          let is = all y (later y x (y ∷ others) (here y others)) in
          let e : None ≡ Some is.block = sym none ∙ ap chunks (sym zero) ∙ is.chunk in absurd cc

  pub walk_of_level : (first : ℕ) (nodes : List Node) → IsLevelFrom chunks level first nodes → Walks chunks level first [] nodes
  walk_of_level first nodes is =
      let all : (node : Node) → IsIn node (is.head ∷ is.others) → IsNode chunks level node = subst (λ (l : List Node). (node : Node) → IsIn node l → IsNode chunks level node) is.parts is.is.nodes_are in
      let chain : IsChain (is.head ∷ is.others) = subst IsChain is.parts is.is.chain in
      let walks = walk_from is.head is.others all chain.1 in
      subst (Walks chunks level first []) (sym is.parts)
      (subst (λ (n : ℕ). Walks chunks level n [] (is.head ∷ is.others)) is.first_is
      (subst (λ (k : List ℕ). Walks chunks level is.head.handle k (is.head ∷ is.others)) chain.0 walks))
