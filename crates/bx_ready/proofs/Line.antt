-- The pages that lead from a root to a page, in a tree: each is on the level below the one before, and begins at or below the key.
use Rattle.std.proofs.Common.{◌≡◌, ℕ, zero, suc, ◌+◌, ◌-◌, ◌<◌, ◌≤◌, true, false, List, [], Option, Some, None, refl, sym, ap, subst, ◌∙◌, arith, inl, inr}
use Rattle.std.specs.Prelude.{◌⊎◌, IfSome}
use Rattle.std.proofs.lemmas.Bool.{cases_lt}
use Rattle.bx_base.specs.declared.names.Mode.TheVariants.{Shared}
use Rattle.bx_blink.specs.Hints.{Under, Agrees}
use Rattle.bx_blink.specs.Places.{IsPlaceOf}
use Rattle.bx_blink.specs.Walks.{passes, child_of, reads_with}
use Rattle.bx_blink.proofs.Handles.{alone, child_handle, kept, not_below_empty, passed}
use Rattle.bx_blink.proofs.Keys.{le_lt, le_le, lt_not}
use Rattle.bx_blink.proofs.Last.{last_up_to}
use Rattle.bx_blink.proofs.Under.{agrees}
use Rattle.bx_layout.specs.declared.block.Block.{Block}
use Rattle.bx_page.specs.declared.entry.Entry.{Entry}
use Rattle.bx_page.specs.Contents.{Contents, last, up_to}
use Rattle.bx_page.specs.Keys.{is_below, IsBelow}
use Rattle.bx_page.proofs.Whole.{one_page}
use Rattle.bx_posts.specs.bx_splits.proofs.Height.{few_levels}
use Rattle.bx_truth.specs.Chunks.{block_at, chunks_of}
use Rattle.bx_truth.specs.PageTrees.{Chunks, HasPage, IsIn, IsLast, IsNode, NamesChild, Node, PageTree}
use Rattle.bx_views.specs.Truths.{Truth, Held, Hints, with_draft}
use Rattle.bx_ready.specs.Descents.{HoldsStrange, HoldsPage, LeadsTo, LeadsWhere, Names, Stays, begins, down}
use Rattle.bx_ready.specs.declared.descents.Descent.TheVariants.{Lost, Short, Arrives}
use Rattle.bx_ready.specs.Separators.{HasSeparators, IsNamed, LacksSeparator, LeadsStraight}
use Rattle.bx_ready.proofs.Greatest.{between}

-- the page one level above in whose range a key is, and its entry that names a page for the key
pub record NamedBy (tree : PageTree) (level : ℕ) (key : List ℕ) (node : Node) : Type 0 where
  pub parent : Node
  pub there : IsIn parent (tree.level (level + 1))
  pub within : level + 1 ≤ tree.height
  pub from : is_below key parent.begins ≡ false
  pub to : IfSome parent.page.high (IsBelow key)
  pub entry : Entry
  pub last_is : last (up_to parent.page.entries key) ≡ Some entry
  pub key_is : entry.key ≡ node.begins
  pub low : is_below entry.key parent.begins ≡ false
  pub names : child_of parent.page key ≡ node.handle

-- where a descent is
pub record IsOnLine (tree : PageTree) (key : List ℕ) (depth handle : ℕ) : Type 0 where
  pub level : ℕ
  pub sum : depth + level ≡ tree.height
  pub node : Node
  pub there : IsIn node (tree.level level)
  pub handle_is : node.handle ≡ handle
  pub from : is_below key node.begins ≡ false
  pub named : level < tree.height → NamedBy tree level key node
  pub straight : (l : ℕ) → level < l → l < tree.height → LeadsStraight tree l key

-- what is kept of entries on the way down
record IsChild (children : List Node) (begins : List ℕ) (entry : Entry) : Type 0 where
  pub names : NamesChild children entry
  pub from : is_below entry.key begins ≡ false

record HasChild (tree : PageTree) (key : List ℕ) (under : ℕ) (node : Node) : Type 0 where
  pub child : Node
  pub there : IsIn child (tree.level under)
  pub entry : Entry
  pub last_is : last (up_to node.page.entries key) ≡ Some entry
  pub key_is : entry.key ≡ child.begins
  pub up_to_key : is_below key entry.key ≡ false
  pub low : is_below entry.key node.begins ≡ false
  pub named : child_of node.page key ≡ child.handle

module _ (areas : ℕ) (held : Held) (hints : Hints) (truth : Truth) (root : ℕ) (tree : PageTree) (key : List ℕ) (u : Under areas held hints truth [] root tree) where
  abbrev chunks : Chunks
  chunks = chunks_of areas (with_draft truth [])

  a : Agrees areas (reads_with held hints []) (chunks_of areas (with_draft truth [])) root tree
  a = agrees areas held hints truth [] root tree u

  module _ (level : ℕ) (within : level ≤ tree.height) (node : Node) (there : IsIn node (tree.level level)) (handle : ℕ) (at : node.handle ≡ handle) where
    n : IsNode (chunks_of areas (with_draft truth [])) level node
    n = ((u.is).levels level within).nodes_are node there

    same_block : (block : Block) → held (block_at handle) Shared ≡ Some block → block ≡ n.block
    same_block block e = (a.sees).same handle Shared block n.block e (ap chunks (sym at) ∙ n.chunk)

    same_contents : (contents : Contents) → HoldsPage held handle contents → contents ≡ node.page
    same_contents contents s = one_page contents node.page (n.block).payload (subst (λ (b : Block). HasPage contents b) (same_block s.block s.there) s.has).spells (n.has).spells

    no_other : HoldsStrange held handle → ⊥
    no_other s = elim s.other [
      | inl differs ↦ differs (ap (λ (b : Block). b.handle) (same_block s.block s.there) ∙ (a.sees).header handle n.block (ap chunks (sym at) ∙ n.chunk))
      | inr none ↦ none node.page (subst (λ (b : Block). HasPage node.page b) (sym (same_block s.block s.there)) n.has)
    ]

  within_of : (depth handle : ℕ) (o : IsOnLine tree key depth handle) → o.level ≤ tree.height
  within_of depth handle o = let s = o.sum in omega (arith, s)

  contents_of : (depth handle : ℕ) (o : IsOnLine tree key depth handle) (page : Contents) → HoldsPage held handle page → page ≡ o.node.page
  contents_of depth handle o page h = same_contents o.level (within_of depth handle o) o.node o.there handle o.handle_is page h

  place_of : (depth handle : ℕ) (o : IsOnLine tree key depth handle) (page : Contents) → Stays held handle key page → IsPlaceOf tree o.level key handle page
  place_of depth handle o page s =
      let same = contents_of depth handle o page s.holds in
      record {
        node = o.node;
        within = within_of depth handle o;
        there = o.there;
        handle_is = o.handle_is;
        page_is = sym same;
        from = o.from;
        to = kept o.node.page key (subst (λ (p : Contents). passes p key ≡ false) same s.stays);
      }

  named_of : (depth handle : ℕ) (o : IsOnLine tree key depth handle) → o.level < tree.height → IsNamed tree o.level key handle
  named_of depth handle o lt = let b = o.named lt in record {
    parent = b.parent.handle;
    page = b.parent.page;
    above = record { node = b.parent; within = b.within; there = b.there; handle_is = refl; page_is = refl; from = b.from; to = b.to };
    names = b.names ∙ o.handle_is;
  }

  straight_from : (depth handle : ℕ) (o : IsOnLine tree key depth handle) (page : Contents) → Stays held handle key page → (l : ℕ) → o.level ≤ l → l < tree.height → LeadsStraight tree l key
  straight_from depth handle o page s l le lt = by_level (cases_lt o.level l)
    where
      by_level : (o.level < l) ⊎ (l ≤ o.level) → LeadsStraight tree l key
      by_level (inl more) = o.straight l more lt
      by_level (inr less) =
          let same : o.level ≡ l = omega (arith, le, less) in
          subst (λ (k : ℕ). LeadsStraight tree k key) same
          (record { handle = handle; page = page; named = named_of depth handle o (omega (arith, lt, same)); place = place_of depth handle o page s })

  first : IsOnLine tree key 0 root
  first =
      let chain = rw (u.is).root_alone at ((u.is).levels tree.height (omega arith)).chain in
      record {
        level = tree.height;
        sum = omega arith;
        node = (u.is).top;
        there = subst (λ (ns : List Node). IsIn (u.is).top ns) (sym (u.is).root_alone) (record { before = []; behind = []; parts = refl });
        handle_is = (u.is).root_is;
        from = subst (λ (k : List ℕ). is_below key k ≡ false) (sym chain.0) (not_below_empty key);
        named = λ lt. absurd (omega (arith, lt));
        straight = λ l more lt. absurd (omega (arith, more, lt));
      }

  -- the page that one above the leaves names for the key
  child_in : (under : ℕ) (within : under + 1 ≤ tree.height) (node : Node) (there : IsIn node (tree.level (under + 1))) → is_below key node.begins ≡ false → HasChild tree key under node
  child_in under within node there from =
      let nd = ((u.is).levels (under + 1) within).nodes_are node there in
      let inner = (u.is).interior under (omega (arith, within)) node there in
      let found = last_up_to (IsChild (tree.level under) node.begins) key node.begins node.page.entries (λ k d lt. record { names = inner.names k d lt; from = nd.lowest k d lt }) inner.first from in
      let names = (found.has).names in
      record {
        child = names.child;
        there = names.there;
        entry = found.entry;
        last_is = found.is;
        key_is = names.key;
        up_to_key = found.up_to_key;
        low = (found.has).from;
        named = child_handle node.page key found.entry names.child.handle found.is names.eight names.value;
      }

  -- it is on the line
  child_on : (under depth handle next : ℕ) (o : IsOnLine tree key depth handle) → o.level ≡ under + 1 → (m : Names held handle key next) → HasChild tree key under o.node → IsOnLine tree key (suc depth) next
  child_on under depth handle next o up m c =
      let same : m.page ≡ o.node.page = contents_of depth handle o m.page (m.here).holds in
      let named : child_of m.page key ≡ c.child.handle = ap (λ (p : Contents). child_of p key) same ∙ c.named in
      record {
        level = under;
        sum = let s = o.sum in omega (arith, s, up);
        node = c.child;
        there = c.there;
        handle_is = sym (m.next_is ∙ named);
        from = subst (λ (k : List ℕ). is_below key k ≡ false) c.key_is c.up_to_key;
        named = λ lt. record {
          parent = o.node;
          there = subst (λ (l : ℕ). IsIn o.node (tree.level l)) up o.there;
          within = let w = within_of depth handle o in omega (arith, w, up);
          from = o.from;
          to = kept o.node.page key (subst (λ (p : Contents). passes p key ≡ false) same (m.here).stays);
          entry = c.entry;
          last_is = c.last_is;
          key_is = c.key_is;
          low = c.low;
          names = c.named;
        };
        straight = λ l more lt. straight_from depth handle o m.page m.here l (omega (arith, more, up)) lt;
      }

  next_of : (depth handle next : ℕ) → IsOnLine tree key depth handle → Names held handle key next → IsOnLine tree key (suc depth) next
  next_of depth handle next o m =
      let same : m.page ≡ o.node.page = contents_of depth handle o m.page (m.here).holds in
      let above = positive o m same in
      let up : o.level ≡ (o.level - 1) + 1 = omega (arith, above) in
      let within = within_of depth handle o in
      child_on (o.level - 1) depth handle next o up m (child_in (o.level - 1) (omega (arith, within, above)) o.node (subst (λ (l : ℕ). IsIn o.node (tree.level l)) up o.there) o.from)
    where
      positive : (o : IsOnLine tree key depth handle) (m : Names held handle key next) → m.page ≡ o.node.page → 0 < o.level
      positive o m same =
          let nd = ((u.is).levels o.level (within_of depth handle o)).nodes_are o.node o.there in
          let up = m.above in
          let l : m.page.level ≡ o.level = ap (λ (p : Contents). p.level) same ∙ nd.same_level in
          omega (arith, up, l)

  pub line : (depth handle : ℕ) → LeadsTo held root key depth handle → IsOnLine tree key depth handle
  line zero handle begins = first
  line (suc n) after (down depth handle next leads m) = next_of depth handle next (line depth handle leads) m

  -- what is answered, by the tree
  pub not_lost : LeadsWhere held root key Lost ⊎ ((handle : ℕ) × LeadsTo held root key 61441 handle) → ⊥
  not_lost (inl w) = let o = line w.depth w.handle w.leads in no_other o.level (within_of w.depth w.handle o) o.node o.there w.handle o.handle_is w.stops
  not_lost (inr far) =
      let o = line 61441 far.0 far.1 in
      let most = few_levels areas u.few (with_draft truth []) root tree u.is in
      let s = o.sum in
      absurd (omega (arith, most, s))

  pub all_posted : LeadsWhere held root key Arrives → HasSeparators tree key
  all_posted w = λ level lt.
      let o = line w.depth w.handle w.leads in
      let e = w.stops in
      let same = contents_of w.depth w.handle o e.page (e.here).holds in
      let nd = ((u.is).levels o.level (within_of w.depth w.handle o)).nodes_are o.node o.there in
      let low : o.level ≡ 0 = sym nd.same_level ∙ sym (ap (λ (p : Contents). p.level) same) ∙ e.leaf in
      straight_from w.depth w.handle o e.page e.here level (omega (arith, low)) lt

  -- where a page is short, its right neighbour's separator is missing
  with_high : (page : Contents) → passes page key ≡ true → (high : List ℕ) × (page.high ≡ Some high)
  with_high page p = by_high page.high refl
    where
      by_high : (o : Option (List ℕ)) → page.high ≡ o → (high : List ℕ) × (page.high ≡ Some high)
      by_high None e = let both : false ≡ true = rw e at p in absurd cc
      by_high (Some high) e = (high, e)

  below_top : (level : ℕ) → level ≤ tree.height → (node : Node) → IsIn node (tree.level level) → (high : List ℕ) → node.page.high ≡ Some high → level < tree.height
  below_top level within node there high e = by_level (cases_lt level tree.height)
    where
      by_level : (level < tree.height) ⊎ (tree.height ≤ level) → level < tree.height
      by_level (inl lt) = lt
      by_level (inr ge) =
          let same : level ≡ tree.height = omega (arith, within, ge) in
          let at_top : node ≡ (u.is).top = alone node (u.is).top (subst (λ (ns : List Node). IsIn node ns) (ap tree.level same ∙ (u.is).root_alone) there) in
          let last : IsLast (u.is).top.page = ((rw (u.is).root_alone at ((u.is).levels tree.height (omega arith))).chain).1 in
          let both : Some high ≡ None = sym e ∙ ap (λ (x : Node). x.page.high) at_top ∙ last.high in
          absurd cc

  above_high : (high : List ℕ) (o : Option (List ℕ)) → is_below key high ≡ false → IfSome o (IsBelow key) → IfSome o (IsBelow high)
  above_high high None le to = tt
  above_high high (Some top) le to = le_lt high key top le to

  lacks_at : (level : ℕ) (within : level ≤ tree.height) (node : Node) (there : IsIn node (tree.level level)) (high : List ℕ) → node.page.high ≡ Some high → is_below key high ≡ false → (level < tree.height → NamedBy tree level key node) → LacksSeparator tree key node
  lacks_at level within node there high high_is le by =
      let lt = below_top level within node there high high_is in
      let b = by lt in
      let nd = ((u.is).levels level within).nodes_are node there in
      let pn = ((u.is).levels (level + 1) b.within).nodes_are b.parent b.there in
      let above : IsBelow node.begins high = rw high_is at nd.highest in
      let begins_low : is_below node.begins b.parent.begins ≡ false = subst (λ (k : List ℕ). is_below k b.parent.begins ≡ false) b.key_is b.low in
      record {
        level = level;
        below = lt;
        there = there;
        named = record { parent = b.parent.handle; page = b.parent.page; above = record { node = b.parent; within = b.within; there = b.there; handle_is = refl; page_is = refl; from = b.from; to = b.to }; names = b.names };
        high = high;
        high_is = high_is;
        passed = le;
        home = record {
          node = b.parent;
          within = b.within;
          there = b.there;
          handle_is = refl;
          page_is = refl;
          from = le_le b.parent.begins node.begins high begins_low (lt_not node.begins high above);
          to = above_high high b.parent.page.high le b.to;
        };
        absent = between b.parent.page.entries key high b.entry ((pn.has).spells.is).rises b.last_is le (subst (λ (k : List ℕ). IsBelow k high) (sym b.key_is) above);
      }

  -- the page where a descent stops short
  pub record IsShortOf (page : ℕ) : Type 0 where
    pub node : Node
    pub level : ℕ
    pub within : level ≤ tree.height
    pub there : IsIn node (tree.level level)
    pub handle_is : node.handle ≡ page
    pub lacks : LacksSeparator tree key node

  pub short : (page : ℕ) → LeadsWhere held root key (Short page) → IsShortOf page
  short page w =
      let o = line w.depth w.handle w.leads in
      let f = (w.stops).1 in
      let same : f.page ≡ o.node.page = contents_of w.depth w.handle o f.page f.holds in
      let passes_it : passes o.node.page key ≡ true = subst (λ (p : Contents). passes p key ≡ true) same f.passed in
      let h = with_high o.node.page passes_it in
      record {
        node = o.node;
        level = o.level;
        within = within_of w.depth w.handle o;
        there = o.there;
        handle_is = o.handle_is ∙ sym (w.stops).0;
        lacks = lacks_at o.level (within_of w.depth w.handle o) o.node o.there h.0 h.1 (passed o.node.page key h.0 h.1 passes_it) o.named;
      }
