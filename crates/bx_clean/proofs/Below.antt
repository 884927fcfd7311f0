-- Below a root with one entry: the child takes the root's place, loses an entry, or takes its neighbour's place.
use Rattle.std.proofs.Common.{◌≡◌, ℕ, ◌+◌, ◌-◌, ◌<◌, ◌≤◌, arith, Bool, true, false, List, [], ◌∷◌, ◌++◌, get_or, length, Option, Some, None, Result, Ok, Err, refl, sym, ap, subst, ◌∙◌}
use Rattle.std.specs.Prelude.{◌≢◌, if◌then◌else◌, All, IfSome, slice_get}
use Rattle.std.specs.Int.{w64, from_be_bytes}
use Rattle.std.specs.Option.{option_map}
use Rattle.std.proofs.lemmas.List.Elements.{All-append, All-cons, All-filter}
use Rattle.bx_chunks.specs.declared.error.ChunkError.{ChunkError}
use Rattle.bx_chunks.specs.declared.error.ChunkError.TheVariants.{OutOfMemory, Stale}
use Rattle.bx_layout.specs.declared.block.Block.{Block}
use Rattle.bx_leaves.proofs.Members.{in_head, in_tail}
use Rattle.bx_page.specs.declared.entry.Entry.{Entry}
use Rattle.bx_page.specs.Contents.{Contents, above, below, first as first_of_list, size, with_value, without_key}
use Rattle.bx_page.specs.Keys.{is_below, IsBelow}
use Rattle.bx_page.proofs.Cuts.{filter_none}
use Rattle.bx_records.specs.Drafts.{Changed}
use Rattle.bx_truth.specs.Chunks.{chunks_of}
use Rattle.bx_truth.specs.PageTrees.{HasPage, IsIn, IsInterior, IsLevel, IsNode, NamesChild, Node, PageTree, handle_in}
use Rattle.bx_truth.proofs.Cases.{eq_true}
use Rattle.bx_views.specs.Truths.{Truth, Held, Hints, with_draft}
use Rattle.bx_blink.specs.Hints.{Under}
use Rattle.bx_clean.specs.Shrinking.{HasOneChild, MayReplace}
use Rattle.bx_clean.proofs.Absorbed.{absorbed, kept_of}
use Rattle.bx_clean.proofs.Levels.{first_of, levels_apart, none_below}
use Rattle.bx_clean.proofs.Lowered.{lowered, tree_lowered}
use Rattle.bx_leaves.proofs.Exchanged.{apart_behind}
use Rattle.bx_leaves.proofs.Replaced.{with_level}
use Rattle.bx_clean.specs.Held.{HoldsPage, PageAt}
use Rattle.bx_clean.specs.Pages.{AbsorbsNext, LedBy, fails, inner, leaf, lead_empty, lead_high, lead_long, lead_memory, lead_none, leads, led_by, stops}
use Rattle.bx_clean.specs.Puts.{PutsAndFrees}
use Rattle.bx_clean.specs.Trees.{ShrinksBelow, absorbs, cuts_child, lowers}
use Rattle.bx_clean.proofs.Cuts.{NamesPieces, StepIn, cut_in, shrinks}
use Rattle.bx_clean.proofs.Fallen.{gone_falls}
use Rattle.bx_clean.proofs.Firsts.{first_has}
use Rattle.bx_clean.proofs.Freed.{PutFreedIn, put_freed}
use Rattle.bx_clean.proofs.Found.{IsWant, page_err, page_is}
use Rattle.bx_clean.proofs.Sizes.{led_fits}
use Rattle.bx_clean.proofs.Stripped.{inner as inner_of, top_begins, top_chunk, top_node}

-- a list of at most one member, which is this
alone : (es : List Entry) (e : Entry) → length es ≤ 1 → slice_get es 0 ≡ Some e → es ≡ e ∷ []
alone [] e short is = absurd cc
alone (x ∷ []) e short is = let same : x ≡ e = cc in ap (λ (y : Entry). y ∷ []) same
alone (x ∷ y ∷ ys) e short is = absurd (omega (arith, short))

-- what is above another key is above the empty one
empty_below : (a b : List ℕ) → IsBelow a b → IsBelow [] b
empty_below a [] less = let e : false ≡ true = sym (none_below a) ∙ less in absurd cc
empty_below a (x ∷ xs) less = refl

pub none_first : (es : List Entry) (key : List ℕ) → option_map (λ (e : Entry). e.key) (first_of_list es) ≡ Some key → slice_get es 0 ≡ None → ⊥
none_first es key some none =
    let e : ◌≡◌ {A = Option (List ℕ)} None (Some key) = ap (option_map (λ (e : Entry). e.key)) (sym none) ∙ some in absurd cc

first_key : (es : List Entry) (e : Entry) (key : List ℕ) → option_map (λ (x : Entry). x.key) (first_of_list es) ≡ Some key → slice_get es 0 ≡ Some e → e.key ≡ key
first_key es e key some is = let x : Some e.key ≡ Some key = ap (option_map (λ (x : Entry). x.key)) (sym is) ∙ some in cc

err_ok : (error : ChunkError) (page : Contents) → ◌≡◌ {A = Result Contents ChunkError} (Err error) (Ok page) → ⊥
err_ok error page e = absurd cc

ok_err : (page : Contents) (error : ChunkError) → ◌≡◌ {A = Result Contents ChunkError} (Ok page) (Err error) → ⊥
ok_err page error e = absurd cc

ok_same : (a b : Contents) → ◌≡◌ {A = Result Contents ChunkError} (Ok a) (Ok b) → a ≡ b
ok_same a b e = cc

want_of : (a b : ChunkError) → ◌≡◌ {A = Result Contents ChunkError} (Err a) (Err b) → IsWant b → IsWant a
want_of a b e want = let same : a ≡ b = cc in subst IsWant (sym same) want

module _ (areas : ℕ) (held : Held) (hints : Hints) (truth : Truth) (root : ℕ) (tree : PageTree) (u : Under areas held hints truth [] root tree) (pieces : NamesPieces areas held hints truth root tree)
    (under : ℕ) (height : tree.height ≡ under + 1) (first : Entry) (short : length u.is.top.page.entries ≤ 1) (is : slice_get u.is.top.page.entries 0 ≡ Some first) where
  within : under ≤ tree.height
  within = omega (arith, height)

  named : NamesChild (tree.level under) first
  named = first_has (NamesChild (tree.level under)) u.is.top.page.entries first (inner_of areas held hints truth root tree u under height).names (sym is)

  names : handle_in first.value ≡ named.child.handle
  names = ap (λ (t : Bool). if t then from_be_bytes w64 first.value else 0) (eq_true (length first.value) 8 named.eight) ∙ named.value

  begins : named.child.begins ≡ []
  begins = sym named.key ∙ first_key u.is.top.page.entries first u.is.top.begins (inner_of areas held hints truth root tree u under height).first is ∙ top_begins areas held hints truth root tree u

  -- once the level below is known
  module _ (x : Node) (rest : List Node) (parts : tree.level under ≡ x ∷ rest) where
    level : IsLevel (chunks_of areas truth) under (x ∷ rest)
    level = rw parts at (u.is.levels under within)

    x_node : IsNode (chunks_of areas truth) under x
    x_node = level.nodes_are x (in_head x rest)

    child_is : named.child ≡ x
    child_is = first_of (chunks_of areas truth) under x rest named.child level (subst (λ (ns : List Node). IsIn named.child ns) parts named.there) begins

    child_handle : handle_in first.value ≡ x.handle
    child_handle = names ∙ ap (λ (n : Node). n.handle) child_is

    one : HasOneChild tree under u.is.top x rest
    one = record {
      height = height;
      top_is = u.is.root_alone;
      entry = first;
      entries = alone u.is.top.page.entries first short is;
      level = parts;
      names = child_handle;
    }

    root_apart : root ≢ x.handle
    root_apart e = levels_apart (chunks_of areas truth) tree.height under u.is.top x (top_node areas held hints truth root tree u) x_node (λ q. absurd (omega (arith, q, height))) (u.is.root_is ∙ e)

    x_inner : (below : ℕ) → under ≡ below + 1 → IsInterior (tree.level below) x
    x_inner below e = u.is.interior below (omega (arith, e, height)) x (subst (λ (ns : List Node). IsIn x ns) (sym (ap tree.level (sym e) ∙ parts)) (in_head x rest))

  -- a child that is alone
  module _ (x : Node) (parts : tree.level under ≡ x ∷ []) where
    lower_done : (result : Result (List Changed) ChunkError) → PutFreedIn areas held truth u.few u.same root x.page x.handle result → StepIn areas held hints truth root tree result
    lower_done (Err error) want = want
    lower_done (Ok new) f = (
      shrinks (tree_lowered tree under root x) (lowered areas truth (with_draft truth new) root tree under u.is.top x f.puts.block u.is (one x [] parts) f.puts.has f.chunks f.slots),
      gone_falls areas truth (with_draft truth new) root x.handle f.puts.block (top_node areas held hints truth root tree u).block (x_node x [] parts).block (top_chunk areas held hints truth root tree u) (x_node x [] parts).chunk f.chunks,
    )

    last : x.page.right ≡ 0
    last = ((level x [] parts).chain).1.right

    pub alone_in : (result : Result (List Changed) ChunkError) → ShrinksBelow held areas root x.handle x.page result → StepIn areas held hints truth root tree result
    alone_in result (lowers right p) = lower_done result
        (put_freed areas held truth u.few u.same root x.page x.handle (top_node areas held hints truth root tree u).block (x_node x [] parts).block u.chunked (top_chunk areas held hints truth root tree u)
        (x_node x [] parts).chunk (root_apart x [] parts) result p)
    alone_in result (cuts_child right l some p) = absurd (right last)
    alone_in result (absorbs right l p) = absurd (right last)

  -- a child with a neighbour
  module _ (x y : Node) (ys : List Node) (parts : tree.level under ≡ x ∷ y ∷ ys) where
    y_node : IsNode (chunks_of areas truth) under y
    y_node = (level x (y ∷ ys) parts).nodes_are y (in_tail y x (y ∷ ys) (in_head y ys))

    right : x.page.right ≡ y.handle
    right = ((level x (y ∷ ys) parts).chain).1.0.right

    y_in : IsIn y (tree.level under)
    y_in = subst (λ (ns : List Node). IsIn y ns) (sym parts) (in_tail y x (y ∷ ys) (in_head y ys))

    y_some : y.handle ≢ 0
    y_some = (u.hints.agree.names y.handle (record { level = under; begins = y.begins }) (u.hints.agree.placed under y (omega (arith, height)) y_in)).some

    y_inner : (below : ℕ) → under ≡ below + 1 → IsInterior (tree.level below) y
    y_inner below e = u.is.interior below (omega (arith, e, height)) y (subst (λ (l : ℕ). IsIn y (tree.level l)) e y_in)

    apart : x.handle ≢ y.handle
    apart e = apart_behind (chunks_of areas truth) under [] x (y ∷ ys) (level x (y ∷ ys) parts) y (in_head y ys) (sym e)

    -- the page that is put in the place of both
    absorb_done : (page : Contents) → ((block : Block) → HasPage page block → MayReplace tree under x y page block) → (result : Result (List Changed) ChunkError)
        → PutFreedIn areas held truth u.few u.same x.handle page y.handle result → StepIn areas held hints truth root tree result
    absorb_done page may (Err error) want = want
    absorb_done page may (Ok new) f = (
      shrinks (with_level tree under (kept_of x page ∷ ys))
          (absorbed areas truth (with_draft truth new) root tree under u.is.top x y ys page f.puts.block u.is (one x (y ∷ ys) parts) (may f.puts.block f.puts.has) f.chunks f.slots),
      gone_falls areas truth (with_draft truth new) x.handle y.handle f.puts.block (x_node x (y ∷ ys) parts).block y_node.block (x_node x (y ∷ ys) parts).chunk y_node.chunk f.chunks,
    )

    put_in : (page : Contents) → ((block : Block) → HasPage page block → MayReplace tree under x y page block) → (result : Result (List Changed) ChunkError)
        → PutsAndFrees held areas x.handle page x.page.right result → StepIn areas held hints truth root tree result
    put_in page may result p = absorb_done page may result
        (put_freed areas held truth u.few u.same x.handle page y.handle (x_node x (y ∷ ys) parts).block y_node.block u.chunked (x_node x (y ∷ ys) parts).chunk y_node.chunk apart result
        (subst (λ (h : ℕ). PutsAndFrees held areas x.handle page h result) right p))

    next_is : (next : Contents) → HoldsPage held areas x.page.right next → next ≡ y.page
    next_is next h = page_is areas held truth y.handle y_node.block u.same u.chunked y_node.chunk y.page next y_node.has (subst (λ (n : ℕ). HoldsPage held areas n next) right h)

    above_leaves : 0 < x.page.level → (below : ℕ) × (under ≡ below + 1)
    above_leaves more = let l = (x_node x (y ∷ ys) parts).same_level in (under - 1, omega (arith, more, l))

    may_leaf : x.page.level ≡ 0 → x.page.entries ≡ [] → (block : Block) → HasPage y.page block → MayReplace tree under x y y.page block
    may_leaf l none block has =
        let xl = (x_node x (y ∷ ys) parts).same_level in
        record {
          has = has;
          level = y_node.same_level ∙ sym xl;
          right = refl;
          high = refl;
          leaf = λ e. (none, refl);
          interior = λ below e. absurd (omega (arith, e, l, xl));
        }

    module _ (below_level : ℕ) (e : under ≡ below_level + 1) (own lead : Entry) (own_is : slice_get y.page.entries 0 ≡ Some own) (lead_is : slice_get x.page.entries 0 ≡ Some lead) where
      lead_key : lead.key ≡ []
      lead_key = first_key x.page.entries lead x.begins (x_inner x (y ∷ ys) parts below_level e).first lead_is ∙ ((level x (y ∷ ys) parts).chain).0

      eight_of : (es : List Entry) (n : Entry) → All (NamesChild (tree.level below_level)) es → slice_get es 0 ≡ Some n → length n.value ≡ 8
      eight_of es n all at = (first_has (NamesChild (tree.level below_level)) es n all (sym at)).eight

      fits_in : size (led_by y.page own lead) ≤ 4096
      fits_in =
          let less = led_fits y.page own lead.key lead.value own_is (eight_of y.page.entries own (y_inner below_level e).names own_is) (ap length lead_key)
          (eight_of x.page.entries lead (x_inner x (y ∷ ys) parts below_level e).names lead_is) in
          let room = y_node.has.spells.is.room in
          omega (arith, less, room)

      below_high : IfSome y.page.high (IsBelow lead.key)
      below_high = rw lead_key (by y.page.high y_node.highest)
        where
          by : (o : Option (List ℕ)) → IfSome o (IsBelow y.begins) → IfSome o (IsBelow [])
          by None less = tt
          by (Some high) less = empty_below y.begins high less

      abbrev kept_entries : List Entry
      kept_entries = below y.page.entries own.key ++ above y.page.entries own.key

      names_all : All (NamesChild (tree.level below_level)) (with_value (without_key y.page own.key) lead.key lead.value).entries
      names_all =
          let P : Entry → Type 0 = NamesChild (tree.level below_level) in
          let inn = (y_inner below_level e).names in
          let left : All (NamesChild (tree.level below_level)) (below y.page.entries own.key ++ above y.page.entries own.key) =
          All-append (NamesChild (tree.level below_level)) (below y.page.entries own.key) (above y.page.entries own.key)
          (All-filter (λ (n : Entry). is_below n.key own.key) (NamesChild (tree.level below_level)) y.page.entries inn)
          (All-filter (λ (n : Entry). is_below own.key n.key) (NamesChild (tree.level below_level)) y.page.entries inn) in
          All-append (NamesChild (tree.level below_level)) (below kept_entries lead.key) (lead ∷ above kept_entries lead.key)
          (All-filter (λ (n : Entry). is_below n.key lead.key) (NamesChild (tree.level below_level)) kept_entries left)
          (All-cons (NamesChild (tree.level below_level)) lead (above kept_entries lead.key)
          (first_has (NamesChild (tree.level below_level)) x.page.entries lead (x_inner x (y ∷ ys) parts below_level e).names (sym lead_is))
          (All-filter (λ (n : Entry). is_below lead.key n.key) (NamesChild (tree.level below_level)) kept_entries left))

      none_less : below kept_entries lead.key ≡ []
      none_less = filter_none (λ (n : Entry). is_below n.key lead.key) kept_entries (λ k d less. rw lead_key (none_below (get_or kept_entries k d).key))

      leads_first : option_map (λ (n : Entry). n.key) (first_of_list (with_value (without_key y.page own.key) lead.key lead.value).entries) ≡ Some x.begins
      leads_first =
          ap (λ (es : List Entry). option_map (λ (n : Entry). n.key) (first_of_list (es ++ lead ∷ above kept_entries lead.key))) none_less
          ∙ ap (λ (k : List ℕ). Some k) (first_key x.page.entries lead x.begins (x_inner x (y ∷ ys) parts below_level e).first lead_is)

      may_inner : (block : Block) → HasPage (led_by y.page own lead) block → MayReplace tree under x y (led_by y.page own lead) block
      may_inner block has = record {
        has = has;
        level = y_node.same_level ∙ sym (x_node x (y ∷ ys) parts).same_level;
        right = refl;
        high = refl;
        leaf = λ zero. absurd (omega (arith, zero, e));
        interior = λ below at.
            let same : below ≡ below_level = omega (arith, at, e) in
            subst (λ (l : ℕ). IsInterior (tree.level l) (kept_of x (led_by y.page own lead))) (sym same) (record { first = leads_first; names = names_all });
      }

    led_err : (below : ℕ) → under ≡ below + 1 → (error : ChunkError) → LedBy y.page x.page (Err error) → IsWant error
    led_err below e error (lead_memory q) = want_of error OutOfMemory q tt
    led_err below e error (lead_empty none q) = absurd (none_first y.page.entries y.begins (y_inner below e).first none)
    led_err below e error (lead_none none q) = absurd (none_first x.page.entries x.begins (x_inner x (y ∷ ys) parts below e).first none)
    led_err below e error (lead_high own lead own_is lead_is not q) = absurd (not (below_high below e own lead own_is lead_is))
    led_err below e error (lead_long own lead own_is lead_is long q) = let f = fits_in below e own lead own_is lead_is in absurd (omega (arith, long, f))
    led_err below e error (leads own lead own_is lead_is q) = absurd (err_ok error (led_by y.page own lead) q)

    inner_in : (below : ℕ) → under ≡ below + 1 → (led : Contents) (result : Result (List Changed) ChunkError) → LedBy y.page x.page (Ok led) → PutsAndFrees held areas x.handle led x.page.right result → StepIn areas held hints truth root tree result
    inner_in below e led result (lead_memory q) p = absurd (ok_err led OutOfMemory q)
    inner_in below e led result (lead_empty none q) p = absurd (ok_err led Stale q)
    inner_in below e led result (lead_none none q) p = absurd (ok_err led Stale q)
    inner_in below e led result (lead_high own lead own_is lead_is not q) p = absurd (ok_err led Stale q)
    inner_in below e led result (lead_long own lead own_is lead_is long q) p = absurd (ok_err led Stale q)
    inner_in below e led result (leads own lead own_is lead_is q) p =
        put_in (led_by y.page own lead) (may_inner below e own lead own_is lead_is) result (subst (λ (c : Contents). PutsAndFrees held areas x.handle c x.page.right result) (ok_same led (led_by y.page own lead) q) p)

    absorb_in : (x.page.level ≡ 0 → x.page.entries ≡ []) → (result : Result (List Changed) ChunkError) → AbsorbsNext held areas x.handle x.page result → StepIn areas held hints truth root tree result
    absorb_in none result (stops error f q) =
        subst (StepIn areas held hints truth root tree) (sym q)
        (page_err areas held truth y.handle y_node.block u.same u.chunked y_node.chunk y.page y_node.has error (subst (λ (n : ℕ). PageAt held areas n (Err error)) right f))
    absorb_in none result (leaf next h l p) =
        put_in y.page (may_leaf l (none l)) result (subst (λ (c : Contents). PutsAndFrees held areas x.handle c x.page.right result) (next_is next h) p)
    absorb_in none result (fails next error h more f q) =
        let b = above_leaves more in
        subst (StepIn areas held hints truth root tree) (sym q) (led_err b.0 b.1 error (subst (λ (c : Contents). LedBy c x.page (Err error)) (next_is next h) f))
    absorb_in none result (inner next led h more f p) =
        let b = above_leaves more in
        inner_in b.0 b.1 led result (subst (λ (c : Contents). LedBy c x.page (Ok led)) (next_is next h) f) p

    pub beside_in : (result : Result (List Changed) ChunkError) → ShrinksBelow held areas root x.handle x.page result → StepIn areas held hints truth root tree result
    beside_in result (lowers zero p) = absurd (y_some (sym right ∙ zero))
    beside_in result (cuts_child some l entries p) =
        let xl = (x_node x (y ∷ ys) parts).same_level in
        cut_in areas held hints truth root tree u pieces x
        (subst (λ (n : ℕ). IsIn x (tree.level n)) (omega (arith, xl, l)) (subst (λ (ns : List Node). IsIn x ns) (sym parts) (in_head x (y ∷ ys)))) entries result p
    beside_in result (absorbs some none p) = absorb_in none result p

  below_at : (nodes : List Node) (parts : tree.level under ≡ nodes) → (below : Contents) (result : Result (List Changed) ChunkError) → HoldsPage held areas (handle_in first.value) below
      → ShrinksBelow held areas root (handle_in first.value) below result → StepIn areas held hints truth root tree result
  below_at [] parts below result h s = absurd ((rw parts at (u.is.levels under within)).chain)
  below_at (x ∷ rest) parts below result h s = by rest parts (subst (λ (n : ℕ). ShrinksBelow held areas root n x.page result) (child_handle x rest parts) (subst (λ (c : Contents). ShrinksBelow held areas root (handle_in first.value) c result) page_same s))
    where
      page_same : below ≡ x.page
      page_same = page_is areas held truth x.handle (x_node x rest parts).block u.same u.chunked (x_node x rest parts).chunk x.page below (x_node x rest parts).has
          (subst (λ (n : ℕ). HoldsPage held areas n below) (child_handle x rest parts) h)

      by : (others : List Node) → tree.level under ≡ x ∷ others → ShrinksBelow held areas root x.handle x.page result → StepIn areas held hints truth root tree result
      by [] p t = alone_in x p result t
      by (y ∷ ys) p t = beside_in x y ys p result t

  pub below_in : (below : Contents) (result : Result (List Changed) ChunkError) → HoldsPage held areas (handle_in first.value) below → ShrinksBelow held areas root (handle_in first.value) below result
      → StepIn areas held hints truth root tree result
  below_in below result h s = below_at (tree.level under) refl below result h s

  -- what the root's entry names is a page
  pub child_err : (error : ChunkError) → PageAt held areas (handle_in first.value) (Err error) → IsWant error
  child_err error f =
      let n = (u.is.levels under within).nodes_are named.child named.there in
      page_err areas held truth named.child.handle n.block u.same u.chunked n.chunk named.child.page n.has error (subst (λ (h : ℕ). PageAt held areas h (Err error)) names f)
