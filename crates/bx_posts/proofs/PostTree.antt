-- What `post` does to a tree, by what it answers on any content.
use Rattle.std.proofs.Common.{◌≡◌, ℕ, ◌+◌, ◌<◌, ◌≤◌, Bool, true, false, List, length, Some, None, refl, sym, ap, subst, ◌∙◌, arith, inl, inr, length-drop}
use Rattle.std.specs.Prelude.{Result, Ok, Err, ◌⊎◌, ◌≢◌}
use Rattle.std.proofs.lemmas.Bool.{cases_lt}
use Rattle.std.proofs.lemmas.List.{length-take}
use Rattle.bx_base.specs.declared.names.Mode.TheVariants.{Shared, Exclusive}
use Rattle.bx_layout.specs.declared.block.Block.{Block}
use Rattle.bx_records.specs.Drafts.{Changed}
use Rattle.bx_page.specs.Contents.{Contents, size, half, first_half}
use Rattle.bx_page.proofs.Room.{size-le}
use Rattle.bx_page.proofs.Whole.{one_page}
use Rattle.bx_truth.specs.Chunks.{block_at, chunks_of}
use Rattle.bx_truth.specs.PageTrees.{Chunks, HasPage, IsIn, IsNode, IsLast, Node, PageTree, IsPageOf}
use Rattle.bx_views.specs.Truths.{Truth, Held, Hints, with_draft}
use Rattle.bx_blink.specs.declared.error.BlinkError.{BlinkError}
use Rattle.bx_blink.specs.declared.error.BlinkError.TheVariants.{Need, Stale, Full, NoRoom, Absent, Present, OutOfMemory, Crowded}
use Rattle.bx_blink.specs.declared.steps.End.TheVariants.{Lost}
use Rattle.bx_blink.specs.Hints.{Under, Agrees}
use Rattle.bx_blink.specs.Places.{IsPlaceOf}
use Rattle.bx_blink.specs.Walks.{Reads, reads_with, passes}
use Rattle.bx_blink.proofs.Found.{place}
use Rattle.bx_blink.proofs.Handles.{alone}
use Rattle.bx_blink.proofs.Tired.{never_lost}
use Rattle.bx_blink.proofs.Under.{agrees}
use Rattle.bx_splits.specs.bx_leaves.specs.Leaves.{PutsPage}
use Rattle.bx_splits.specs.bx_leaves.proofs.Apart.{same_page}
use Rattle.bx_splits.specs.declared.halves.Halves.{Halves}
use Rattle.bx_splits.specs.Halves.{HalvesAt, halves_of, half_in}
use Rattle.bx_splits.specs.Splits.{SplitsIn}
use Rattle.bx_splits.proofs.Halved.{GrowsHalves}
use Rattle.bx_splits.proofs.HalvesTree.{halves_fail, page_halves, root_halves}
use Rattle.bx_splits.proofs.Height.{few_levels}
use Rattle.bx_posts.specs.declared.posting.Posted.{Posted}
use Rattle.bx_posts.specs.declared.posting.Posted.TheVariants.{Put, SplitAlone}
use Rattle.bx_posts.specs.declared.separators.Separator.{Separator}
use Rattle.bx_posts.specs.Parents.{IsParentAt, ParentEnds, PutsAt, PutsInParent, with_separator}
use Rattle.bx_posts.specs.Posts.{FindsParent, HasLesserParent, LacksParent, PostsAt, PostsIn, PostsPage, rewritten, page as one_more, top}
use Rattle.bx_posts.specs.Separators.{IsHighest, IsSeparatorOf, IsShown, IsStrange, SeparatorAt, ShowsSeparator}
use Rattle.bx_posts.proofs.PutTree.{GrowsSeparated, put_grows, same_grown}

-- a half of a page with two entries has fewer
fewer : (c : Contents) (left right : ℕ) (key : List ℕ) → 2 ≤ length c.entries → length (half_in (halves_of c left right) key).1.entries < length c.entries
fewer c left right key more = by_test (passes (first_half c right) key) refl
  where
    by_test : (b : Bool) → passes (first_half c right) key ≡ b → length (half_in (halves_of c left right) key).1.entries < length c.entries
    by_test false e = rw e (let n = length-take (half c) c.entries in omega (arith, n, more))
    by_test true e = rw e (let n = length-drop (half c) c.entries in omega (arith, n, more))

module _ (areas near : ℕ) (held : Held) (hints : Hints) (truth : Truth) (old : List Changed) (root : ℕ) (tree : PageTree) (u : Under areas held hints truth old root tree) (node : Node) (i : IsPageOf tree node) (handle : ℕ) (at : node.handle ≡ handle) where
  abbrev reads : Reads
  reads = reads_with held hints old

  abbrev chunks : Chunks
  chunks = chunks_of areas (with_draft truth old)

  a : Agrees areas (reads_with held hints old) (chunks_of areas (with_draft truth old)) root tree
  a = agrees areas held hints truth old root tree u

  n : IsNode (chunks_of areas (with_draft truth old)) i.level node
  n = ((u.is).levels i.level i.within).nodes_are node i.there

  -- what is held is the page
  same_block : (block : Block) → reads.held (block_at handle) Shared ≡ Some block → block ≡ n.block
  same_block block e = (a.sees).same handle Shared block n.block e (ap chunks (sym at) ∙ n.chunk)

  same_contents : (contents : Contents) → IsShown (reads_with held hints old) handle contents → contents ≡ node.page
  same_contents contents s = one_page contents node.page (n.block).payload (subst (λ (b : Block). HasPage contents b) (same_block s.block s.there) s.has).spells (n.has).spells

  not_strange : IsStrange (reads_with held hints old) handle → ⊥
  not_strange s = elim s.other [
    | inl differs ↦ differs (ap (λ (b : Block). b.handle) (same_block s.block s.there) ∙ (a.sees).header handle n.block (ap chunks (sym at) ∙ n.chunk))
    | inr none ↦ none node.page (subst (λ (b : Block). HasPage node.page b) (sym (same_block s.block s.there)) n.has)
  ]

  not_highest : IsHighest (reads_with held hints old) handle → ⊥
  not_highest h =
      let level : i.level ≡ 65535 = sym n.same_level ∙ ap (λ (c : Contents). c.level) (sym (same_contents h.page h.shown)) ∙ h.highest in
      let within = i.within in
      let most = few_levels areas u.few (with_draft truth old) root tree u.is in
      omega (arith, level, within, most)

  separates : (separator : Separator) → ShowsSeparator (reads_with held hints old) handle separator → IsSeparatorOf node.page separator
  separates separator s = subst (λ (c : Contents). IsSeparatorOf c separator) (same_contents s.page s.shown) s.is

  -- a page with a right neighbour is below the root's level
  below_top : (key : List ℕ) → node.page.high ≡ Some key → i.level < tree.height
  below_top key high = by_level (cases_lt i.level tree.height)
    where
      by_level : (i.level < tree.height) ⊎ (tree.height ≤ i.level) → i.level < tree.height
      by_level (inl lt) = lt
      by_level (inr ge) =
          let same : i.level ≡ tree.height = (let w = i.within in omega (arith, w, ge)) in
          let at_top : node ≡ (u.is).top = alone node (u.is).top (subst (λ (ns : List Node). IsIn node ns) (ap tree.level same ∙ (u.is).root_alone) i.there) in
          let last : IsLast (u.is).top.page = ((rw (u.is).root_alone at ((u.is).levels tree.height (omega arith))).chain).1 in
          let both : Some key ≡ None = sym high ∙ ap (λ (x : Node). x.page.high) at_top ∙ last.high in
          absurd cc

  enough : (separator : Separator) → ShowsSeparator (reads_with held hints old) handle separator → separator.level ≤ tree.height
  enough separator s =
      let is = separates separator s in
      let lt = below_top separator.key is.key in
      let level : separator.level ≡ i.level + 1 = is.level ∙ ap (λ (l : ℕ). l + 1) n.same_level in
      omega (arith, lt, level)

  parent_place : (separator : Separator) → ShowsSeparator (reads_with held hints old) handle separator → (parent : ℕ) (contents : Contents) → IsParentAt (reads_with held hints old) root separator.level separator.key parent contents
      → IsPlaceOf tree separator.level separator.key parent contents
  parent_place separator s parent contents f = place areas reads chunks root tree separator.level Exclusive separator.key a (enough separator s) parent contents f.end

  not_lost : (separator : Separator) → ShowsSeparator (reads_with held hints old) handle separator → ParentEnds (reads_with held hints old) root separator.level separator.key Lost → ⊥
  not_lost separator s e = never_lost areas reads chunks root tree separator.level Exclusive separator.key a.few a.sees a.is a.hints 61440 refl (enough separator s) e

  module _ (new : List Changed) (separator : Separator) (parent : ℕ) (contents : Contents) (f : FindsParent (reads_with held hints old) root handle separator parent contents) where
    is : IsSeparatorOf node.page separator
    is = separates separator f.shows

    p : IsPlaceOf tree separator.level separator.key parent contents
    p = parent_place separator f.shows parent contents f.found

    pn : IsNode (chunks_of areas (with_draft truth old)) separator.level p.node
    pn = ((u.is).levels separator.level p.within).nodes_are p.node p.there

    abbrev pi : IsPageOf tree p.node
    pi = record { level = separator.level; within = p.within; there = p.there }

    apart : node.handle ≢ parent
    apart e =
        let pages : node.page ≡ p.node.page = same_page chunks i.level separator.level node p.node n pn (e ∙ sym p.handle_is) in
        let levels : i.level ≡ separator.level = sym n.same_level ∙ ap (λ (c : Contents). c.level) pages ∙ pn.same_level in
        let above : separator.level ≡ i.level + 1 = is.level ∙ ap (λ (l : ℕ). l + 1) n.same_level in
        omega (arith, levels, above)

    more : 4096 < size contents + 544 → 2 ≤ length contents.entries
    more full = let le = size-le contents (subst (λ (c : Contents). HasPage c pn.block) p.page_is pn.has).spells.is in omega (arith, full, le)

    more_node : 4096 < size contents + 544 → 2 ≤ length p.node.page.entries
    more_node full = subst (λ (c : Contents). 2 ≤ length c.entries) (sym p.page_is) (more full)

    -- the parent has room
    room : PutsPage old new parent (with_separator contents separator) → PostsPage areas held hints truth old new root tree node Put
    room puts =
        let g = put_grows areas held hints truth old old new root tree parent (λ h. ⊥) u (same_grown areas held hints truth old root tree u p.node pi parent p.handle_is) node i apart separator is parent contents p puts (inl refl) in
        rewritten parent g.grows refl g.has

    lessens : (after : PageTree) (left right : ℕ) → 4096 < size contents + 544
        → IsPlaceOf after separator.level separator.key (half_in (halves_of contents left right) separator.key).0 (half_in (halves_of contents left right) separator.key).1 → HasLesserParent tree after node
    lessens after left right full q = record {
      key = separator.key;
      high = is.key;
      was_handle = parent;
      was = contents;
      was_there = subst (λ (l : ℕ). IsPlaceOf tree l separator.key parent contents) is.level p;
      handle = (half_in (halves_of contents left right) separator.key).0;
      page = (half_in (halves_of contents left right) separator.key).1;
      there = subst (λ (l : ℕ). IsPlaceOf after l separator.key (half_in (halves_of contents left right) separator.key).0 (half_in (halves_of contents left right) separator.key).1) is.level q;
      fewer = fewer contents left right separator.key (more full);
    }

    -- the parent is split, and the separator put into a half
    module _ (mid : List Changed) (IsNew : ℕ → Type 0) (left right : ℕ) (g : GrowsHalves areas held hints truth old mid root tree parent IsNew contents left right) (left_put : (left ≡ parent) ⊎ IsNew left) (right_put : IsNew right) where
      half_put : ((half_in (halves_of contents left right) separator.key).0 ≡ parent) ⊎ IsNew (half_in (halves_of contents left right) separator.key).0
      half_put = by_test (passes (first_half contents right) separator.key) refl
        where
          by_test : (b : Bool) → passes (first_half contents right) separator.key ≡ b → ((half_in (halves_of contents left right) separator.key).0 ≡ parent) ⊎ IsNew (half_in (halves_of contents left right) separator.key).0
          by_test false e = rw e left_put
          by_test true e = rw e (inr right_put)

      in_half : PutsPage mid new (half_in (halves_of contents left right) separator.key).0 (with_separator (half_in (halves_of contents left right) separator.key).1 separator)
          → GrowsSeparated areas held hints truth old new root tree parent IsNew node
      in_half puts =
          put_grows areas held hints truth old mid new root tree parent IsNew u g.grows node i apart separator is (half_in (halves_of contents left right) separator.key).0 (half_in (halves_of contents left right) separator.key).1
          (g.places separator.level separator.key contents p) puts half_put

      alone_in_half : 4096 < size contents + 544 → HasLesserParent tree (g.grows).after node
      alone_in_half full = lessens (g.grows).after left right full (g.places separator.level separator.key contents p)

    module _ (mid : List Changed) (halves : Halves) (full : 4096 < size contents + 544) where
      split_put : HalvesAt held old mid root parent contents near areas (Ok halves) → PutsPage mid new (half_in halves separator.key).0 (with_separator (half_in halves separator.key).1 separator)
          → PostsPage areas held hints truth old new root tree node Put
      split_put h puts = elim h [
        | inl r ↦ (
            let c = (r.1).cuts in
            let g = root_halves areas near held hints truth old mid root tree parent u p.node pi p.handle_is contents (sym p.page_is) (more_node full) r.0 c in
            let s = in_half mid (λ x. (x ≡ c.left) ⊎ (x ≡ c.right)) c.left c.right g (inr (inl refl)) (inr refl)
            (subst (λ (x : Halves). PutsPage mid new (half_in x separator.key).0 (with_separator (half_in x separator.key).1 separator)) (r.1).halves_are puts) in
            let t : GrowsSeparated areas held hints truth old new root tree root (λ x. (x ≡ c.left) ⊎ (x ≡ c.right)) node =
            subst (λ (h : ℕ). GrowsSeparated areas held hints truth old new root tree h (λ x. (x ≡ c.left) ⊎ (x ≡ c.right)) node) r.0 s in
            top c.left c.right t.grows t.has)
        | inr r ↦ (
            let c = (r.1).cuts in
            let g = page_halves areas near held hints truth old mid root tree parent u p.node pi p.handle_is contents (sym p.page_is) (more_node full) r.0 c in
            let s = in_half mid (λ x. x ≡ c.right) parent c.right g (inl refl) refl
            (subst (λ (x : Halves). PutsPage mid new (half_in x separator.key).0 (with_separator (half_in x separator.key).1 separator)) (r.1).halves_are puts) in
            one_more parent c.right s.grows r.0 s.has)
      ]

      split_alone : HalvesAt held old mid root parent contents near areas (Ok halves) → PostsPage areas held hints truth old mid root tree node SplitAlone
      split_alone h = elim h [
        | inl r ↦ (
            let c = (r.1).cuts in
            let g : GrowsHalves areas held hints truth old mid root tree root (λ x. (x ≡ c.left) ⊎ (x ≡ c.right)) contents c.left c.right =
            subst (λ (h : ℕ). GrowsHalves areas held hints truth old mid root tree h (λ x. (x ≡ c.left) ⊎ (x ≡ c.right)) contents c.left c.right) r.0
            (root_halves areas near held hints truth old mid root tree parent u p.node pi p.handle_is contents (sym p.page_is) (more_node full) r.0 c) in
            top c.left c.right g.grows
            (lessens (g.grows).after c.left c.right full (g.places separator.level separator.key contents (subst (λ (h : ℕ). IsPlaceOf tree separator.level separator.key h contents) r.0 p))))
        | inr r ↦ (
            let c = (r.1).cuts in
            let g = page_halves areas near held hints truth old mid root tree parent u p.node pi p.handle_is contents (sym p.page_is) (more_node full) r.0 c in
            one_more parent c.right g.grows r.0 (alone_in_half mid (λ x. x ≡ c.right) parent c.right g (inl refl) refl full))
      ]

    in_tree : (posted : Posted) → PutsInParent held old new root parent contents separator near areas (Ok posted) → PostsPage areas held hints truth old new root tree node posted
    in_tree Put s = elim s [ inl r ↦ room r.1 | inr t ↦ split_put (t.1).mid (t.1).halves t.0 (t.1).splits (t.1).puts ]
    in_tree SplitAlone s =
        subst (λ (d : List Changed). PostsPage areas held hints truth old d root tree node SplitAlone) (sym ((s.1).puts).0) (split_alone (s.1).mid (s.1).halves s.0 (s.1).splits)

    no_put : (e : BlinkError) (one two : List Changed) (h : ℕ) (c : Contents) → PutsAt one two h c separator (Err e) → PostsIn areas held hints truth old new root tree node (Err e)
    no_put Crowded one two h c q = tt
    no_put OutOfMemory one two h c q = tt
    no_put (Need at mode) one two h c q = tt
    no_put Stale one two h c q = q
    no_put (Full spare) one two h c q = absurd q
    no_put (NoRoom leaf) one two h c q = q
    no_put Absent one two h c q = q
    no_put Present one two h c q = q

    no_split : (e : BlinkError) → SplitsIn areas held hints truth old old root tree parent (Err e) → PostsIn areas held hints truth old new root tree node (Err e)
    no_split Crowded q = tt
    no_split OutOfMemory q = tt
    no_split (Need at mode) q = tt
    no_split Stale q = q
    no_split (Full spare) q = q
    no_split (NoRoom leaf) q = q
    no_split Absent q = q
    no_split Present q = q

    put_fails : (e : BlinkError) → PutsInParent held old new root parent contents separator near areas (Err e) → PostsIn areas held hints truth old new root tree node (Err e)
    put_fails e s = elim s [
      | inl r ↦ no_put e old old parent contents r.1
      | inr t ↦ elim t.1 [
        | inl h ↦ no_split e (halves_fail areas near held hints truth old old root tree parent u p.node pi p.handle_is contents (sym p.page_is) e h)
        | inr q ↦ no_put e q.mid old (half_in q.halves separator.key).0 (half_in q.halves separator.key).1 q.puts
      ]
    ]

  no_separator : (new : List Changed) (e : BlinkError) → SeparatorAt (reads_with held hints old) handle (Err e) → PostsIn areas held hints truth old new root tree node (Err e)
  no_separator new Crowded q = tt
  no_separator new OutOfMemory q = tt
  no_separator new (Need at mode) q = tt
  no_separator new Stale q = elim q [ inl s ↦ not_strange s | inr h ↦ not_highest h ]
  no_separator new (Full spare) q = absurd q
  no_separator new (NoRoom leaf) q = q
  no_separator new Absent q = q
  no_separator new Present q = q

  no_parent : (new : List Changed) (e : BlinkError) → LacksParent (reads_with held hints old) root handle e → PostsIn areas held hints truth old new root tree node (Err e)
  no_parent new Crowded q = tt
  no_parent new OutOfMemory q = tt
  no_parent new (Need at mode) q = tt
  no_parent new Stale q = not_lost q.separator q.shows q.fails
  no_parent new (Full spare) q = absurd q.fails
  no_parent new (NoRoom leaf) q = q.fails
  no_parent new Absent q = q.fails
  no_parent new Present q = q.fails

  pub posts_in : (new : List Changed) (result : Result Posted BlinkError) → PostsAt held hints old new root handle near areas result → PostsIn areas held hints truth old new root tree node result
  posts_in new (Ok posted) s = in_tree new s.separator s.parent s.page s.finds posted s.puts
  posts_in new (Err e) s = elim s [
    | inl q ↦ no_separator new e q
    | inr r ↦ elim r [
      | inl q ↦ no_parent new e q
      | inr q ↦ put_fails new q.separator q.parent q.page q.finds e q.puts
    ]
  ]
