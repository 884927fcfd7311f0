-- A separator is put into a page of a tree that grew, or stayed as it was: the tree grew by the same pages.
use Rattle.std.proofs.Common.{◌≡◌, ℕ, ◌+◌, List, Option, Some, None, refl, sym, ap, subst, ◌∙◌, arith, inl, inr}
use Rattle.std.specs.Prelude.{IfSome, ◌⊎◌, ◌≢◌}
use Rattle.std.specs.Int.{w64, to_be_bytes}
use Rattle.bx_layout.specs.declared.block.Block.{Block}
use Rattle.bx_records.specs.Drafts.{Changed}
use Rattle.bx_page.specs.Contents.{Contents, value_of, with_value}
use Rattle.bx_page.proofs.Maps.{put_value}
use Rattle.bx_page.proofs.Order.{same_itself}
use Rattle.bx_page.proofs.Whole.{one_page}
use Rattle.bx_truth.specs.Chunks.{chunks_of}
use Rattle.bx_truth.specs.Edits.{ChunkAnew}
use Rattle.bx_truth.specs.PageTrees.{Chunks, HasPage, IsNode, Node, PageTree, IsPageOf, map_of}
use Rattle.bx_truth.specs.Shown.{KeepsSlots}
use Rattle.bx_views.specs.Truths.{Truth, Held, Hints, with_draft}
use Rattle.bx_blink.specs.Hints.{Under}
use Rattle.bx_blink.specs.Places.{IsPlaceOf}
use Rattle.bx_blink.proofs.Sees.{Holds}
use Rattle.bx_splits.specs.bx_leaves.specs.Changes.{MakesMap}
use Rattle.bx_splits.specs.bx_leaves.specs.Leaves.{PutsPage}
use Rattle.bx_splits.specs.bx_leaves.proofs.Written.{puts_writes}
use Rattle.bx_splits.specs.Splits.{GrowsTree}
use Rattle.bx_splits.proofs.Kept.{kept_and, written_keeps}
use Rattle.bx_splits.proofs.Posted.{posted}
use Rattle.bx_posts.specs.declared.separators.Separator.{Separator}
use Rattle.bx_posts.specs.Parents.{with_separator}
use Rattle.bx_posts.specs.Posts.{HasSeparator}
use Rattle.bx_posts.specs.Separators.{IsSeparatorOf}

-- a tree that a draft leaves as it was grew by no page
module _ (areas : ℕ) (held : Held) (hints : Hints) (truth : Truth) (old : List Changed) (root : ℕ) (tree : PageTree) (u : Under areas held hints truth old root tree) (node : Node) (i : IsPageOf tree node) (changed : ℕ) (at : node.handle ≡ changed) where
  abbrev pub same_grown : GrowsTree areas held hints truth old old root tree changed (λ h. ⊥)
  same_grown = record {
    after = tree;
    under = u;
    map_is = refl;
    fresh = λ handle none. absurd none;
    never = λ handle none given. none;
    new_pages = λ handle none. absurd none;
    back = λ page there. inr (page, there, refl);
    forth = λ page there. (page, there, refl);
    page = node;
    page_there = i;
    page_is = at;
    others = λ handle not_new other. refl;
    leads = λ other fits. fits;
    slots = stays;
  }
    where
      stays : KeepsSlots areas (with_draft truth old) (with_draft truth old)
      stays = record { chunked = u.chunked; given = λ block slot. omega arith; dead = λ block slot. refl }

-- the tree grew, and has the separator
pub record GrowsSeparated (areas : ℕ) (held : Held) (hints : Hints) (truth : Truth) (old new : List Changed) (root : ℕ) (tree : PageTree) (changed : ℕ) (IsNew : ℕ → Type 0) (node : Node) : Type 0 where
  pub grows : GrowsTree areas held hints truth old new root tree changed IsNew
  pub has : HasSeparator grows.after node

pages_same : (a b : Block) (p q : Contents) → Some a ≡ Some b → HasPage p a → HasPage q b → p ≡ q
pages_same a b p q e hp hq = let same : a ≡ b = cc in one_page p q b.payload (subst (λ (x : Block). HasPage p x) same hp).spells hq.spells

module _ (areas : ℕ) (held : Held) (hints : Hints) (truth : Truth) (old mid new : List Changed) (root : ℕ) (tree : PageTree) (changed : ℕ) (IsNew : ℕ → Type 0) (u : Under areas held hints truth old root tree)
    (g : GrowsTree areas held hints truth old mid root tree changed IsNew) (node : Node) (i : IsPageOf tree node) (apart : node.handle ≢ changed) (separator : Separator) (is : IsSeparatorOf node.page separator)
    (handle : ℕ) (page : Contents) (p : IsPlaceOf g.after separator.level separator.key handle page) (puts : PutsPage mid new handle (with_separator page separator)) (where_put : (handle ≡ changed) ⊎ IsNew handle) where
  abbrev c0 : Chunks
  c0 = chunks_of areas (with_draft truth old)

  abbrev c1 : Chunks
  c1 = chunks_of areas (with_draft truth mid)

  abbrev c2 : Chunks
  c2 = chunks_of areas (with_draft truth new)

  n : IsNode c0 i.level node
  n = ((u.is).levels i.level i.within).nodes_are node i.there

  not_new : IsNew node.handle → ⊥
  not_new e = let both : Some n.block ≡ None = sym n.chunk ∙ g.fresh node.handle e in absurd cc

  -- the page in the tree that grew
  abbrev then_ : Node
  then_ = (g.forth node i).0

  abbrev there : IsPageOf g.after (g.forth node i).0
  there = (g.forth node i).1

  m : IsNode c1 (g.forth node i).1.level (g.forth node i).0
  m = (((g.under).is).levels (there).level (there).within).nodes_are then_ (there).there

  same : (g.forth node i).0.page ≡ node.page
  same = pages_same m.block n.block (g.forth node i).0.page node.page (sym m.chunk ∙ ap c1 (g.forth node i).2 ∙ g.others node.handle not_new apart ∙ n.chunk) m.has n.has

  level_is : separator.level ≡ (g.forth node i).1.level + 1
  level_is = is.level ∙ ap (λ (c : Contents). c.level + 1) (sym same) ∙ ap (λ (l : ℕ). l + 1) m.same_level

  made : MakesMap areas held hints truth mid new root g.after (map_of g.after)
  made =
      let within = p.within in
      let level = level_is in
      posted areas held hints truth mid new root g.after g.under (there).level (omega (arith, within, level)) then_ (there).there separator.key (ap (λ (c : Contents). c.high) same ∙ is.key) handle page
      (subst (λ (l : ℕ). IsPlaceOf g.after l separator.key handle page) level_is p)
      (subst (λ (c : ℕ). PutsPage mid new handle (with_value page separator.key (to_be_bytes w64 c))) (is.child ∙ ap (λ (c : Contents). c.right) (sym same)) puts)

  parent : IsNode c1 separator.level p.node
  parent = (((g.under).is).levels separator.level p.within).nodes_are p.node p.there

  was : c1 handle ≡ Some parent.block
  was = ap c1 (sym p.handle_is) ∙ parent.chunk

  holds : Holds areas held truth mid
  holds = record { same = u.same; chunked = (g.under).chunked }

  written : ChunkAnew c1 c2 handle puts.block
  written =
      subst (λ (d : List Changed). ChunkAnew c1 (chunks_of areas (with_draft truth d)) handle puts.block) (sym puts.put)
      (puts_writes areas held truth mid handle parent.block puts.block holds was puts.header)

  kept : KeepsSlots areas (with_draft truth mid) (with_draft truth new)
  kept =
      subst (λ (d : List Changed). KeepsSlots areas (with_draft truth mid) (with_draft truth d)) (sym puts.put)
      (written_keeps areas held truth mid handle parent.block puts.block holds was puts.header)

  elsewhere : (h : ℕ) → (IsNew h → ⊥) → h ≢ changed → h ≡ handle → ⊥
  elsewhere h not_new other e = elim where_put [ inl c ↦ other (e ∙ c) | inr k ↦ not_new (subst IsNew (sym e) k) ]

  value_is : value_of (with_separator page separator).entries separator.key ≡ Some (to_be_bytes w64 node.page.right)
  value_is =
      put_value page separator.key (to_be_bytes w64 separator.child) separator.key
      ∙ rw (same_itself separator.key) (ap (λ (c : ℕ). Some (to_be_bytes w64 c)) is.child)

  has_it : (tree' : PageTree) → Under areas held hints truth new root tree' → (q : (x : Node) × IsPageOf tree' x × (x.handle ≡ p.node.handle)) → HasSeparator tree' node
  has_it tree' v q =
      let x = ((v.is).levels (q.1).level (q.1).within).nodes_are q.0 (q.1).there in
      let at : c2 (q.0).handle ≡ Some puts.block = ap c2 (q.2 ∙ p.handle_is) ∙ written.here in
      let page_is : (q.0).page ≡ with_separator page separator = pages_same x.block puts.block (q.0).page (with_separator page separator) (sym x.chunk ∙ at) x.has puts.has in
      record {
        parent = q.0;
        there = q.1;
        above = ap (λ (c : Contents). c.level) page_is ∙ ap (λ (c : Contents). c.level) (sym p.page_is) ∙ parent.same_level ∙ is.level;
        names = subst (λ (o : Option (List ℕ)). IfSome o (λ (high : List ℕ). value_of (q.0).page.entries high ≡ Some (to_be_bytes w64 node.page.right))) (sym is.key) (ap (λ (c : Contents). value_of c.entries separator.key) page_is ∙ value_is);
      }

  pub put_grows : GrowsSeparated areas held hints truth old new root tree changed IsNew node
  put_grows = record {
    grows = record {
      after = made.after;
      under = made.under;
      map_is = made.map_is ∙ g.map_is;
      fresh = g.fresh;
      never = g.never;
      new_pages = λ h e. let q = g.new_pages h e in let r = made.forth q.0 q.1 in (r.0, r.1, r.2 ∙ q.2);
      back = λ x there. let q = made.back x there in elim (g.back q.0 q.1) [ inl e ↦ inl (subst IsNew q.2 e) | inr o ↦ inr (o.0, o.1, o.2 ∙ q.2) ];
      forth = λ x there. let q = g.forth x there in let r = made.forth q.0 q.1 in (r.0, r.1, r.2 ∙ q.2);
      page = g.page;
      page_there = g.page_there;
      page_is = g.page_is;
      others = λ h not_new other. written.others h (elsewhere h not_new other) ∙ g.others h not_new other;
      leads = λ o fits. made.leads o (g.leads o fits);
      slots = kept_and areas (with_draft truth old) (with_draft truth mid) (with_draft truth new) g.slots kept;
    };
    has = has_it made.after made.under (made.forth p.node (record { level = separator.level; within = p.within; there = p.there }));
  }
