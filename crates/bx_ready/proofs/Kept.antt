-- Splits and posts keep files and hints.
use Rattle.std.proofs.Common.{◌≡◌, ℕ, ◌⊎◌, arith, Bool, true, false, List, inl, inr, sym, ap, ◌∙◌, subst, refl, Option, Some, None}
use Rattle.std.specs.Prelude.{◌≢◌, ◌==◌, ◌||◌}
use Rattle.std.proofs.lemmas.Bool.Decides.{nat_tests}
use Rattle.bx_layout.specs.declared.block.Block.{Block}
use Rattle.bx_layout.specs.declared.inode.Inode.{Inode}
use Rattle.bx_model.specs.declared.tree.Tree.{Tree}
use Rattle.bx_records.specs.Drafts.{Changed}
use Rattle.bx_tree_files.specs.declared.file.File.{File}
use Rattle.bx_tree_files.specs.Files.{file_at}
use Rattle.bx_truth.specs.Chunks.{chunks_of}
use Rattle.bx_truth.specs.PageTrees.{Node, PageTree, IsTree, IsPageOf}
use Rattle.bx_truth.specs.Stands.{StandsFor, WasGiven}
use Rattle.bx_truth.specs.Stored.{HasInode, HasTree}
use Rattle.bx_truth.proofs.Cases.{eq_true, same_or}
use Rattle.bx_truth.proofs.OneFiles.{one_inode}
use Rattle.bx_truth.proofs.OneTree.{one_map, same_pages}
use Rattle.bx_views.specs.Truths.{Truth, Held, Hints, with_draft}
use Rattle.bx_blink.specs.Hints.{HintsFit}
use Rattle.bx_inodes.specs.Fitting.{HintsFitAll, IsPageUnder}
use Rattle.bx_inodes.proofs.Later.{fit_still}
use Rattle.bx_inodes.proofs.Pages.{has_tree, inode_is, one_block}
use Rattle.bx_inodes.proofs.Trees.{fit_other}
use Rattle.bx_inodes.specs.Inodes.{HoldsInode}
use Rattle.bx_posts.specs.declared.posting.Posted.{Posted}
use Rattle.bx_posts.specs.Posts.{PostsPage, rewritten, page, top}
use Rattle.bx_posts.specs.bx_splits.specs.Splits.{GrowsTree, SplitsPage, page as cut_page, top as cut_top}
use Rattle.bx_ready.specs.Growing.{GrowsPages}
use Rattle.bx_ready.specs.Keeping.{KeepsFiles}
use Rattle.bx_ready.proofs.Grown.{tree_grown}

no_some : {X : Type 0} (x : X) → ◌≡◌ {A = Option X} None (Some x) → ⊥
no_some x e = absurd cc

no_true : false ≡ true → ⊥
no_true e = absurd cc

module _ (areas : ℕ) (held : Held) (hints : Hints) (truth : Truth) (old new : List Changed) (tree : Tree) (handle : ℕ) (inode : Inode) (file : File) (pages : PageTree)
    (is : StandsFor areas (with_draft truth old) tree) (holds : HoldsInode areas (with_draft truth old) handle inode) (there : file_at tree.files handle ≡ Some file)
    (at : IsTree (chunks_of areas (with_draft truth old)) inode.tree pages) where
  -- by a test of the new handles
  module _ (changed : ℕ) (IsNew : ℕ → Type 0) (is_new : ℕ → Bool) (tells : (h : ℕ) → is_new h ≡ true → IsNew h) (told : (h : ℕ) → IsNew h → is_new h ≡ true)
      (g : GrowsTree areas held hints truth old new inode.tree pages changed IsNew) where
    root_is : (is.stored handle).inode.tree ≡ inode.tree
    root_is = ap (λ (i : Inode). i.tree) (inode_is areas (with_draft truth old) tree is handle inode holds)

    has : HasTree (chunks_of areas (with_draft truth old)) is.owner handle (is.stored handle)
    has = has_tree areas (with_draft truth old) tree is handle inode holds pages at

    stored_at : IsTree (chunks_of areas (with_draft truth old)) inode.tree (is.stored handle).tree
    stored_at = subst (λ (r : ℕ). IsTree (chunks_of areas (with_draft truth old)) r (is.stored handle).tree) root_is has.is

    to_stored : (node : Node) → IsPageOf pages node → IsPageOf (is.stored handle).tree node
    to_stored node = same_pages (chunks_of areas (with_draft truth old)) inode.tree pages (is.stored handle).tree node at stored_at

    from_stored : (node : Node) → IsPageOf (is.stored handle).tree node → IsPageOf pages node
    from_stored node = same_pages (chunks_of areas (with_draft truth old)) inode.tree (is.stored handle).tree pages node stored_at at

    grows : GrowsPages (chunks_of areas (with_draft truth old)) (chunks_of areas (with_draft truth new)) (is.stored handle).inode.tree (is.stored handle).tree g.after is_new
    grows = record {
      fresh = λ h t. g.fresh h (tells h t);
      is = subst (λ (r : ℕ). IsTree (chunks_of areas (with_draft truth new)) r g.after) (sym root_is) g.under.is;
      map_is = g.map_is ∙ one_map (chunks_of areas (with_draft truth old)) inode.tree pages (is.stored handle).tree at stored_at;
      new_pages = λ h t. g.new_pages h (tells h t);
      back = λ node page_there. turn node (g.back node page_there);
      forth = λ node page_there. g.forth node (from_stored node page_there);
      others = λ h other apart. g.others h (λ n. no_true (sym other ∙ told h n)) (λ e. apart g.page (to_stored g.page g.page_there) (g.page_is ∙ sym e));
    }
      where
        turn : (node : Node) → IsNew node.handle ⊎ ((was : Node) × IsPageOf pages was × (was.handle ≡ node.handle)) → (is_new node.handle ≡ true) ⊎ ((was : Node) × IsPageOf (is.stored handle).tree was × (was.handle ≡ node.handle))
        turn node (inl n) = inl (told node.handle n)
        turn node (inr (w, page_there, names)) = inr (w, to_stored w page_there, names)

    stands : StandsFor areas (with_draft truth new) tree
    stands = tree_grown areas (with_draft truth old) (with_draft truth new) tree handle file g.after is_new is there has g.slots grows

    new_or : (h : ℕ) → IsNew h ⊎ (IsNew h → ⊥)
    new_or h = by (is_new h) refl
      where
        by : (t : Bool) → is_new h ≡ t → IsNew h ⊎ (IsNew h → ⊥)
        by true t = inl (tells h t)
        by false t = inr (λ n. no_true (sym t ∙ told h n))

    -- what is no page stays
    kept : (h : ℕ) (block : Block) → chunks_of areas (with_draft truth old) h ≡ Some block → block.kind ≢ 2 → chunks_of areas (with_draft truth new) h ≡ Some block
    kept h block some apart =
        g.others h (λ n. no_some block (sym (g.fresh h n) ∙ some)) (λ e.
        let n = (at.levels g.page_there.level g.page_there.within).nodes_are g.page g.page_there.there in
        let b : block ≡ n.block = one_block block n.block (sym some ∙ ap (chunks_of areas (with_draft truth old)) (e ∙ sym g.page_is) ∙ n.chunk) in
        apart (ap (λ (x : Block). x.kind) b ∙ n.has.kind)) ∙ some

    holds_now : HoldsInode areas (with_draft truth new) handle inode
    holds_now = record { block = holds.block; chunk = kept handle holds.block holds.chunk (λ two. let one = holds.has.kind in omega (arith, one, two)); has = holds.has }

    under_now : (h : ℕ) (node : Node) → IsPageOf g.after node → node.handle ≡ h → IsPageUnder areas (with_draft truth new) handle h
    under_now h node page_there names = record { inode = inode; holds = holds_now; tree = g.after; is = g.under.is; node = node; there = page_there; names = names }

    each : (h : ℕ) (block : Block) → chunks_of areas (with_draft truth new) h ≡ Some block
        → (chunks_of areas (with_draft truth old) h ≡ Some block) ⊎ ((h ≡ handle) ⊎ (IsPageUnder areas (with_draft truth new) handle h ⊎ (block.kind ≡ 3)))
    each h block some = by (new_or h) (same_or h changed)
      where
        by : IsNew h ⊎ (IsNew h → ⊥) → (h ≡ changed) ⊎ (h ≢ changed) → (chunks_of areas (with_draft truth old) h ≡ Some block) ⊎ ((h ≡ handle) ⊎ (IsPageUnder areas (with_draft truth new) handle h ⊎ (block.kind ≡ 3)))
        by (inl n) o = let p = g.new_pages h n in inr (inr (inl (under_now h p.0 p.1 p.2)))
        by (inr not) (inl e) = let f = g.forth g.page g.page_there in inr (inr (inl (under_now h f.0 f.1 (f.2 ∙ g.page_is ∙ sym e))))
        by (inr not) (inr other) = inl (sym (g.others h not other) ∙ some)

    used : (h : ℕ) (block : Block) → chunks_of areas (with_draft truth new) h ≡ Some block → WasGiven areas (with_draft truth old) h → (was : Block) × (chunks_of areas (with_draft truth old) h ≡ Some was)
    used h block some given = by (same_or h changed)
      where
        by : (h ≡ changed) ⊎ (h ≢ changed) → (was : Block) × (chunks_of areas (with_draft truth old) h ≡ Some was)
        by (inl e) = let n = (at.levels g.page_there.level g.page_there.within).nodes_are g.page g.page_there.there in (n.block, ap (chunks_of areas (with_draft truth old)) (e ∙ sym g.page_is) ∙ n.chunk)
        by (inr other) = (block, sym (g.others h (λ n. g.never h n given) other) ∙ some)

    leads : (other : Hints) → HintsFitAll areas other (with_draft truth old) → HintsFitAll areas other (with_draft truth new)
    leads other fit = fit_still areas other (with_draft truth old) (with_draft truth new) tree handle stands (record { given = g.slots.given; used = used }) (record { inode = inode; holds = holds_now; each = each }) this fit
      where
        this : (i : Inode) (found : PageTree) → HoldsInode areas (with_draft truth new) handle i → IsTree (chunks_of areas (with_draft truth new)) i.tree found → HintsFit areas other (with_draft truth new) i.tree found
        this i found h at_root =
            let block : h.block ≡ holds.block = one_block h.block holds.block (sym h.chunk ∙ kept handle holds.block holds.chunk (λ two. let one = holds.has.kind in omega (arith, one, two))) in
            let same : i ≡ inode = one_inode i inode holds.block.payload (subst (λ (b : Block). HasInode i b) block h.has).spells holds.has.spells in
            let root : i.tree ≡ inode.tree = ap (λ (x : Inode). x.tree) same in
            subst (λ (r : ℕ). HintsFit areas other (with_draft truth new) r found) (sym root)
            (fit_other areas other (with_draft truth new) inode.tree g.after found g.under.is (subst (λ (r : ℕ). IsTree (chunks_of areas (with_draft truth new)) r found) root at_root)
            (g.leads other (fit.each handle inode pages holds at)))

    keeps : KeepsFiles areas truth old new tree
    keeps = record { stands = stands; kept = kept; leads = leads }

  -- by which handles are new
  none_new : (changed : ℕ) → GrowsTree areas held hints truth old new inode.tree pages changed (λ h. ⊥) → KeepsFiles areas truth old new tree
  none_new changed g = keeps changed (λ h. ⊥) (λ h. false) (λ h t. no_true t) (λ h n. absurd n) g

  equal : (a b : ℕ) → (a == b) ≡ true → a ≡ b
  equal a b test = grind (arith, nat_tests, test)

  one_new : (changed right : ℕ) → GrowsTree areas held hints truth old new inode.tree pages changed (λ h. h ≡ right) → KeepsFiles areas truth old new tree
  one_new changed right g = keeps changed (λ h. h ≡ right) (λ h. h == right) (λ h t. equal h right t) (λ h e. eq_true h right e) g

  either : (a b : Bool) → (a || b) ≡ true → (a ≡ true) ⊎ (b ≡ true)
  either true b t = inl refl
  either false b t = inr t

  first_true : (a b : Bool) → a ≡ true → (a || b) ≡ true
  first_true true b t = refl
  first_true false b t = absurd cc

  second_true : (a b : Bool) → b ≡ true → (a || b) ≡ true
  second_true true b t = refl
  second_true false b t = t

  two_new : (changed left right : ℕ) → GrowsTree areas held hints truth old new inode.tree pages changed (λ h. (h ≡ left) ⊎ (h ≡ right)) → KeepsFiles areas truth old new tree
  two_new changed left right g = keeps changed (λ h. (h ≡ left) ⊎ (h ≡ right)) (λ h. (h == left) || (h == right)) tells told g
    where
      tells : (h : ℕ) → ((h == left) || (h == right)) ≡ true → (h ≡ left) ⊎ (h ≡ right)
      tells h t = by (either (h == left) (h == right) t)
        where
          by : ((h == left) ≡ true) ⊎ ((h == right) ≡ true) → (h ≡ left) ⊎ (h ≡ right)
          by (inl e) = inl (equal h left e)
          by (inr e) = inr (equal h right e)

      told : (h : ℕ) → (h ≡ left) ⊎ (h ≡ right) → ((h == left) || (h == right)) ≡ true
      told h (inl e) = first_true (h == left) (h == right) (eq_true h left e)
      told h (inr e) = second_true (h == left) (h == right) (eq_true h right e)

  pub split_keeps : (at_page : ℕ) → SplitsPage areas held hints truth old new inode.tree pages at_page → KeepsFiles areas truth old new tree
  split_keeps at_page (cut_page right other g) = one_new at_page right g
  split_keeps at_page (cut_top left right root g) = two_new at_page left right g

  pub post_keeps : (node : Node) (posted : Posted) → PostsPage areas held hints truth old new inode.tree pages node posted → KeepsFiles areas truth old new tree
  post_keeps node posted (rewritten parent g put advances) = none_new parent g
  post_keeps node posted (page parent right g other advances) = one_new parent right g
  post_keeps node posted (top left right g advances) = two_new inode.tree left right g
