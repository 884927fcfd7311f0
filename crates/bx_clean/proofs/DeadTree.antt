-- A dead file's page tree loses pages.
use Rattle.std.proofs.Common.{◌≡◌, ℕ, List, sym, ap, ◌∙◌, subst, refl, Some, inl, inr}
use Rattle.std.specs.Prelude.{◌≢◌, ◌⊎◌}
use Rattle.bx_layout.specs.declared.block.Block.{Block}
use Rattle.bx_layout.specs.declared.inode.Inode.{Inode}
use Rattle.bx_model.specs.declared.tree.Tree.{Tree}
use Rattle.bx_page.specs.declared.entry.Entry.{Entry}
use Rattle.bx_page.specs.Contents.{value_of}
use Rattle.bx_truth.specs.Chunks.{chunks_of}
use Rattle.bx_truth.specs.Dying.{IsShownDead}
use Rattle.bx_truth.specs.Keys.{content_key}
use Rattle.bx_truth.specs.PageTrees.{PageTree, IsTree, map_of}
use Rattle.bx_truth.specs.Shown.{IsPageIn, IsPieceIn}
use Rattle.bx_truth.specs.Stands.{StandsFor}
use Rattle.bx_truth.specs.Stored.{Owner, Inodes, PageOf, DataOf, Stored, IsContent}
use Rattle.bx_truth.proofs.Cases.{same_or}
use Rattle.bx_truth.proofs.Cleaned.{dead_anew, dead_shown}
use Rattle.bx_truth.proofs.Put.{some_not, some_there}
use Rattle.bx_views.specs.Truths.{Truth, Hints}
use Rattle.bx_blink.specs.Hints.{HintsFit}
use Rattle.bx_inodes.specs.Fitting.{HintsFitAll, Continues, IsPageUnder}
use Rattle.bx_inodes.proofs.Later.{fit_still}
use Rattle.bx_inodes.proofs.Pages.{one_block}
use Rattle.bx_inodes.proofs.Trees.{fit_other}
use Rattle.bx_inodes.specs.Inodes.{HoldsInode}
use Rattle.bx_clean.specs.Cleaning.{Cleans}
use Rattle.bx_clean.specs.Shrinking.{ShrinksTree}
use Rattle.bx_clean.proofs.DeadFile.{was, root_same, not_page, not_inodes, not_data, page_same, others_stay, itself, this_inode, from_stored, map_same, mine, contents}

module _ (areas : ℕ) (truth now : Truth) (T : Tree) (handle : ℕ) (inode : Inode) (tree after : PageTree) (is : StandsFor areas truth T) (holds : HoldsInode areas truth handle inode) (dead : inode.kind ≡ 0)
    (at : IsTree (chunks_of areas truth) inode.tree tree) (s : ShrinksTree areas truth now inode.tree tree after) where
  -- what is no page of it stays
  stays : (h : ℕ) → is.owner h ≢ PageOf handle → chunks_of areas now h ≡ chunks_of areas truth h
  stays h other = s.others h (λ node page e. other (ap is.owner (sym e) ∙ mine areas truth T handle inode is holds dead tree at node page))

  inode_stays : chunks_of areas now handle ≡ Some holds.block
  inode_stays = stays handle (λ page. not_inodes (is.owner handle) handle page (itself areas truth T handle inode is holds dead)) ∙ holds.chunk

  holds_now : HoldsInode areas now handle inode
  holds_now = record { block = holds.block; chunk = inode_stays; has = holds.has }

  shown : IsShownDead (chunks_of areas truth) is.owner handle (is.stored handle)
  shown = dead_shown areas truth T handle is (was areas truth T handle inode is holds dead)

  abbrev stored_now : Stored
  stored_now = record { inode = inode; tree = after }

  value_same : (key : List ℕ) → value_of (map_of after) key ≡ value_of (map_of (is.stored handle).tree) key
  value_same key = ap (λ (es : List Entry). value_of es key) (s.map_is ∙ sym (map_same areas truth T handle inode is holds dead tree at))

  content_now : (key value : List ℕ) → value_of (map_of after) key ≡ Some value → IsContent (chunks_of areas now) is.owner handle key value
  content_now key value found =
      let c = contents areas truth T handle inode is holds dead tree at key value (sym (value_same key) ∙ found) in
      record {
        index = c.index;
        names = c.names;
        block = c.block;
        index_fits = c.index_fits;
        names_fits = c.names_fits;
        key_is = c.key_is;
        value_is = c.value_is;
        chunk = stays c.names (λ page. not_data (is.owner c.names) handle handle c.index page c.own) ∙ c.chunk;
        kind = c.kind;
        own = c.own;
      }

  root_is : (is.stored handle).inode.tree ≢ 0 → inode.tree ≢ 0
  root_is some zero = some (root_same areas truth T handle inode is holds dead ∙ zero)

  page_now : (h : ℕ) (b : Block) → chunks_of areas now h ≡ Some b → is.owner h ≡ PageOf handle → IsPageIn stored_now h b
  page_now h b some page =
      let w = some_there (chunks_of areas truth h) (s.used h b some) in
      let p = shown.pages h w.0 w.1 page in
      let f = s.forth p.node (from_stored areas truth T handle inode is holds dead tree at p.node p.there) (λ none. some_not (chunks_of areas now h) b some (ap (chunks_of areas now) (sym p.names) ∙ none)) in
      let names : f.0.handle ≡ h = f.2 ∙ p.names in
      let n = (s.is.levels f.1.level f.1.within).nodes_are f.0 f.1.there in
      record {
        kind = ap (λ (b : Block). b.kind) (one_block b n.block (sym some ∙ ap (chunks_of areas now) (sym names) ∙ n.chunk)) ∙ n.has.kind;
        has_tree = root_is p.has_tree;
        node = f.0;
        there = f.1;
        names = names;
      }

  piece_now : (h index : ℕ) (b : Block) → chunks_of areas now h ≡ Some b → is.owner h ≡ DataOf handle index → IsPieceIn stored_now index h b
  piece_now h index b some piece =
      let p = shown.pieces h index b (sym (stays h (λ page. not_data (is.owner h) handle handle index page piece)) ∙ some) piece in
      record { kind = p.kind; has_tree = root_is p.has_tree; names = value_same (content_key index) ∙ p.names }

  shown_now : IsShownDead (chunks_of areas now) is.owner handle stored_now
  shown_now = record {
    block = holds.block;
    chunk = inode_stays;
    itself = itself areas truth T handle inode is holds dead;
    has = holds.has;
    dead = record {
      kind = dead;
      tree = inr (
        record { is = s.is; pages = λ node page. let b = s.back node page in ap is.owner (sym b.2) ∙ mine areas truth T handle inode is holds dead tree at b.0 b.1 },
        content_now,
      );
    };
    pages = page_now;
    pieces = piece_now;
  }

  stands : StandsFor areas now T
  stands = dead_anew areas truth T handle is (was areas truth T handle inode is holds dead) now is.owner stored_now s.slots
      (others_stay areas truth T handle inode is holds dead now (λ h test. stays h (not_page areas truth T handle inode is holds dead h test))) shown_now

  -- ---- hints

  continues : Continues areas truth now
  continues = record { given = s.slots.given; used = λ h b some given. some_there (chunks_of areas truth h) (s.used h b some) }

  page_under : (h : ℕ) (b : Block) → chunks_of areas now h ≡ Some b → is.owner h ≡ PageOf handle → IsPageUnder areas now handle h
  page_under h b some page =
      let p = page_now h b some page in
      record { inode = inode; holds = holds_now; tree = after; is = s.is; node = p.node; there = p.there; names = p.names }

  each : (h : ℕ) (b : Block) → chunks_of areas now h ≡ Some b → (chunks_of areas truth h ≡ Some b) ⊎ ((h ≡ handle) ⊎ (IsPageUnder areas now handle h ⊎ (b.kind ≡ 3)))
  each h b some = by (is.owner h) refl
    where
      another : is.owner h ≢ PageOf handle → (chunks_of areas truth h ≡ Some b) ⊎ ((h ≡ handle) ⊎ (IsPageUnder areas now handle h ⊎ (b.kind ≡ 3)))
      another other = inl (sym (stays h other) ∙ some)

      by_page : (a : ℕ) → is.owner h ≡ PageOf a → (a ≡ handle) ⊎ (a ≢ handle) → (chunks_of areas truth h ≡ Some b) ⊎ ((h ≡ handle) ⊎ (IsPageUnder areas now handle h ⊎ (b.kind ≡ 3)))
      by_page a o (inl e) = inr (inr (inl (page_under h b some (o ∙ ap PageOf e))))
      by_page a o (inr other) = another (λ page. other (page_same a handle (sym o ∙ page)))

      by : (o : Owner) → is.owner h ≡ o → (chunks_of areas truth h ≡ Some b) ⊎ ((h ≡ handle) ⊎ (IsPageUnder areas now handle h ⊎ (b.kind ≡ 3)))
      by Inodes o = another (λ page. not_inodes (is.owner h) handle page o)
      by (PageOf a) o = by_page a o (same_or a handle)
      by (DataOf a index) o = another (λ page. not_data (is.owner h) handle a index page o)

  leads : (other : Hints) → HintsFitAll areas other truth → HintsFitAll areas other now
  leads other fit = fit_still areas other truth now T handle stands continues (record { inode = inode; holds = holds_now; each = each }) this fit
    where
      this : (i : Inode) (pages : PageTree) → HoldsInode areas now handle i → IsTree (chunks_of areas now) i.tree pages → HintsFit areas other now i.tree pages
      this i pages h there =
          let root : i.tree ≡ inode.tree = ap (λ (x : Inode). x.tree) (this_inode areas now T handle inode stands holds_now dead i h) in
          subst (λ (r : ℕ). HintsFit areas other now r pages) (sym root)
          (fit_other areas other now inode.tree after pages s.is (subst (λ (r : ℕ). IsTree (chunks_of areas now) r pages) root there) (s.leads other (fit.each handle inode tree holds at)))

  pub dead_shrinks : Cleans areas truth now T
  dead_shrinks = record { stands = stands; given = s.slots.given; leads = leads }
