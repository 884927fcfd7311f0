-- A dead file loses a piece: its entry, and its slot.
use Rattle.std.proofs.Common.{◌≡◌, ℕ, ◌≤◌, arith, Bool, List, [], sym, ap, ◌∙◌, subst, refl, Some, None, inl, inr}
use Rattle.std.specs.Prelude.{◌≢◌, ◌⊎◌, if◌then◌else◌, bytes_eq}
use Rattle.bx_layout.specs.declared.block.Block.{Block}
use Rattle.bx_layout.specs.declared.inode.Inode.{Inode}
use Rattle.bx_model.specs.declared.tree.Tree.{Tree}
use Rattle.bx_page.specs.declared.entry.Entry.{Entry}
use Rattle.bx_page.specs.Contents.{value_of}
use Rattle.bx_page.proofs.Maps.{taken_value}
use Rattle.bx_records.specs.Drafts.{Changed}
use Rattle.bx_truth.specs.Chunks.{chunks_of}
use Rattle.bx_truth.specs.Keys.{content_key, content_value}
use Rattle.bx_truth.specs.PageTrees.{Node, PageTree, IsTree, IsPageOf, handle_in, map_of, map_without}
use Rattle.bx_truth.specs.Pieces.{CutsPiece}
use Rattle.bx_truth.specs.Shown.{KeepsSlots}
use Rattle.bx_truth.specs.Stands.{StandsFor}
use Rattle.bx_truth.specs.Stored.{DataOf, IsContent}
use Rattle.bx_truth.proofs.Cases.{eq_true, eq_false, same_or}
use Rattle.bx_truth.proofs.Dirs.{keeps_slots}
use Rattle.bx_truth.proofs.Frames.{handle_back, tree_kept}
use Rattle.bx_truth.proofs.PieceCut.{dead_piece_cut}
use Rattle.bx_views.specs.Truths.{Truth, Held, Hints, with_draft}
use Rattle.bx_blink.specs.Hints.{HintsFit}
use Rattle.bx_chunks.specs.Freeing.{RemovesChunk}
use Rattle.bx_inodes.specs.Fitting.{HintsFitAll, Continues, IsPageUnder}
use Rattle.bx_inodes.proofs.Later.{fit_later, fit_still}
use Rattle.bx_inodes.proofs.Trees.{fit_other}
use Rattle.bx_inodes.specs.Inodes.{HoldsInode}
use Rattle.bx_leaves.specs.Changes.{MakesMap}
use Rattle.bx_clean.specs.Cleaning.{Cleans}
use Rattle.bx_clean.proofs.DeadFile.{was, root_same, none_some, no_root, not_inodes, not_data, data_not_inodes, itself, this_inode, to_stored, from_stored, map_same, mine, contents}
use Rattle.bx_clean.proofs.Slots.{removes_keeps, slots_steps}

module _ (areas : ℕ) (held : Held) (hints : Hints) (truth : Truth) (mid new : List Changed) (T : Tree) (handle : ℕ) (inode : Inode) (tree : PageTree) (key value : List ℕ) (few : areas ≤ 64)
    (is : StandsFor areas truth T) (holds : HoldsInode areas truth handle inode) (dead : inode.kind ≡ 0) (at : IsTree (chunks_of areas truth) inode.tree tree)
    (found : value_of (map_of tree) key ≡ Some value) (m : MakesMap areas held hints truth [] mid inode.tree tree (map_without (map_of tree) key))
    (r : RemovesChunk areas (with_draft truth mid) (with_draft truth new) (handle_in value)) where
  abbrev names : ℕ
  names = handle_in value

  value_there : value_of (map_of (is.stored handle).tree) key ≡ Some value
  value_there = ap (λ (es : List Entry). value_of es key) (map_same areas truth T handle inode is holds dead tree at) ∙ found

  c : IsContent (chunks_of areas truth) is.owner handle key value
  c = contents areas truth T handle inode is holds dead tree at key value value_there

  names_are : handle_in value ≡ c.names
  names_are = ap handle_in c.value_is ∙ handle_back c.names c.names_fits

  own_piece : is.owner (handle_in value) ≡ DataOf handle c.index
  own_piece = ap is.owner names_are ∙ c.own

  -- the chunks, step by step
  gone : chunks_of areas (with_draft truth new) (handle_in value) ≡ None
  gone = r.chunks (handle_in value) ∙ ap (λ (t : Bool). if t then None else chunks_of areas (with_draft truth mid) (handle_in value)) (eq_true (handle_in value) (handle_in value) refl)

  kept : (h : ℕ) → h ≢ handle_in value → chunks_of areas (with_draft truth new) h ≡ chunks_of areas (with_draft truth mid) h
  kept h other = r.chunks h ∙ ap (λ (t : Bool). if t then None else chunks_of areas (with_draft truth mid) h) (eq_false h (handle_in value) other)

  not_gone : (h : ℕ) (b : Block) → chunks_of areas (with_draft truth new) h ≡ Some b → h ≢ handle_in value
  not_gone h b some e = none_some b (sym gone ∙ ap (chunks_of areas (with_draft truth new)) (sym e) ∙ some)

  -- a page isn't the piece
  page_apart : (node : Node) → IsPageOf m.after node → node.handle ≢ handle_in value
  page_apart node page e =
      let b = m.back node page in
      not_data (is.owner (handle_in value)) handle handle c.index (ap is.owner (sym (b.2 ∙ e)) ∙ mine areas truth T handle inode is holds dead tree at b.0 b.1) own_piece

  is_now : IsTree (chunks_of areas (with_draft truth new)) inode.tree m.after
  is_now = tree_kept (chunks_of areas (with_draft truth mid)) (chunks_of areas (with_draft truth new)) inode.tree m.after m.under.is
      (λ node b page some. kept node.handle (page_apart node page) ∙ some)

  slots : KeepsSlots areas truth (with_draft truth new)
  slots = slots_steps areas truth (with_draft truth mid) (with_draft truth new)
      (keeps_slots areas truth (with_draft truth mid) (record { chunked = m.under.chunked; own = m.own }))
      (removes_keeps areas (with_draft truth mid) (with_draft truth new) (handle_in value) few m.under.chunked r)

  cuts : CutsPiece (chunks_of areas truth) (chunks_of areas (with_draft truth new)) (is.stored handle) m.after c.index (handle_in value)
  cuts = record {
    was = ap (value_of (map_of (is.stored handle).tree)) (sym c.key_is) ∙ value_there ∙ ap (λ (v : List ℕ). Some v) (c.value_is ∙ ap content_value (sym names_are));
    index_fits = c.index_fits;
    names_fits = let f = c.names_fits in omega (arith, f, names_are);
    gone = gone;
    values = λ other.
        ap (λ (es : List Entry). value_of es other) m.map_is
        ∙ taken_value (record { level = 0; right = 0; high = None; entries = map_of tree }) key other
        ∙ ap (λ (k : List ℕ). if bytes_eq other k then None else value_of (map_of tree) other) c.key_is
        ∙ ap (λ (es : List Entry). if bytes_eq other (content_key c.index) then None else value_of es other) (sym (map_same areas truth T handle inode is holds dead tree at));
    around = record {
      is = subst (λ (root : ℕ). IsTree (chunks_of areas (with_draft truth new)) root m.after) (sym (root_same areas truth T handle inode is holds dead)) is_now;
      back = λ node page. let b = m.back node page in (b.0, to_stored areas truth T handle inode is holds dead tree at b.0 b.1, b.2);
      forth = λ node page. m.forth node (from_stored areas truth T handle inode is holds dead tree at node page);
      others = λ h other pages. kept h other ∙ m.others h (λ e. pages m.page (to_stored areas truth T handle inode is holds dead tree at m.page m.there) (sym e));
    };
  }

  stands : StandsFor areas (with_draft truth new) T
  stands = dead_piece_cut areas truth (with_draft truth new) T handle m.after c.index (handle_in value) is (was areas truth T handle inode is holds dead)
      (λ zero. no_root areas truth T is inode.tree tree at (sym (root_same areas truth T handle inode is holds dead) ∙ zero)) slots cuts few

  -- ---- hints

  -- the inode is no page and no piece
  inode_kept : chunks_of areas (with_draft truth new) handle ≡ Some holds.block
  inode_kept =
      let own = itself areas truth T handle inode is holds dead in
      kept handle (λ e. data_not_inodes (is.owner handle) handle c.index (ap is.owner e ∙ own_piece) own)
      ∙ m.others handle (λ e. not_inodes (is.owner handle) handle (ap is.owner e ∙ mine areas truth T handle inode is holds dead tree at m.page m.there) own)
      ∙ holds.chunk

  holds_now : HoldsInode areas (with_draft truth new) handle inode
  holds_now = record { block = holds.block; chunk = inode_kept; has = holds.has }

  was_page : (b : Block) × (chunks_of areas truth m.page.handle ≡ Some b)
  was_page = let n = (at.levels m.there.level m.there.within).nodes_are m.page m.there.there in (n.block, n.chunk)

  mid_used : (h : ℕ) (b : Block) → chunks_of areas (with_draft truth mid) h ≡ Some b → (w : Block) × (chunks_of areas truth h ≡ Some w)
  mid_used h b some = by (same_or h m.page.handle)
    where
      by : (h ≡ m.page.handle) ⊎ (h ≢ m.page.handle) → (w : Block) × (chunks_of areas truth h ≡ Some w)
      by (inl e) = (was_page.0, ap (chunks_of areas truth) e ∙ was_page.1)
      by (inr other) = (b, sym (m.others h other) ∙ some)

  continues : Continues areas truth (with_draft truth new)
  continues = record { given = slots.given; used = λ h b some given. mid_used h b (sym (kept h (not_gone h b some)) ∙ some) }

  later : Continues areas (with_draft truth mid) (with_draft truth new)
  later = record {
    given = (removes_keeps areas (with_draft truth mid) (with_draft truth new) (handle_in value) few m.under.chunked r).given;
    used = λ h b some given. (b, sym (kept h (not_gone h b some)) ∙ some);
  }

  each : (h : ℕ) (b : Block) → chunks_of areas (with_draft truth new) h ≡ Some b
      → (chunks_of areas truth h ≡ Some b) ⊎ ((h ≡ handle) ⊎ (IsPageUnder areas (with_draft truth new) handle h ⊎ (b.kind ≡ 3)))
  each h b some = by (same_or h m.page.handle)
    where
      by : (h ≡ m.page.handle) ⊎ (h ≢ m.page.handle) → (chunks_of areas truth h ≡ Some b) ⊎ ((h ≡ handle) ⊎ (IsPageUnder areas (with_draft truth new) handle h ⊎ (b.kind ≡ 3)))
      by (inl e) =
          let f = m.forth m.page m.there in
          inr (inr (inl (record { inode = inode; holds = holds_now; tree = m.after; is = is_now; node = f.0; there = f.1; names = f.2 ∙ sym e })))
      by (inr other) = inl (sym (m.others h other) ∙ sym (kept h (not_gone h b some)) ∙ some)

  leads : (other : Hints) → HintsFitAll areas other truth → HintsFitAll areas other (with_draft truth new)
  leads other fit = fit_still areas other truth (with_draft truth new) T handle stands continues (record { inode = inode; holds = holds_now; each = each }) this fit
    where
      this : (i : Inode) (pages : PageTree) → HoldsInode areas (with_draft truth new) handle i → IsTree (chunks_of areas (with_draft truth new)) i.tree pages → HintsFit areas other (with_draft truth new) i.tree pages
      this i pages h there =
          let root : i.tree ≡ inode.tree = ap (λ (x : Inode). x.tree) (this_inode areas (with_draft truth new) T handle inode stands holds_now dead i h) in
          subst (λ (n : ℕ). HintsFit areas other (with_draft truth new) n pages) (sym root)
          (fit_other areas other (with_draft truth new) inode.tree m.after pages is_now (subst (λ (n : ℕ). IsTree (chunks_of areas (with_draft truth new)) n pages) root there)
          (fit_later areas other (with_draft truth mid) (with_draft truth new) inode.tree m.after later (m.leads other (fit.each handle inode tree holds at))))

  pub piece_freed : Cleans areas truth (with_draft truth new) T
  piece_freed = record { stands = stands; given = slots.given; leads = leads }
