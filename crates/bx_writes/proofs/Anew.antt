-- A piece that isn't there is made: a block is taken, and the file's tree names it.
use Rattle.std.proofs.Common.{◌≡◌, ℕ, ◌+◌, ◌-◌, ◌*◌, ◌%◌, ◌^◌, ◌<◌, ◌≤◌, arith, Bool, false, List, ◌∷◌, length, ◌++◌, Option, Some, None, Ok, sym, ap, ◌∙◌, subst, refl, inl, inr}
use Rattle.std.specs.Prelude.{◌⊎◌, ◌≢◌, if◌then◌else◌, bytes_eq, option_and_then, All}
use Rattle.std.proofs.lemmas.List.Elements.{All-append, All-cons, All-filter}
use Rattle.bx_entries.specs.Rooms.{HasSpace}
use Rattle.bx_entries.proofs.Spaces.{space_stays}
use Rattle.bx_base.specs.declared.names.Mode.TheVariants.{Exclusive}
use Rattle.bx_blink.specs.Hints.{HintsFit, Under}
use Rattle.bx_blink.specs.Places.{IsPlaceOf}
use Rattle.bx_blink.specs.Walks.{reads_with}
use Rattle.bx_blink.proofs.Found.{place as place_found}
use Rattle.bx_blink.proofs.Under.{agrees}
use Rattle.bx_chunks.specs.Allocating.{AddsChunk, AllocatesAt}
use Rattle.bx_chunks.specs.Putting.{empty_of}
use Rattle.bx_chunks.proofs.Allocates.{allocates_in}
use Rattle.bx_entries.specs.bx_dirs.proofs.Edited.{Edited, HasPageAt, edited_by}
use Rattle.bx_inodes.specs.Fitting.{ChangesOne, Continues, HintsFitAll, IsPageUnder}
use Rattle.bx_inodes.proofs.Later.{fit_later, fit_still}
use Rattle.bx_inodes.proofs.Pages.{one_block}
use Rattle.bx_inodes.proofs.Trees.{fit_other}
use Rattle.bx_inodes.specs.Inodes.{HoldsInode}
use Rattle.bx_layout.specs.Areas.{generation_in}
use Rattle.bx_layout.specs.declared.block.Block.{Block}
use Rattle.bx_layout.specs.declared.inode.Inode.{Inode}
use Rattle.bx_leaves.specs.Changes.{MakesMap}
use Rattle.bx_leaves.specs.Leaves.{InsertsAt}
use Rattle.bx_leaves.proofs.Done.{inserts_in}
use Rattle.bx_leaves.proofs.Written.{draft_elsewhere, own_not_slot}
use Rattle.bx_entries.specs.bx_making.proofs.Puts.{put_chunk, put_slots}
use Rattle.bx_model.specs.declared.tree.Tree.{Tree}
use Rattle.bx_page.specs.declared.entry.Entry.{Entry}
use Rattle.bx_page.specs.Contents.{Contents, above, below, size, value_of, with_entry, with_value}
use Rattle.bx_page.specs.Keys.{is_below}
use Rattle.bx_page.proofs.Room.{size_with-le}
use Rattle.bx_entries.specs.bx_ready.proofs.Spare.{taken_less}
use Rattle.bx_entries.specs.bx_ready.specs.Rooms.{LeafHasRoom}
use Rattle.bx_records.specs.Drafts.{Changed, with_block}
use Rattle.bx_tree_files.specs.declared.file.File.{File}
use Rattle.bx_truth.specs.Chunks.{block_at, chunks_of, own_block, word_at}
use Rattle.bx_truth.specs.Edits.{ChunkAnew, HasPagesOf}
use Rattle.bx_truth.specs.Keys.{content_key, content_value}
use Rattle.bx_truth.specs.PageTrees.{IsNode, IsPageOf, IsTree, Node, PageTree, handle_in, map_of}
use Rattle.bx_truth.specs.Pieces.{PutsPiece}
use Rattle.bx_truth.specs.Shown.{KeepsSlots}
use Rattle.bx_truth.specs.Stands.{StandsFor, WasGiven}
use Rattle.bx_truth.specs.Stored.{HasInode, piece_of}
use Rattle.bx_truth.proofs.Cases.{eq_false, eq_true, same_or}
use Rattle.bx_truth.proofs.Dirs.{keeps_slots}
use Rattle.bx_truth.proofs.Frames.{handle_back, tree_kept}
use Rattle.bx_truth.proofs.Made.{keeps_and}
use Rattle.bx_truth.proofs.Names.{value_with}
use Rattle.bx_truth.proofs.OneFiles.{one_inode}
use Rattle.bx_truth.proofs.OneTree.{same_pages}
use Rattle.bx_truth.proofs.PieceKeys.{chunk_fits, none_some, not_yes, one_index}
use Rattle.bx_truth.proofs.Same.{chunk_is}
use Rattle.bx_truth.proofs.Taking.{taken_keeps}
use Rattle.bx_views.specs.Truths.{Held, Hints, IsTruth, Truth, with_draft}
use Rattle.bx_writes.proofs.On.{free_same, inode_same, map_same, regular, stands_now, tree_is, value_is}
use Rattle.bx_writes.proofs.Over.{is_over, over, over_both}
use Rattle.bx_writes.specs.Bytes.{IsOver, IsPayload}
use Rattle.bx_writes.specs.Written.{IsWritten, with_bytes}

module _ (areas near : ℕ) (held : Held) (hints : Hints) (truth : Truth) (tree : Tree) (handle : ℕ) (file : File) (pages : PageTree) (inode : Inode) (base : List ℕ) (index place : ℕ) (part rest : List ℕ) (taken : ℕ) (old one two : List Changed)
    (handle_is : file.handle ≡ handle) (few : areas ≤ 64) (same : IsTruth held truth) (fit : HintsFitAll areas hints truth) (next : ℕ) (index_fits : index < 2 ^ 32)
    (w : IsWritten areas held truth tree handle file pages inode base next rest (index + 1) taken old)
    (names : ℕ) (block : Block) (none : value_of (map_of pages) (content_key index) ≡ None)
    (header : block.handle ≡ names) (kind : block.kind ≡ 3) (takes : AllocatesAt held old one near areas (Ok names)) (put : two ≡ with_block one (block_at names) block) where
  a : AddsChunk areas (with_draft truth old) (with_draft truth one) names
  a = allocates_in areas near held truth old one few same w.stands.chunked (Ok names) takes

  chunk_one : (h : ℕ) → h ≢ names → chunks_of areas (with_draft truth one) h ≡ chunks_of areas (with_draft truth old) h
  chunk_one h other = a.chunks h ∙ ap (λ (t : Bool). if t then Some (empty_of names 3) else chunks_of areas (with_draft truth old) h) (eq_false h names other)

  here_one : chunks_of areas (with_draft truth one) names ≡ Some (empty_of names 3)
  here_one = a.chunks names ∙ ap (λ (t : Bool). if t then Some (empty_of names 3) else chunks_of areas (with_draft truth old) names) (eq_true names names refl)

  anew_two : ChunkAnew (chunks_of areas (with_draft truth one)) (chunks_of areas (with_draft truth two)) names block
  anew_two = put_chunk areas held truth one two names (empty_of names 3) block (record { same = same; chunked = a.chunked }) here_one header put

  elsewhere : (h : ℕ) → h ≢ names → chunks_of areas (with_draft truth two) h ≡ chunks_of areas (with_draft truth old) h
  elsewhere h other = anew_two.others h other ∙ chunk_one h other

  -- what was there is another chunk
  apart : (h : ℕ) (b : Block) → chunks_of areas (with_draft truth old) h ≡ Some b → h ≢ names
  apart h b some e = none_some b (sym a.fresh ∙ ap (chunks_of areas (with_draft truth old)) (sym e) ∙ some)

  slots_one : KeepsSlots areas (with_draft truth old) (with_draft truth one)
  slots_one = taken_keeps areas few (with_draft truth old) (with_draft truth one) a.block a.slots a.slot a.takes w.stands.chunked

  slots_two : KeepsSlots areas (with_draft truth old) (with_draft truth two)
  slots_two = keeps_and areas (with_draft truth old) (with_draft truth one) (with_draft truth two) slots_one
      (put_slots areas held truth one two names (empty_of names 3) block (record { same = same; chunked = a.chunked }) here_one header put)

  not_given : WasGiven areas (with_draft truth old) names → ⊥
  not_given g =
      let never = a.never in
      let w = g.generation in
      let l : names % 2 ^ 32 ≤ generation_in (word_at (with_draft truth old) a.block) = subst (λ (n : ℕ). names % 2 ^ 32 ≤ generation_in (word_at (with_draft truth old) n)) a.at w in
      omega (arith, never, l)

  used_two : (h : ℕ) (b : Block) → chunks_of areas (with_draft truth two) h ≡ Some b → WasGiven areas (with_draft truth old) h → (was : Block) × (chunks_of areas (with_draft truth old) h ≡ Some was)
  used_two h b some given = (b, sym (elsewhere h (λ e. not_given (subst (WasGiven areas (with_draft truth old)) e given))) ∙ some)

  continues_two : Continues areas (with_draft truth old) (with_draft truth two)
  continues_two = record { given = slots_two.given; used = used_two }

  page_chunk : (root : ℕ) (t : PageTree) → IsTree (chunks_of areas (with_draft truth old)) root t → (node : Node) → IsPageOf t node → (b : Block) × (chunks_of areas (with_draft truth old) node.handle ≡ Some b) × (b.kind ≡ 2)
  page_chunk root t is node page = let n = (is.levels page.level page.within).nodes_are node page.there in (n.block, n.chunk, n.has.kind)

  page_apart : (root : ℕ) (t : PageTree) → IsTree (chunks_of areas (with_draft truth old)) root t → (node : Node) → IsPageOf t node → node.handle ≢ names
  page_apart root t is node page = let c = page_chunk root t is node page in apart node.handle c.0 c.1

  tree_two : (root : ℕ) (t : PageTree) → IsTree (chunks_of areas (with_draft truth old)) root t → IsTree (chunks_of areas (with_draft truth two)) root t
  tree_two root t is = tree_kept (chunks_of areas (with_draft truth old)) (chunks_of areas (with_draft truth two)) root t is (λ node b page some. elsewhere node.handle (page_apart root t is node page) ∙ some)

  pub under_two : Under areas held hints truth two inode.tree w.after
  under_two = record {
    few = few;
    same = same;
    chunked = slots_two.chunked;
    is = tree_two inode.tree w.after w.is;
    hints = fit_later areas hints (with_draft truth old) (with_draft truth two) inode.tree w.after continues_two ((w.leads hints fit).each handle inode w.after w.holds w.is);
  }

  fit_two : (other : Hints) → HintsFitAll areas other truth → HintsFit areas other (with_draft truth two) inode.tree w.after
  fit_two other all = fit_later areas other (with_draft truth old) (with_draft truth two) inode.tree w.after continues_two ((w.leads other all).each handle inode w.after w.holds w.is)

  pub none_then : value_of (map_of w.after) (content_key index) ≡ None
  none_then = w.leaves.values index (omega arith) ∙ none

  own_two : (area : ℕ) → area < areas → with_draft truth two (own_block area) ≡ with_draft truth one (own_block area)
  own_two area less = subst (λ (d : List Changed). with_draft truth d (own_block area) ≡ with_draft truth one (own_block area)) (sym put)
      (draft_elsewhere truth one (block_at names) (own_block area) block (own_not_slot areas (block_at names) area (chunk_is areas (with_draft truth one) names (empty_of names 3) here_one).slot))

  -- ---- the entry is put

  module _ (new : List Changed) (inserts : InsertsAt held hints two new inode.tree (content_key index) (content_value names) (Ok tt)) (small : inode.size < 2 ^ 31) (low : inode.size ≤ inode.tail) (long : length base ≡ inode.size)
      (short : place + length part ≤ 4096) (fits : 4096 * index + place + length part ≤ inode.size) (next_is : next ≡ 4096 * index + place + length part) (some_left : taken ≤ 3)
      (p : IsPayload None place part block.payload) where
    m : MakesMap areas held hints truth two new inode.tree w.after (with_entry (map_of w.after) (content_key index) (content_value names))
    m = (inserts_in areas held hints truth two new inode.tree w.after (content_key index) under_two (content_value names) (Ok tt) inserts).1

    e : Edited areas (with_draft truth two) (with_draft truth new) inode.tree w.after m.after
    e = edited_by areas held hints truth two new inode.tree w.after (with_entry (map_of w.after) (content_key index) (content_value names)) under_two.is m

    page_not : m.page.handle ≢ names
    page_not = page_apart inode.tree w.after w.is m.page m.there

    page_kind : (h : ℕ) (b : Block) → chunks_of areas (with_draft truth old) h ≡ Some b → b.kind ≢ 2 → h ≢ m.page.handle
    page_kind h b some other same_handle =
        let c = page_chunk inode.tree w.after w.is m.page m.there in
        other (ap (λ (x : Block). x.kind) (one_block b c.0 (sym some ∙ ap (chunks_of areas (with_draft truth old)) same_handle ∙ c.1)) ∙ c.2)

    here : chunks_of areas (with_draft truth new) names ≡ Some block
    here = m.others names (λ same_handle. page_not (sym same_handle)) ∙ anew_two.here

    -- a chunk that is no page stays
    stays : (h : ℕ) (b : Block) → chunks_of areas (with_draft truth old) h ≡ Some b → b.kind ≢ 2 → chunks_of areas (with_draft truth new) h ≡ Some b
    stays h b some other = m.others h (page_kind h b some other) ∙ elsewhere h (apart h b some) ∙ some

    slots : KeepsSlots areas (with_draft truth old) (with_draft truth new)
    slots = keeps_and areas (with_draft truth old) (with_draft truth two) (with_draft truth new) slots_two (keeps_slots areas (with_draft truth two) (with_draft truth new) e.slots)

    stored_root : (w.stands.stored handle).inode.tree ≡ inode.tree
    stored_root = ap (λ (i : Inode). i.tree) (inode_same areas held truth tree handle file pages inode base next rest (index + 1) taken old handle_is w)

    stored_is : IsTree (chunks_of areas (with_draft truth old)) inode.tree (w.stands.stored handle).tree
    stored_is = tree_is areas held truth tree handle file pages inode base next rest (index + 1) taken old handle_is w

    to_after : (node : Node) → IsPageOf (w.stands.stored handle).tree node → IsPageOf w.after node
    to_after node page = same_pages (chunks_of areas (with_draft truth old)) inode.tree (w.stands.stored handle).tree w.after node stored_is w.is page

    to_stored : (node : Node) → IsPageOf w.after node → IsPageOf (w.stands.stored handle).tree node
    to_stored node page = same_pages (chunks_of areas (with_draft truth old)) inode.tree w.after (w.stands.stored handle).tree node w.is stored_is page

    back : HasPagesOf m.after (w.stands.stored handle).tree
    back node page = let b = m.back node page in (b.0, to_stored b.0 b.1, b.2)

    forth : HasPagesOf (w.stands.stored handle).tree m.after
    forth node page = m.forth node (to_after node page)

    others : (h : ℕ) → h ≢ names → ((node : Node) → IsPageOf (w.stands.stored handle).tree node → node.handle ≢ h) → chunks_of areas (with_draft truth new) h ≡ chunks_of areas (with_draft truth old) h
    others h other not_page = m.others h (λ same_handle. not_page m.page (to_stored m.page m.there) (sym same_handle)) ∙ elsewhere h other

    value_now : (key : List ℕ) → value_of (map_of m.after) key ≡ (if bytes_eq key (content_key index) then Some (content_value names) else value_of (map_of w.after) key)
    value_now key = ap (λ (x : List Entry). value_of x key) m.map_is ∙ value_with (map_of w.after) (content_key index) (content_value names) key

    values : (key : List ℕ) → value_of (map_of m.after) key ≡ (if bytes_eq key (content_key index) then Some (content_value names) else value_of (map_of (w.stands.stored handle).tree) key)
    values key = value_now key
        ∙ ap (λ (x : List Entry). if bytes_eq key (content_key index) then Some (content_value names) else value_of x key) (sym (map_same areas held truth tree handle file pages inode base next rest (index + 1) taken old handle_is w))

    none_stored : value_of (map_of (w.stands.stored handle).tree) (content_key index) ≡ None
    none_stored = value_is areas held truth tree handle file pages inode base next rest (index + 1) taken old handle_is w index (omega arith) ∙ none

    names_fits : names < 2 ^ 64
    names_fits = chunk_fits areas (with_draft truth new) names block few here

    puts : PutsPiece (chunks_of areas (with_draft truth old)) (chunks_of areas (with_draft truth new)) w.stands.owner handle (w.stands.stored handle) m.after index names block
    puts = record {
      was = inl a.fresh;
      index_fits = index_fits;
      names_fits = names_fits;
      kind = kind;
      here = here;
      values = values;
      none_else = λ other is_other other_fits. absurd (none_some (content_value other) (sym none_stored ∙ is_other));
      around = record {
        is = subst (λ (r : ℕ). IsTree (chunks_of areas (with_draft truth new)) r m.after) (sym stored_root) m.under.is;
        back = back;
        forth = forth;
        others = others;
      };
    }

    piece_none : piece_of (chunks_of areas (with_draft truth old)) (w.stands.stored handle).tree index ≡ None
    piece_none = ap (option_and_then (λ value. chunks_of areas (with_draft truth old) (handle_in value))) none_stored

    within : 4096 * index + place + length part ≤ length w.bytes
    within = let all = w.over.long in omega (arith, all, long, fits)

    now_over : IsOver w.bytes (4096 * index + place) part (over (4096 * index + place) part w.bytes)
    now_over = is_over (4096 * index + place) part w.bytes within

    -- ---- the file's inode, and hints

    no_page : w.holds.block.kind ≢ 2
    no_page two_kind = let is_inode = w.holds.has.kind in absurd (omega (arith, two_kind, is_inode))

    holds_now : HoldsInode areas (with_draft truth new) handle inode
    holds_now = record { block = w.holds.block; chunk = stays handle w.holds.block w.holds.chunk no_page; has = w.holds.has }

    used : (h : ℕ) (b : Block) → chunks_of areas (with_draft truth new) h ≡ Some b → WasGiven areas (with_draft truth old) h → (was : Block) × (chunks_of areas (with_draft truth old) h ≡ Some was)
    used h b some given = let mid = e.used h b some in used_two h mid.0 mid.1 given

    changes : ChangesOne areas (with_draft truth old) (with_draft truth new) handle
    changes = record { inode = inode; holds = holds_now; each = λ h b some. by h b some (same_or h names) (e.each h) }
      where
        by : (h : ℕ) (b : Block) → chunks_of areas (with_draft truth new) h ≡ Some b → (h ≡ names) ⊎ (h ≢ names)
            → (chunks_of areas (with_draft truth new) h ≡ chunks_of areas (with_draft truth two) h) ⊎ HasPageAt w.after h
            → (chunks_of areas (with_draft truth old) h ≡ Some b) ⊎ ((h ≡ handle) ⊎ (IsPageUnder areas (with_draft truth new) handle h ⊎ (b.kind ≡ 3)))
        by h b some (inl piece) t = inr (inr (inr (ap (λ (x : Block). x.kind) (one_block b block (sym some ∙ ap (chunks_of areas (with_draft truth new)) piece ∙ here)) ∙ kind)))
        by h b some (inr other) (inl stayed) = inl (sym (elsewhere h other) ∙ sym stayed ∙ some)
        by h b some (inr other) (inr page) =
            let f = m.forth page.node page.there in
            inr (inr (inl (record { inode = inode; holds = holds_now; tree = m.after; is = m.under.is; node = f.0; there = f.1; names = f.2 ∙ page.names })))

    stands_new : StandsFor areas (with_draft truth new) (with_bytes tree file (over (4096 * index + place) part w.bytes))
    stands_new = stands_now areas held truth tree handle file pages inode base next rest (index + 1) taken old handle_is w new index names place part block m.after few small low short fits slots puts
        (over (4096 * index + place) part w.bytes) now_over (subst (λ (o : Option Block). IsPayload o place part block.payload) (sym piece_none) p)

    leads_now : (other : Hints) → HintsFitAll areas other truth → HintsFitAll areas other (with_draft truth new)
    leads_now other all =
        fit_still areas other (with_draft truth old) (with_draft truth new) (with_bytes tree file (over (4096 * index + place) part w.bytes)) handle stands_new (record { given = slots.given; used = used }) changes this (w.leads other all)
      where
        this : (i : Inode) (t : PageTree) → HoldsInode areas (with_draft truth new) handle i → IsTree (chunks_of areas (with_draft truth new)) i.tree t → HintsFit areas other (with_draft truth new) i.tree t
        this i t h at_root =
            let same_block : h.block ≡ w.holds.block = one_block h.block w.holds.block (sym h.chunk ∙ stays handle w.holds.block w.holds.chunk no_page) in
            let same_inode : i ≡ inode = one_inode i inode w.holds.block.payload (subst (HasInode i) same_block h.has).spells w.holds.has.spells in
            let root : i.tree ≡ inode.tree = ap (λ (x : Inode). x.tree) same_inode in
            subst (λ (r : ℕ). HintsFit areas other (with_draft truth new) r t) (sym root)
            (fit_other areas other (with_draft truth new) inode.tree m.after t m.under.is (subst (λ (r : ℕ). IsTree (chunks_of areas (with_draft truth new)) r t) root at_root) (e.leads other (fit_two other all)))

    -- ---- space in the leaves

    at_leaf : IsPlaceOf w.after 0 (content_key index) inserts.handle inserts.page
    at_leaf = place_found areas (reads_with held hints two) (chunks_of areas (with_draft truth two)) inode.tree w.after 0 Exclusive (content_key index) (agrees areas held hints truth two inode.tree w.after under_two) (omega arith) inserts.handle inserts.page
        inserts.takes.lacks.leaf.end

    leaf_node : IsNode (chunks_of areas (with_draft truth two)) 0 at_leaf.node
    leaf_node = (under_two.is.levels 0 at_leaf.within).nodes_are at_leaf.node at_leaf.there

    abbrev P : Entry → Type 0
    P = λ entry. is_below entry.key at_leaf.node.begins ≡ false

    lowest : All (λ (entry : Entry). is_below entry.key at_leaf.node.begins ≡ false) (with_value inserts.page (content_key index) (content_value names)).entries
    lowest =
        let entry : Entry = record { key = content_key index; value = content_value names } in
        let before : All (λ (entry : Entry). is_below entry.key at_leaf.node.begins ≡ false) inserts.page.entries = subst (λ (c : Contents). All P c.entries) at_leaf.page_is leaf_node.lowest in
        All-append P (below inserts.page.entries (content_key index)) (entry ∷ above inserts.page.entries (content_key index)) (All-filter (λ x. is_below x.key (content_key index)) P inserts.page.entries before)
        (All-cons P entry (above inserts.page.entries (content_key index)) at_leaf.from (All-filter (λ x. is_below (content_key index) x.key) P inserts.page.entries before))

    leaf_anew : ChunkAnew (chunks_of areas (with_draft truth two)) (chunks_of areas (with_draft truth new)) inserts.handle inserts.puts.block
    leaf_anew = put_chunk areas held truth two new inserts.handle leaf_node.block inserts.puts.block (record { same = same; chunked = under_two.chunked })
        (ap (chunks_of areas (with_draft truth two)) (sym at_leaf.handle_is) ∙ leaf_node.chunk) inserts.puts.header inserts.puts.put

    grows : size (with_value inserts.page (content_key index) (content_value names)) + (544 - 17 * (taken + 1)) ≤ size inserts.page + (544 - 17 * taken)
    grows =
        let key : length (content_key index) ≡ 5 = refl in
        let value : length (content_value names) ≡ 8 = refl in
        omega (arith, some_left, key, value, size_with-le inserts.page (content_key index) (content_value names))

    space_now : (i : ℕ) → i < index → LeafHasRoom pages (content_key i) → HasSpace held m.after (content_key i) (544 - 17 * (taken + 1))
    space_now i less room =
        space_stays (chunks_of areas (with_draft truth two)) (chunks_of areas (with_draft truth new)) inode.tree held w.after under_two.is (content_key index) inserts.handle inserts.page
        (with_value inserts.page (content_key index) (content_value names)) inserts.puts.block at_leaf leaf_anew inserts.puts.has refl refl refl lowest (content_key i) (544 - 17 * taken) (544 - 17 * (taken + 1))
        (w.leaves.spaces i (omega (arith, less)) room) (omega (arith, some_left)) grows m.after m.under.is

    -- ---- all of it

    block_stays : (i : ℕ) (other : List ℕ) (b : Block) → i < index → value_of (map_of pages) (content_key i) ≡ Some other → chunks_of areas truth (handle_in other) ≡ Some b → chunks_of areas (with_draft truth new) (handle_in other) ≡ Some b
    block_stays i other b less is some =
        let there = w.leaves.blocks i other b (omega (arith, less)) is some in
        let value_i = value_is areas held truth tree handle file pages inode base next rest (index + 1) taken old handle_is w i (omega (arith, less)) ∙ is in
        let c = (regular areas held truth tree handle file pages inode base next rest (index + 1) taken old handle_is w).contents (content_key i) other value_i in
        let same_block : b ≡ c.block = one_block b c.block (sym there ∙ ap (chunks_of areas (with_draft truth old)) (ap handle_in c.value_is ∙ handle_back c.names c.names_fits) ∙ c.chunk) in
        stays (handle_in other) b there (λ two_kind. let three = c.kind in let k = ap (λ (x : Block). x.kind) same_block in absurd (omega (arith, two_kind, three, k)))

    other_key : (i : ℕ) → i < index → value_of (map_of m.after) (content_key i) ≡ value_of (map_of w.after) (content_key i)
    other_key i less = value_now (content_key i)
        ∙ ap (λ (t : Bool). if t then Some (content_value names) else value_of (map_of w.after) (content_key i))
        (not_yes (content_key i) (content_key index) (λ k. let i_is = one_index i index (omega (arith, less, index_fits)) index_fits k in omega (arith, less, i_is)))

    pub made_anew : IsWritten areas held truth tree handle file pages inode base (4096 * index + place) (part ++ rest) index (taken + 1) new
    made_anew = record {
      bytes = over (4096 * index + place) part w.bytes;
      over = over_both base w.bytes (over (4096 * index + place) part w.bytes) (4096 * index + place) part rest (subst (λ (n : ℕ). IsOver base n rest w.bytes) next_is w.over) now_over;
      stands = stands_new;
      holds = holds_now;
      leads = leads_now;
      after = m.after;
      is = m.under.is;
      leaves = record {
        values = λ i less. other_key i less ∙ w.leaves.values i (omega (arith, less));
        blocks = block_stays;
        spaces = space_now;
      };
      free =
          let free = w.free in
          let first = taken_less areas near held truth few same old w.stands.chunked one names takes in
          let second = free_same areas (with_draft truth one) (with_draft truth two) own_two in
          let third = free_same areas (with_draft truth two) (with_draft truth new) m.own in
          omega (arith, free, first, second, third);
    }
