-- What a file that is made a dead one leaves of a tree.
use Rattle.std.proofs.Common.{◌≡◌, ℕ, ◌+◌, ◌*◌, ◌/◌, ◌%◌, ◌^◌, ◌<◌, ◌⊎◌, arith, Bool, true, false, List, [], ◌∷◌, inl, inr, sym, ap, ◌∙◌, subst, refl, Option, Some, None, Result, Ok, Err}
use Rattle.std.specs.Prelude.{◌≢◌, ◌==◌, not, if◌then◌else◌, Contains, IsSome, OnOk}
use Rattle.bx_base.specs.declared.names.Mode.TheVariants.{Exclusive}
use Rattle.bx_places.specs.Handles.{parts_of}
use Rattle.bx_layout.specs.declared.block.Block.{Block}
use Rattle.bx_layout.specs.declared.inode.Inode.{Inode}
use Rattle.bx_model.specs.Edits.{without}
use Rattle.bx_model.specs.Opening.{root_handle}
use Rattle.bx_model.specs.declared.tree.Tree.{Tree}
use Rattle.bx_places.specs.Places.{block_area, block_slot}
use Rattle.bx_records.specs.Drafts.{Changed}
use Rattle.bx_tree_files.specs.declared.file.Body.{Body}
use Rattle.bx_tree_files.specs.declared.file.Body.TheVariants.{Bytes, Path, Names}
use Rattle.bx_tree_files.specs.declared.file.File.{File}
use Rattle.bx_tree_files.specs.declared.file.Name.{Name}
use Rattle.bx_tree_files.specs.Files.{file_at}
use Rattle.bx_tree_files.specs.Files.{without_file as files_without}
use Rattle.bx_truth.specs.Chunks.{block_at, chunks_of, word_at}
use Rattle.bx_truth.specs.Dying.{IsShownDead, MarksSlot, without_file}
use Rattle.bx_truth.specs.Edits.{ChunkAnew}
use Rattle.bx_truth.specs.PageTrees.{Chunks, Node, PageTree, IsTree, IsPageOf, map_of}
use Rattle.bx_truth.specs.Shown.{IsShown, KeepsOthers}
use Rattle.bx_truth.specs.Stands.{StandsFor, inode_of}
use Rattle.bx_truth.specs.Stored.{AreNames, DataOf, HasBody, HasContents, HasInode, HasTree, Inodes, Owner, PageOf, Stored}
use Rattle.bx_truth.proofs.Cases.{eq_true, same_or}
use Rattle.bx_truth.proofs.Died.{died}
use Rattle.bx_truth.proofs.Frames.{Keeps, contents_kept, has_tree_kept, tree_kept}
use Rattle.bx_truth.proofs.Marking.{marked_then_kept}
use Rattle.bx_truth.proofs.OneFiles.{one_inode}
use Rattle.bx_truth.proofs.Put.{shown}
use Rattle.bx_truth.proofs.Same.{chunk_is}
use Rattle.bx_views.specs.Attempts.{IsHeldDraft}
use Rattle.bx_views.specs.Truths.{Truth, Held, Hints, IsTruth, with_draft}
use Rattle.bx_leaves.specs.bx_blink.specs.Hints.{HintsFit}
use Rattle.bx_leaves.specs.bx_blink.proofs.Sees.{Holds}
use Rattle.bx_chunks.specs.Marking.{Marks, MarksAt, MarksIn}
use Rattle.bx_chunks.specs.declared.error.ChunkError.{ChunkError}
use Rattle.bx_chunks.specs.declared.error.ChunkError.TheVariants.{Need, Stale, Full, OutOfMemory, Crowded}
use Rattle.bx_chunks.proofs.HeldDrafts.{marks_held}
use Rattle.bx_chunks.proofs.Marks.{marks_in}
use Rattle.bx_inodes.specs.Fitting.{Continues, HintsFitAll, IsPageUnder}
use Rattle.bx_inodes.proofs.Later.{fit_later, fit_still}
use Rattle.bx_inodes.proofs.Pages.{inode_is, one_block, stored_is}
use Rattle.bx_inodes.specs.Inodes.{HoldsInode}
use Rattle.bx_leaves.proofs.Fair.{put_held}
use Rattle.bx_making.specs.Burying.{BuriesAt, BuriesFile, BuriesIn, IsBare, MarksAndPuts, dead_inode}
use Rattle.bx_making.proofs.Puts.{put_chunk, put_slots}

-- the files without one, in two words
same_without : (files : List File) (handle : ℕ) → without_file files handle ≡ files_without files handle
same_without [] handle = refl
same_without (x ∷ files) handle = by (x.handle == handle) (same_without files handle)
  where
    by : (t : Bool) → without_file files handle ≡ files_without files handle
        → (if t then without_file files handle else x ∷ without_file files handle) ≡ (if not t then x ∷ files_without files handle else files_without files handle)
    by true rest = rest
    by false rest = ap (λ (l : List File). x ∷ l) rest

-- the area of a handle in use
area_of : (areas handle area slot word : ℕ) → handle ≡ area * 2 ^ 48 + slot * 2 ^ 32 + word % 2 ^ 31 → slot < 960 → area < areas → handle / 2 ^ 48 < areas
area_of areas handle area slot word is less within = omega (arith, is, less, within)

-- a tree without entries names no pieces
no_contents : (chunks : Chunks) (owner : ℕ → Owner) (handle : ℕ) (stored : Stored) (names : List Name) → AreNames (map_of stored.tree) names → names ≡ [] → HasContents chunks owner handle stored
no_contents chunks owner handle stored names are none key value is =
    let f = are.only key value is in
    let e = subst (λ (l : List Name). Contains l f.0) none f.1 in
    absurd (omega (arith, e.1))

module _ (areas : ℕ) (held : Held) (truth : Truth) (old new : List Changed) (tree : Tree) (handle : ℕ) (inode : Inode) (file : File) (same : IsTruth held truth)
    (is : StandsFor areas (with_draft truth old) tree) (holds : HoldsInode areas (with_draft truth old) handle inode) (there : file_at tree.files handle ≡ Some file) (bare : IsBare file.body)
    (not_root : handle ≢ root_handle) where
  within : (parts_of handle).area < areas
  within =
      let c = chunk_is areas (with_draft truth old) handle holds.block holds.chunk in
      area_of areas handle (block_area (block_at handle)) (block_slot (block_at handle)) (word_at (with_draft truth old) (block_at handle)) c.is_handle c.slot.slot c.slot.area

  marked : (mid : List Changed) (result : Result (Unit {0}) ChunkError) → MarksAt held old mid handle true result → MarksIn areas truth old mid handle true result
  marked mid result x = marks_in areas held truth old handle within same is.chunked true mid result x

  module _ (b : MarksAndPuts held old new handle inode) where
    m : Marks areas (with_draft truth old) (with_draft truth b.mid) handle true
    m = marked b.mid (Ok tt) b.marks

    holds_mid : Holds areas held truth b.mid
    holds_mid = record { same = same; chunked = m.marks.chunked }

    was_mid : chunks_of areas (with_draft truth b.mid) handle ≡ Some holds.block
    was_mid = m.chunks handle ∙ holds.chunk

    anew : ChunkAnew (chunks_of areas (with_draft truth b.mid)) (chunks_of areas (with_draft truth new)) handle b.puts.block
    anew = put_chunk areas held truth b.mid new handle holds.block b.puts.block holds_mid was_mid b.puts.is.header b.puts.put

    elsewhere : (h : ℕ) → h ≢ handle → chunks_of areas (with_draft truth new) h ≡ chunks_of areas (with_draft truth old) h
    elsewhere h other = anew.others h other ∙ m.chunks h

    slots : MarksSlot areas (with_draft truth old) (with_draft truth new) handle true
    slots = marked_then_kept areas (with_draft truth old) (with_draft truth b.mid) (with_draft truth new) handle true
        (chunk_is areas (with_draft truth old) handle holds.block holds.chunk).slot m.marks
        (put_slots areas held truth b.mid new handle holds.block b.puts.block holds_mid was_mid b.puts.is.header b.puts.put)

    s : IsShown (chunks_of areas (with_draft truth old)) is.owner handle (is.stored handle) file
    s = shown areas (with_draft truth old) tree handle file is there

    other_owner : (h : ℕ) → is.owner h ≢ Inodes → h ≢ handle
    other_owner h other e = other (ap is.owner e ∙ s.itself)

    others : KeepsOthers areas (with_draft truth old) (with_draft truth new) tree is is.owner handle
    others = record {
      kept = λ h block some test. (elsewhere h (other h test) ∙ some, refl);
      none_new = λ h block some test. (sym (elsewhere h (other h test)) ∙ some, refl);
    }
      where
        other : (h : ℕ) → (inode_of h (is.owner h) == handle) ≡ false → h ≢ handle
        other h test e = let t = eq_true (inode_of h (is.owner h)) handle (ap (inode_of h) (ap is.owner e ∙ s.itself) ∙ e) in absurd cc

    abbrev stored_now : Stored
    stored_now = record { inode = dead_inode inode; tree = (is.stored handle).tree }

    abbrev stored_was : Stored
    stored_was = record { inode = inode; tree = (is.stored handle).tree }

    body : HasBody (chunks_of areas (with_draft truth old)) is.owner handle stored_was file.body
    body = subst (λ (x : Stored). HasBody (chunks_of areas (with_draft truth old)) is.owner handle x file.body) (stored_is areas (with_draft truth old) tree is handle inode holds) s.body

    page_owner : (h inode : ℕ) → is.owner h ≡ PageOf inode → h ≢ handle
    page_owner h inode own = other_owner h (λ e. let wrong : PageOf inode ≡ Inodes = sym own ∙ e in absurd cc)

    piece_owner : (h inode index : ℕ) → is.owner h ≡ DataOf inode index → h ≢ handle
    piece_owner h inode index own = other_owner h (λ e. let wrong : DataOf inode index ≡ Inodes = sym own ∙ e in absurd cc)

    keeps : Keeps (chunks_of areas (with_draft truth old)) (chunks_of areas (with_draft truth new)) is.owner is.owner handle stored_now
    keeps = record {
      pages = λ node block own some. (elsewhere node.handle (page_owner node.handle handle own) ∙ some, refl);
      pieces = λ names index block own some. (elsewhere names (piece_owner names handle index own) ∙ some, refl);
    }

    abbrev before : Chunks
    before = chunks_of areas (with_draft truth old)

    abbrev now : Chunks
    now = chunks_of areas (with_draft truth new)

    with_tree : HasTree (chunks_of areas (with_draft truth old)) is.owner handle stored_was → HasContents (chunks_of areas (with_draft truth old)) is.owner handle stored_was
        → (inode.tree ≡ 0) ⊎ (HasTree (chunks_of areas (with_draft truth new)) is.owner handle stored_now × HasContents (chunks_of areas (with_draft truth new)) is.owner handle stored_now)
    with_tree has contents = inr (
      has_tree_kept (chunks_of areas (with_draft truth old)) (chunks_of areas (with_draft truth new)) is.owner is.owner handle stored_now keeps (record { is = has.is; pages = has.pages }),
      contents_kept (chunks_of areas (with_draft truth old)) (chunks_of areas (with_draft truth new)) is.owner is.owner handle stored_now keeps contents,
    )

    dead_tree : (x : Body) → IsBare x → HasBody (chunks_of areas (with_draft truth old)) is.owner handle stored_was x
        → (inode.tree ≡ 0) ⊎ (HasTree (chunks_of areas (with_draft truth new)) is.owner handle stored_now × HasContents (chunks_of areas (with_draft truth new)) is.owner handle stored_now)
    dead_tree (Bytes bytes) none has = with_tree has.tree has.contents
    dead_tree (Path path) none has = inl has.no_tree
    dead_tree (Names parent next names) none has = with_tree has.tree (no_contents (chunks_of areas (with_draft truth old)) is.owner handle stored_was names has.entries none)

    shown_dead : IsShownDead (chunks_of areas (with_draft truth new)) is.owner handle stored_now
    shown_dead = record {
      block = b.puts.block;
      chunk = anew.here;
      itself = s.itself;
      has = b.puts.is.has;
      dead = record { kind = refl; tree = dead_tree file.body bare body };
      pages = λ h block some own.
          let p = s.pages h block (sym (elsewhere h (page_owner h handle own)) ∙ some) own in
          record { kind = p.kind; has_tree = λ none. p.has_tree (ap (λ (i : Inode). i.tree) (inode_is areas (with_draft truth old) tree is handle inode holds) ∙ none); node = p.node; there = p.there; names = p.names };
      pieces = λ h index block some own.
          let p = s.pieces h index block (sym (elsewhere h (piece_owner h handle index own)) ∙ some) own in
          record { kind = p.kind; has_tree = λ none. p.has_tree (ap (λ (i : Inode). i.tree) (inode_is areas (with_draft truth old) tree is handle inode holds) ∙ none); names = p.names };
    }

    stands : StandsFor areas (with_draft truth new) (without tree handle)
    stands = subst (λ (files : List File). StandsFor areas (with_draft truth new) (record tree { files = files })) (same_without tree.files handle)
        (died areas (with_draft truth old) (with_draft truth new) tree handle is.owner stored_now is slots others not_root shown_dead)

    -- ---- hints

    holds_now : HoldsInode areas (with_draft truth new) handle (dead_inode inode)
    holds_now = record { block = b.puts.block; chunk = anew.here; has = b.puts.is.has }

    continues : Continues areas (with_draft truth old) (with_draft truth new)
    continues = record {
      given = slots.given;
      used = λ h block some given. by h block some (same_or h handle);
    }
      where
        by : (h : ℕ) (block : Block) → chunks_of areas (with_draft truth new) h ≡ Some block → (h ≡ handle) ⊎ (h ≢ handle) → (was : Block) × (chunks_of areas (with_draft truth old) h ≡ Some was)
        by h block some (inl e) = (holds.block, ap (chunks_of areas (with_draft truth old)) e ∙ holds.chunk)
        by h block some (inr other) = (block, sym (elsewhere h other) ∙ some)

    each : (h : ℕ) (block : Block) → chunks_of areas (with_draft truth new) h ≡ Some block
        → (chunks_of areas (with_draft truth old) h ≡ Some block) ⊎ ((h ≡ handle) ⊎ (IsPageUnder areas (with_draft truth new) handle h ⊎ (block.kind ≡ 3)))
    each h block some = by (same_or h handle)
      where
        by : (h ≡ handle) ⊎ (h ≢ handle) → (chunks_of areas (with_draft truth old) h ≡ Some block) ⊎ ((h ≡ handle) ⊎ (IsPageUnder areas (with_draft truth new) handle h ⊎ (block.kind ≡ 3)))
        by (inl e) = inr (inl e)
        by (inr other) = inl (sym (elsewhere h other) ∙ some)

    -- a page isn't the inode
    page_stays : (root : ℕ) (pages : PageTree) → IsTree (chunks_of areas (with_draft truth new)) root pages → (node : Node) (block : Block) → IsPageOf pages node
        → chunks_of areas (with_draft truth new) node.handle ≡ Some block → chunks_of areas (with_draft truth old) node.handle ≡ Some block
    page_stays root pages at node block page some = by (same_or node.handle handle)
      where
        by : (node.handle ≡ handle) ⊎ (node.handle ≢ handle) → chunks_of areas (with_draft truth old) node.handle ≡ Some block
        by (inl e) =
            let n = (at.levels page.level page.within).nodes_are node page.there in
            let one : n.block ≡ b.puts.block = one_block n.block b.puts.block (sym n.chunk ∙ ap (chunks_of areas (with_draft truth new)) e ∙ anew.here) in
            let two : n.block.kind ≡ 1 = ap (λ (x : Block). x.kind) one ∙ b.puts.is.has.kind in
            let k = n.has.kind in absurd (omega (arith, two, k))
        by (inr other) = sym (elsewhere node.handle other) ∙ some

    leads : (other : Hints) → HintsFitAll areas other (with_draft truth old) → HintsFitAll areas other (with_draft truth new)
    leads other fit = fit_still areas other (with_draft truth old) (with_draft truth new) (without tree handle) handle stands continues (record { inode = dead_inode inode; holds = holds_now; each = each }) this fit
      where
        this : (i : Inode) (pages : PageTree) → HoldsInode areas (with_draft truth new) handle i → IsTree (chunks_of areas (with_draft truth new)) i.tree pages → HintsFit areas other (with_draft truth new) i.tree pages
        this i pages h at =
            let block : h.block ≡ b.puts.block = one_block h.block b.puts.block (sym h.chunk ∙ anew.here) in
            let dead : i ≡ dead_inode inode = one_inode i (dead_inode inode) b.puts.block.payload (subst (HasInode i) block h.has).spells b.puts.is.has.spells in
            let root : i.tree ≡ inode.tree = ap (λ (x : Inode). x.tree) dead in
            let at_root = subst (λ (r : ℕ). IsTree (chunks_of areas (with_draft truth new)) r pages) root at in
            subst (λ (r : ℕ). HintsFit areas other (with_draft truth new) r pages) (sym root)
            (fit_later areas other (with_draft truth old) (with_draft truth new) inode.tree pages continues
            (fit.each handle inode pages holds (tree_kept (chunks_of areas (with_draft truth new)) (chunks_of areas (with_draft truth old)) inode.tree pages at_root (page_stays inode.tree pages at_root))))

    file_is_buried : BuriesFile areas truth old new tree handle inode
    file_is_buried = record { stands = stands; holds = holds_now; others = elsewhere; leads = leads }

  some_none : (block : Block) → ◌≡◌ {A = Option Block} (Some block) None → ⊥
  some_none block e = absurd cc

  pub buries_in : (result : Result (Unit {0}) ChunkError) → BuriesAt held old new handle inode result → BuriesIn areas truth old new tree handle inode result
  buries_in (Ok done) b = file_is_buried b
  buries_in (Err (Need at mode)) x = tt
  buries_in (Err Crowded) x = tt
  buries_in (Err OutOfMemory) x = tt
  buries_in (Err Stale) x = some_none holds.block (sym holds.chunk ∙ marked old (Err Stale) x)
  buries_in (Err (Full spare)) x = x

-- ---- what is held

pub buries_held : (held : Held) (old new : List Changed) (handle : ℕ) (inode : Inode) → IsHeldDraft held old → IsSome (held (block_at handle) Exclusive) → (result : Result (Unit {0}) ChunkError) → BuriesAt held old new handle inode result
    → OnOk result (IsHeldDraft held new)
buries_held held old new handle inode before some (Ok done) b =
    subst (IsHeldDraft held) (sym b.puts.put) (put_held held b.mid (block_at handle) b.puts.block (marks_held held old b.mid before handle true (Ok tt) b.marks tt) some b.puts.is.parts)
buries_held held old new handle inode before some (Err error) b = tt
