-- A dead file loses its tree, which is one page without entries.
use Rattle.std.proofs.Common.{◌≡◌, ℕ, ◌≤◌, arith, Bool, false, List, [], sym, ap, ◌∙◌, refl, Some, None, inl, inr}
use Rattle.std.specs.Prelude.{◌≢◌, ◌⊎◌, ◌==◌, if◌then◌else◌}
use Rattle.bx_layout.specs.declared.block.Block.{Block}
use Rattle.bx_layout.specs.declared.inode.Inode.{Inode}
use Rattle.bx_model.specs.declared.tree.Tree.{Tree}
use Rattle.bx_page.specs.declared.entry.Entry.{Entry}
use Rattle.bx_page.specs.Contents.{value_of}
use Rattle.bx_truth.specs.Chunks.{chunks_of}
use Rattle.bx_truth.specs.Dying.{IsShownDead}
use Rattle.bx_truth.specs.Edits.{ChunkAnew}
use Rattle.bx_truth.specs.Keys.{content_key, content_value}
use Rattle.bx_truth.specs.PageTrees.{Node, PageTree, IsTree, IsPageOf, map_of}
use Rattle.bx_truth.specs.Shown.{KeepsSlots}
use Rattle.bx_truth.specs.Stands.{StandsFor, inode_of}
use Rattle.bx_truth.specs.Stored.{DataOf, HasInode, PageOf}
use Rattle.bx_truth.proofs.Cases.{eq_true, eq_false, same_or}
use Rattle.bx_truth.proofs.Cleaned.{dead_anew, dead_shown}
use Rattle.bx_views.specs.Truths.{Truth, Hints}
use Rattle.bx_blink.specs.Hints.{HintsFit}
use Rattle.bx_chunks.specs.Freeing.{RemovesChunk}
use Rattle.bx_inodes.specs.Fitting.{HintsFitAll, Continues, IsPageUnder}
use Rattle.bx_inodes.proofs.Later.{fit_still}
use Rattle.bx_inodes.specs.Inodes.{HoldsInode}
use Rattle.bx_clean.specs.Cleaning.{Cleans}
use Rattle.bx_clean.proofs.DeadFile.{was, not_its, not_page, none_some, no_root, not_inodes, data_not_inodes, others_stay, itself, this_inode, from_stored, map_same, mine}
use Rattle.bx_clean.proofs.Slots.{removes_keeps, slots_steps}

no_value : (key value : List ℕ) → value_of [] key ≡ Some value → ⊥
no_value key value e = absurd cc

module _ (areas : ℕ) (truth mid now : Truth) (T : Tree) (handle : ℕ) (inode bare : Inode) (tree : PageTree) (block : Block) (few : areas ≤ 64)
    (is : StandsFor areas truth T) (holds : HoldsInode areas truth handle inode) (dead : inode.kind ≡ 0) (at : IsTree (chunks_of areas truth) inode.tree tree)
    (alone : (node : Node) → IsPageOf tree node → node.handle ≡ inode.tree) (empty : map_of tree ≡ [])
    (anew : ChunkAnew (chunks_of areas truth) (chunks_of areas mid) handle block) (has : HasInode bare block) (bare_kind : bare.kind ≡ 0) (bare_tree : bare.tree ≡ 0)
    (first : KeepsSlots areas truth mid) (r : RemovesChunk areas mid now inode.tree) where
  own_root : is.owner inode.tree ≡ PageOf handle
  own_root =
      let top : IsPageOf tree at.top = record { level = tree.height; within = omega arith; there = record { before = []; behind = []; parts = at.root_alone } } in
      ap is.owner (sym at.root_is) ∙ mine areas truth T handle inode is holds dead tree at at.top top

  root_apart : handle ≢ inode.tree
  root_apart e = not_inodes (is.owner handle) handle (ap is.owner e ∙ own_root) (itself areas truth T handle inode is holds dead)

  gone : chunks_of areas now inode.tree ≡ None
  gone = r.chunks inode.tree ∙ ap (λ (t : Bool). if t then None else chunks_of areas mid inode.tree) (eq_true inode.tree inode.tree refl)

  kept : (h : ℕ) → h ≢ inode.tree → chunks_of areas now h ≡ chunks_of areas mid h
  kept h other = r.chunks h ∙ ap (λ (t : Bool). if t then None else chunks_of areas mid h) (eq_false h inode.tree other)

  not_gone : (h : ℕ) (b : Block) → chunks_of areas now h ≡ Some b → h ≢ inode.tree
  not_gone h b some e = none_some b (sym gone ∙ ap (chunks_of areas now) (sym e) ∙ some)

  elsewhere : (h : ℕ) → h ≢ handle → h ≢ inode.tree → chunks_of areas now h ≡ chunks_of areas truth h
  elsewhere h other apart = kept h apart ∙ anew.others h other

  here : chunks_of areas now handle ≡ Some block
  here = kept handle root_apart ∙ anew.here

  slots : KeepsSlots areas truth now
  slots = slots_steps areas truth mid now first (removes_keeps areas mid now inode.tree few first.chunked r)

  shown : IsShownDead (chunks_of areas truth) is.owner handle (is.stored handle)
  shown = dead_shown areas truth T handle is (was areas truth T handle inode is holds dead)

  no_page : (h : ℕ) (b : Block) → chunks_of areas now h ≡ Some b → is.owner h ≡ PageOf handle → ⊥
  no_page h b some page =
      let other : h ≢ handle = λ e. not_inodes (is.owner handle) handle (ap is.owner (sym e) ∙ page) (itself areas truth T handle inode is holds dead) in
      let p = shown.pages h b (sym (elsewhere h other (not_gone h b some)) ∙ some) page in
      not_gone h b some (sym p.names ∙ alone p.node (from_stored areas truth T handle inode is holds dead tree at p.node p.there))

  no_piece : (h index : ℕ) (b : Block) → chunks_of areas now h ≡ Some b → is.owner h ≡ DataOf handle index → ⊥
  no_piece h index b some piece =
      let other : h ≢ handle = λ e. data_not_inodes (is.owner handle) handle index (ap is.owner (sym e) ∙ piece) (itself areas truth T handle inode is holds dead) in
      let p = shown.pieces h index b (sym (elsewhere h other (not_gone h b some)) ∙ some) piece in
      no_value (content_key index) (content_value h)
      (ap (λ (es : List Entry). value_of es (content_key index)) (sym empty ∙ sym (map_same areas truth T handle inode is holds dead tree at)) ∙ p.names)

  shown_now : IsShownDead (chunks_of areas now) is.owner handle (record { inode = bare; tree = tree })
  shown_now = record {
    block = block;
    chunk = here;
    itself = itself areas truth T handle inode is holds dead;
    has = has;
    dead = record { kind = bare_kind; tree = inl bare_tree };
    pages = λ h b some page. absurd (no_page h b some page);
    pieces = λ h index b some piece. absurd (no_piece h index b some piece);
  }

  others : (h : ℕ) → (inode_of h (is.owner h) == handle) ≡ false → chunks_of areas now h ≡ chunks_of areas truth h
  others h test = elsewhere h (not_its areas truth T handle inode is holds dead h test) (λ e. not_page areas truth T handle inode is holds dead h test (ap is.owner e ∙ own_root))

  stands : StandsFor areas now T
  stands = dead_anew areas truth T handle is (was areas truth T handle inode is holds dead) now is.owner (record { inode = bare; tree = tree }) slots
      (others_stay areas truth T handle inode is holds dead now others) shown_now

  -- ---- hints

  holds_now : HoldsInode areas now handle bare
  holds_now = record { block = block; chunk = here; has = has }

  continues : Continues areas truth now
  continues = record { given = slots.given; used = λ h b some given. by h b some (same_or h handle) }
    where
      by : (h : ℕ) (b : Block) → chunks_of areas now h ≡ Some b → (h ≡ handle) ⊎ (h ≢ handle) → (w : Block) × (chunks_of areas truth h ≡ Some w)
      by h b some (inl e) = (holds.block, ap (chunks_of areas truth) e ∙ holds.chunk)
      by h b some (inr other) = (b, sym (elsewhere h other (not_gone h b some)) ∙ some)

  each : (h : ℕ) (b : Block) → chunks_of areas now h ≡ Some b → (chunks_of areas truth h ≡ Some b) ⊎ ((h ≡ handle) ⊎ (IsPageUnder areas now handle h ⊎ (b.kind ≡ 3)))
  each h b some = by (same_or h handle)
    where
      by : (h ≡ handle) ⊎ (h ≢ handle) → (chunks_of areas truth h ≡ Some b) ⊎ ((h ≡ handle) ⊎ (IsPageUnder areas now handle h ⊎ (b.kind ≡ 3)))
      by (inl e) = inr (inl e)
      by (inr other) = inl (sym (elsewhere h other (not_gone h b some)) ∙ some)

  leads : (other : Hints) → HintsFitAll areas other truth → HintsFitAll areas other now
  leads other fit = fit_still areas other truth now T handle stands continues (record { inode = bare; holds = holds_now; each = each }) this fit
    where
      this : (i : Inode) (pages : PageTree) → HoldsInode areas now handle i → IsTree (chunks_of areas now) i.tree pages → HintsFit areas other now i.tree pages
      this i pages h there =
          let root : i.tree ≡ 0 = ap (λ (x : Inode). x.tree) (this_inode areas now T handle bare stands holds_now bare_kind i h) ∙ bare_tree in
          absurd (no_root areas now T stands i.tree pages there root)

  pub tree_freed : Cleans areas truth now T
  tree_freed = record { stands = stands; given = slots.given; leads = leads }
