-- The leaf of a key is rewritten with another list of entries: what becomes of the map.
use Rattle.std.proofs.Common.{◌≡◌, ℕ, false, List, ◌∷◌, ◌++◌, sym, ap, subst, ◌∙◌, arith}
use Rattle.std.specs.Prelude.{All}
use Rattle.std.proofs.lemmas.List.{append_assoc}
use Rattle.std.proofs.lemmas.List.Elements.{All-append, All-cons, All-filter}
use Rattle.bx_layout.specs.declared.block.Block.{Block}
use Rattle.bx_records.specs.Drafts.{Changed, with_block}
use Rattle.bx_page.specs.declared.entry.Entry.{Entry}
use Rattle.bx_page.specs.Keys.{is_below}
use Rattle.bx_page.specs.Contents.{Contents, below, above, with_entry, with_value, without_key}
use Rattle.bx_blink.specs.bx_truth.specs.Chunks.{block_at, chunks_of}
use Rattle.bx_blink.specs.bx_truth.specs.PageTrees.{HasPage, PageTree, entries_of, map_of, map_without}
use Rattle.bx_blink.specs.bx_views.specs.Truths.{Truth, Held, Hints, with_draft}
use Rattle.bx_blink.specs.Hints.{Under}
use Rattle.bx_blink.specs.Places.{IsPlaceOf}
use Rattle.bx_blink.proofs.Chains.{entries_at}
use Rattle.bx_blink.proofs.Entries.{Surrounds, below_within, above_within}
use Rattle.bx_blink.proofs.Places.{within}
use Rattle.bx_leaves.specs.Changes.{MakesMap}
use Rattle.bx_leaves.proofs.Exchanged.{with_page}
use Rattle.bx_leaves.proofs.Replaced.{Fits}
use Rattle.bx_leaves.proofs.Rewritten.{rewritten}

-- the entry in all of them is the entry in those in the middle
with_within : (key value : List ℕ) (front es back : List Entry) → Surrounds key front back → front ++ (with_entry es key value ++ back) ≡ with_entry (front ++ (es ++ back)) key value
with_within key value front es back s =
    let entry : Entry = record { key = key; value = value } in
    let low : List Entry = below es key in
    let high : List Entry = above es key in
    ap (λ (xs : List Entry). front ++ xs) (append_assoc low (entry ∷ high) back)
    ∙ sym (append_assoc front low (entry ∷ (high ++ back)))
    ∙ ap (λ (xs : List Entry). xs ++ entry ∷ (high ++ back)) (sym (below_within key front es back s))
    ∙ ap (λ (xs : List Entry). below (front ++ (es ++ back)) key ++ entry ∷ xs) (sym (above_within key front es back s))

without_within : (key : List ℕ) (front es back : List Entry) → Surrounds key front back → front ++ (map_without es key ++ back) ≡ map_without (front ++ (es ++ back)) key
without_within key front es back s =
    ap (λ (xs : List Entry). front ++ xs) (append_assoc (below es key) (above es key) back)
    ∙ sym (append_assoc front (below es key) (above es key ++ back))
    ∙ ap (λ (xs : List Entry). xs ++ (above es key ++ back)) (sym (below_within key front es back s))
    ∙ ap (λ (xs : List Entry). below (front ++ (es ++ back)) key ++ xs) (sym (above_within key front es back s))

module _ (areas : ℕ) (held : Held) (hints : Hints) (truth : Truth) (old : List Changed) (root : ℕ) (tree : PageTree) (u : Under areas held hints truth old root tree)
    (key : List ℕ) (handle : ℕ) (page : Contents) (p : IsPlaceOf tree 0 key handle page) where
  abbrev P : Entry → Type 0
  P = λ entry. is_below entry.key (p.node).begins ≡ false

  lowest : All (λ (entry : Entry). is_below entry.key (p.node).begins ≡ false) page.entries
  lowest = subst (λ (c : Contents). All (λ (entry : Entry). is_below entry.key (p.node).begins ≡ false) c.entries) p.page_is (((u.is).levels 0 p.within).nodes_are p.node p.there).lowest

  -- another list of entries, which makes another map of those around
  anew : (entries : List Entry) (F : List Entry → List Entry) (block : Block) → All (λ (entry : Entry). is_below entry.key (p.node).begins ≡ false) entries
      → ((front back : List Entry) → Surrounds key front back → front ++ (entries ++ back) ≡ F (front ++ (page.entries ++ back)))
      → block.handle ≡ handle → HasPage (record page { entries = entries }) block
      → MakesMap areas held hints truth old (with_block old (block_at handle) block) root tree (F (map_of tree))
  anew entries F block low around header has =
      let q : Contents = record page { entries = entries } in
      let i = p.there in
      let w = within (chunks_of areas (with_draft truth old)) root tree 0 key handle page u.is p in
      let fits : Fits tree 0 p.node q block = record {
        has = has;
        same_level = ap (λ (c : Contents). c.level) (sym p.page_is);
        right = ap (λ (c : Contents). c.right) (sym p.page_is);
        high = ap (λ (c : Contents). c.high) (sym p.page_is);
        lowest = low;
        interior = λ under e. absurd (omega (arith, e));
      } in
      let map_is =
      entries_at i.before (with_page p.node q) i.behind
      ∙ ap (λ (es : List Entry). es ++ (entries ++ entries_of i.behind)) (sym w.front_is)
      ∙ ap (λ (es : List Entry). w.front ++ (entries ++ es)) (sym w.back_is)
      ∙ around w.front w.back w.around
      ∙ ap F (sym w.parts) in
      subst (λ (h : ℕ). MakesMap areas held hints truth old (with_block old (block_at h) block) root tree (F (map_of tree))) p.handle_is
      (rewritten areas held hints truth old root tree u 0 p.within i.before p.node i.behind i.parts q block (header ∙ sym p.handle_is) fits (F (map_of tree)) map_is)

  pub inserted : (value : List ℕ) (block : Block) → block.handle ≡ handle → HasPage (with_value page key value) block
      → MakesMap areas held hints truth old (with_block old (block_at handle) block) root tree (with_entry (map_of tree) key value)
  inserted value block header has =
      let entry : Entry = record { key = key; value = value } in
      anew (with_entry page.entries key value) (λ es. with_entry es key value) block
      (All-append P (below page.entries key) (entry ∷ above page.entries key) (All-filter (λ e. is_below e.key key) P page.entries lowest)
      (All-cons P entry (above page.entries key) p.from (All-filter (λ e. is_below key e.key) P page.entries lowest)))
      (λ front back s. with_within key value front page.entries back s) header has

  pub removed : (block : Block) → block.handle ≡ handle → HasPage (without_key page key) block
      → MakesMap areas held hints truth old (with_block old (block_at handle) block) root tree (map_without (map_of tree) key)
  removed block header has =
      anew (map_without page.entries key) (λ es. map_without es key) block
      (All-append P (below page.entries key) (above page.entries key) (All-filter (λ e. is_below e.key key) P page.entries lowest) (All-filter (λ e. is_below key e.key) P page.entries lowest))
      (λ front back s. without_within key front page.entries back s) header has
