-- A step at a dead file's tree, for a truth: what it is, and a leaf that loses its first entry.
use Rattle.std.proofs.Common.{◌≡◌, ℕ, arith, false, List, [], ◌∷◌, Option, Some, None, Result, Ok, Err, refl, sym, ap, subst, ◌∙◌}
use Rattle.std.specs.Prelude.{◌≢◌, All, IfSome, slice_get}
use Rattle.bx_chunks.specs.Freeing.{RemovesChunk}
use Rattle.bx_chunks.specs.declared.error.ChunkError.{ChunkError}
use Rattle.bx_layout.specs.declared.block.Block.{Block}
use Rattle.bx_leaves.specs.Changes.{MakesMap}
use Rattle.bx_leaves.proofs.LeafMaps.{removed}
use Rattle.bx_page.specs.declared.entry.Entry.{Entry}
use Rattle.bx_page.specs.Contents.{value_of, without_key}
use Rattle.bx_page.specs.Keys.{is_below, IsBelow}
use Rattle.bx_page.proofs.Order.{same_itself}
use Rattle.bx_records.specs.Drafts.{Changed}
use Rattle.bx_truth.specs.Chunks.{chunks_of}
use Rattle.bx_truth.specs.PageTrees.{Node, PageTree, IsIn, IsNode, handle_in, map_of, map_without}
use Rattle.bx_views.specs.Truths.{Truth, Held, Hints, with_draft}
use Rattle.bx_blink.specs.Hints.{Under}
use Rattle.bx_blink.specs.Places.{IsPlaceOf}
use Rattle.bx_blink.proofs.Places.{value_here}
use Rattle.bx_clean.specs.Shrinking.{ShrinksTree}
use Rattle.bx_clean.specs.Pages.{CutsFirst, cuts, cut_empty, cut_memory}
use Rattle.bx_clean.specs.Falling.{Falls}
use Rattle.bx_clean.proofs.Fallen.{gone_falls}
use Rattle.bx_clean.proofs.Firsts.{first_has}
use Rattle.bx_clean.proofs.Freed.{PutFreedIn, put_freed}
use Rattle.bx_clean.proofs.Found.{IsWant}

-- the value of the first entry's key
first_value : (es : List Entry) (e : Entry) → slice_get es 0 ≡ Some e → value_of es e.key ≡ Some e.value
first_value [] e is = absurd cc
first_value (x ∷ xs) e is = let same : x ≡ e = cc in subst (λ (y : Entry). value_of (x ∷ xs) y.key ≡ Some y.value) same (rw (same_itself x.key) refl)

pub no_first : (es : List Entry) → slice_get es 0 ≡ None → es ≡ []
no_first [] none = refl
no_first (x ∷ xs) none = absurd cc

kinds : (a b : Block) → a ≡ b → a.kind ≡ 2 → b.kind ≡ 3 → ⊥
kinds a b same two three = let e = ap (λ (x : Block). x.kind) same in absurd (omega (arith, e, two, three))

some_same : (a b : Block) → Some a ≡ Some b → a ≡ b
some_same a b e = cc

module _ (areas : ℕ) (held : Held) (hints : Hints) (truth : Truth) (root : ℕ) (tree : PageTree) where
  -- an entry is taken out of the tree, and the slot of the piece that it names is freed
  pub record CutsEntry (new : List Changed) : Type 0 where
    pub key : List ℕ
    pub value : List ℕ
    pub mid : List Changed
    pub found : value_of (map_of tree) key ≡ Some value
    pub makes : MakesMap areas held hints truth [] mid root tree (map_without (map_of tree) key)
    pub removes : RemovesChunk areas (with_draft truth mid) (with_draft truth new) (handle_in value)

  pub data TreeStep (new : List Changed) : Type 0 where
    shrinks : (after : PageTree) → ShrinksTree areas truth (with_draft truth new) root tree after → TreeStep new
    cuts_entry : CutsEntry new → TreeStep new

  abbrev pub StepIn : Result (List Changed) ChunkError → Type 0
  StepIn (Ok new) = TreeStep new × Falls areas truth (with_draft truth new)
  StepIn (Err error) = IsWant error

  -- each entry names a piece
  abbrev pub NamesPieces : Type 0
  NamesPieces = (key value : List ℕ) → value_of (map_of tree) key ≡ Some value → (b : Block) × (chunks_of areas truth (handle_in value) ≡ Some b) × (b.kind ≡ 3)

  module _ (u : Under areas held hints truth [] root tree) (pieces : NamesPieces) (node : Node) (there : IsIn node (tree.level 0)) where
    node_is : IsNode (chunks_of areas truth) 0 node
    node_is = (u.is.levels 0 (omega arith)).nodes_are node there

    module _ (first : Entry) (is : slice_get node.page.entries 0 ≡ Some first) where
      within_high : (o : Option (List ℕ)) → IfSome o (λ high. All (λ e. IsBelow e.key high) node.page.entries) → IfSome o (IsBelow first.key)
      within_high None all = tt
      within_high (Some high) all = first_has (λ (e : Entry). IsBelow e.key high) node.page.entries first all (sym is)

      place : IsPlaceOf tree 0 first.key node.handle node.page
      place = record {
        node = node;
        within = omega arith;
        there = there;
        handle_is = refl;
        page_is = refl;
        from = first_has (λ (e : Entry). is_below e.key node.begins ≡ false) node.page.entries first node_is.lowest (sym is);
        to = within_high node.page.high node_is.has.spells.is.below;
      }

      found : value_of (map_of tree) first.key ≡ Some first.value
      found = value_here (chunks_of areas truth) root tree first.key node.handle node.page u.is place ∙ first_value node.page.entries first is

      apart : node.handle ≢ handle_in first.value
      apart e =
          let p = pieces first.key first.value found in
          kinds node_is.block p.0 (some_same node_is.block p.0 (sym node_is.chunk ∙ ap (chunks_of areas truth) e ∙ p.1)) node_is.has.kind p.2

      cut_done : (result : Result (List Changed) ChunkError) → PutFreedIn areas held truth u.few u.same node.handle (without_key node.page first.key) (handle_in first.value) result → StepIn result
      cut_done (Err error) want = want
      cut_done (Ok new) f = (
        cuts_entry (record {
          key = first.key;
          value = first.value;
          mid = f.mid;
          found = found;
          makes = subst (λ (d : List Changed). MakesMap areas held hints truth [] d root tree (map_without (map_of tree) first.key)) (sym f.puts.put)
              (removed areas held hints truth [] root tree u first.key node.handle node.page place f.puts.block f.puts.header f.puts.has);
          removes = f.removes;
        }),
        gone_falls areas truth (with_draft truth new) node.handle (handle_in first.value) f.puts.block node_is.block (pieces first.key first.value found).0 node_is.chunk (pieces first.key first.value found).1 f.chunks,
      )

    pub cut_in : node.page.entries ≢ [] → (result : Result (List Changed) ChunkError) → CutsFirst held areas node.handle node.page result → StepIn result
    cut_in some result (cut_memory e) = subst StepIn (sym e) tt
    cut_in some result (cut_empty none e) = absurd (some (no_first node.page.entries none))
    cut_in some result (cuts first is p) =
        let piece = pieces first.key first.value (found first is) in
        cut_done first is result
        (put_freed areas held truth u.few u.same node.handle (without_key node.page first.key) (handle_in first.value) node_is.block piece.0 u.chunked node_is.chunk piece.1 (apart first is) result p)
