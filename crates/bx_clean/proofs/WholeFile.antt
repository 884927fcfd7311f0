-- A step at a dead file, for a truth.
use Rattle.std.proofs.Common.{◌≡◌, ℕ, ◌<◌, ◌≤◌, arith, false, List, [], ◌∷◌, ◌++◌, length, Option, Some, None, Result, Ok, Err, refl, sym, ap, subst, ◌∙◌, inl, inr}
use Rattle.std.specs.Prelude.{◌≢◌, ◌⊎◌}
use Rattle.bx_chunks.specs.Freeing.{own_at}
use Rattle.bx_chunks.specs.Marking.{Marks, MarksAt, MarksIn}
use Rattle.bx_chunks.specs.Putting.{own_of}
use Rattle.bx_chunks.specs.declared.error.ChunkError.{ChunkError}
use Rattle.bx_chunks.specs.declared.error.ChunkError.TheVariants.{Need, Stale, Full, OutOfMemory, Crowded}
use Rattle.bx_chunks.proofs.Marks.{marks_in}
use Rattle.bx_places.specs.Handles.{parts_of}
use Rattle.bx_layout.specs.declared.block.Block.{Block}
use Rattle.bx_layout.specs.declared.inode.Inode.{Inode}
use Rattle.bx_leaves.proofs.Members.{in_cases, in_none}
use Rattle.bx_model.specs.declared.tree.Tree.{Tree}
use Rattle.bx_page.specs.declared.entry.Entry.{Entry}
use Rattle.bx_page.specs.Contents.{Contents}
use Rattle.bx_records.specs.Drafts.{Changed}
use Rattle.bx_truth.specs.Chunks.{chunks_of}
use Rattle.bx_truth.specs.Dying.{IsDeadFile, IsShownDead}
use Rattle.bx_truth.specs.Edits.{ChunkAnew}
use Rattle.bx_truth.specs.PageTrees.{IsIn, IsPageOf, IsTree, Node, PageTree, entries_of, handle_in, map_of}
use Rattle.bx_truth.specs.Shown.{KeepsSlots}
use Rattle.bx_truth.specs.Stands.{StandsFor}
use Rattle.bx_truth.specs.Stored.{HasContents, HasTree}
use Rattle.bx_truth.proofs.Cleaned.{dead_shown}
use Rattle.bx_truth.proofs.Frames.{handle_back}
use Rattle.bx_truth.proofs.Same.{chunk_is}
use Rattle.bx_views.specs.Truths.{Truth, Held, Hints, IsTruth, with_draft}
use Rattle.bx_blink.specs.Hints.{Under}
use Rattle.bx_inodes.specs.Fitting.{HintsFitAll}
use Rattle.bx_inodes.proofs.Pages.{inode_is}
use Rattle.bx_inodes.specs.Inodes.{HoldsInode}
use Rattle.bx_clean.specs.Cleaning.{Cleans}
use Rattle.bx_clean.proofs.Bare.{tree_freed}
use Rattle.bx_clean.proofs.DeadFile.{contents, itself, mine, not_inodes}
use Rattle.bx_clean.proofs.DeadPiece.{piece_freed}
use Rattle.bx_clean.proofs.DeadTree.{dead_shrinks}
use Rattle.bx_clean.proofs.Gone.{file_freed}
use Rattle.bx_clean.specs.Held.{HoldsDead, HoldsPage}
use Rattle.bx_clean.specs.Pages.{CutsFirst}
use Rattle.bx_clean.specs.Trees.{CleansFile, CleansTree, FreesFile, FreesTree, ShrinksAbove, bare_inode, cuts_root, ends, frees_file, frees_tree, no_inode, no_page, no_room, shrinks, unmarked, with_tree, without_tree}
use Rattle.bx_clean.proofs.Cuts.{NamesPieces, StepIn, cuts_entry, shrinks as shrinks_tree}
use Rattle.bx_clean.specs.Falling.{Falls}
use Rattle.bx_clean.proofs.Fallen.{alone_falls, gone_falls, then_gone}
use Rattle.bx_clean.proofs.Found.{IsWant, dead_err, dead_holds}
use Rattle.bx_clean.proofs.Freed.{FreedIn, freed_in, one_more, put_anew, put_keeps, short, within}
use Rattle.bx_clean.proofs.Stripped.{top_chunk, top_node}
use Rattle.bx_clean.proofs.WholeTree.{above_in, leaf_height, leaf_in, root_err, root_is}

none_some : (block : Block) → ◌≡◌ {A = Option Block} None (Some block) → ⊥
none_some block e = absurd cc

module _ (areas : ℕ) (held : Held) (hints : Hints) (truth : Truth) (T : Tree) (handle : ℕ) (few : areas ≤ 64) (same : IsTruth held truth) (is : StandsFor areas truth T)
    (fit : HintsFitAll areas hints truth) (was : IsDeadFile areas truth T is handle) where
  abbrev pub CleansIn : Result (List Changed) ChunkError → Type 0
  CleansIn (Ok new) = Cleans areas truth (with_draft truth new) T × Falls areas truth (with_draft truth new)
  CleansIn (Err error) = IsWant error

  shown : IsShownDead (chunks_of areas truth) is.owner handle (is.stored handle)
  shown = dead_shown areas truth T handle is was

  module _ (inode : Inode) (h : HoldsDead held areas handle inode) where
    holds : HoldsInode areas truth handle inode
    holds = dead_holds areas held truth handle shown.block same is.chunked shown.chunk inode h

    slot_in : (parts_of handle).area < areas
    slot_in = within areas handle (chunk_is areas truth handle shown.block shown.chunk).slot

    marked : (new : List Changed) (r : Result Unit ChunkError) → MarksAt held [] new handle false r → MarksIn areas truth [] new handle false r
    marked new r m = marks_in areas held truth [] handle slot_in same is.chunked false new r m

    unmarked_in : (error : ChunkError) → MarksAt held [] [] handle false (Err error) → IsWant error
    unmarked_in (Need at mode) m = tt
    unmarked_in OutOfMemory m = tt
    unmarked_in Stale m = none_some shown.block (sym (marked [] (Err Stale) m) ∙ shown.chunk)
    unmarked_in Crowded m =
        let n = m.no_room in
        let l = one_more [] (own_at handle) (own_of (parts_of handle).area m.marked.slots_now) in
        absurd (omega (arith, n, l))
    unmarked_in (Full spare) m = m

    -- the inode itself goes
    file_in : inode.tree ≡ 0 → (result : Result (List Changed) ChunkError) → FreesFile held areas handle result → CleansIn result
    file_in bare result (unmarked error m e) = subst CleansIn (sym e) (unmarked_in error m)
    file_in bare result (frees_file mid m f) = by result (freed_in areas held truth few same mid handle shown.block length_is marks.marks.chunked (marks.chunks handle ∙ shown.chunk) result f)
      where
        marks : Marks areas truth (with_draft truth mid) handle false
        marks = marked mid (Ok tt) m

        length_is : length mid ≤ 1
        length_is = let l = one_more [] (own_at handle) (own_of (parts_of handle).area m.marked.slots_now) in let e = ap length m.now in omega (arith, l, e)

        by : (r : Result (List Changed) ChunkError) → FreedIn areas held truth few same mid handle r → CleansIn r
        by (Err error) want = want
        by (Ok new) r = (
          file_freed areas truth (with_draft truth mid) (with_draft truth new) T handle inode few is holds h.dead bare marks r,
          alone_falls areas truth (with_draft truth mid) (with_draft truth new) handle shown.block shown.chunk marks.chunks r,
        )

    -- its tree
    module _ (some : inode.tree ≢ 0) where
      abbrev pages : PageTree
      pages = (is.stored handle).tree

      at : IsTree (chunks_of areas truth) inode.tree (is.stored handle).tree
      at = by shown.dead.tree
        where
          root : (is.stored handle).inode.tree ≡ inode.tree
          root = ap (λ (i : Inode). i.tree) (inode_is areas truth T is handle inode holds)

          by : ((is.stored handle).inode.tree ≡ 0) ⊎ (HasTree (chunks_of areas truth) is.owner handle (is.stored handle) × HasContents (chunks_of areas truth) is.owner handle (is.stored handle))
              → IsTree (chunks_of areas truth) inode.tree (is.stored handle).tree
          by (inl zero) = absurd (some (sym root ∙ zero))
          by (inr both) = subst (λ (n : ℕ). IsTree (chunks_of areas truth) n (is.stored handle).tree) root both.0.is

      u : Under areas held hints truth [] inode.tree (is.stored handle).tree
      u = record { few = few; same = same; chunked = is.chunked; is = at; hints = fit.each handle inode (is.stored handle).tree holds at }

      pieces : NamesPieces areas held hints truth inode.tree (is.stored handle).tree
      pieces key value found =
          let c = contents areas truth T handle inode is holds h.dead (is.stored handle).tree at key value found in
          (c.block, ap (chunks_of areas truth) (ap handle_in c.value_is ∙ handle_back c.names c.names_fits) ∙ c.chunk, c.kind)

      step_done : (result : Result (List Changed) ChunkError) → StepIn areas held hints truth inode.tree (is.stored handle).tree result → CleansIn result
      step_done (Err error) want = want
      step_done (Ok new) (shrinks_tree after s, less) = (dead_shrinks areas truth (with_draft truth new) T handle inode (is.stored handle).tree after is holds h.dead at s, less)
      step_done (Ok new) (cuts_entry c, less) = (piece_freed areas held hints truth c.mid new T handle inode (is.stored handle).tree c.key c.value few is holds h.dead at c.found c.makes c.removes, less)

      page_is : (page : Contents) → HoldsPage held areas inode.tree page → page ≡ u.is.top.page
      page_is page p = root_is areas held hints truth inode.tree (is.stored handle).tree u pieces page p

      -- the tree goes, which is one page without entries
      module _ (l : u.is.top.page.level ≡ 0) (none : u.is.top.page.entries ≡ []) where
        level_alone : (is.stored handle).tree.level 0 ≡ u.is.top ∷ []
        level_alone = subst (λ (n : ℕ). (is.stored handle).tree.level n ≡ u.is.top ∷ []) (leaf_height areas held hints truth inode.tree (is.stored handle).tree u pieces l) u.is.root_alone

        alone : (node : Node) → IsPageOf (is.stored handle).tree node → node.handle ≡ inode.tree
        alone node p =
            let height = leaf_height areas held hints truth inode.tree (is.stored handle).tree u pieces l in
            let low : p.level ≡ 0 = let w = p.within in omega (arith, w, height) in
            elim (in_cases node u.is.top [] (subst (λ (ns : List Node). IsIn node ns) (ap (is.stored handle).tree.level low ∙ level_alone) p.there)) [
              | inl e ↦ ap (λ (n : Node). n.handle) e ∙ u.is.root_is
              | inr j ↦ absurd (in_none node j)
            ]

        empty_map : map_of (is.stored handle).tree ≡ []
        empty_map = ap entries_of level_alone ∙ ap (λ (es : List Entry). es ++ []) none

        root_apart : handle ≢ inode.tree
        root_apart e =
            let top : IsPageOf (is.stored handle).tree u.is.top = record { level = (is.stored handle).tree.height; within = omega arith; there = record { before = []; behind = []; parts = u.is.root_alone } } in
            not_inodes (is.owner handle) handle (ap is.owner (e ∙ sym u.is.root_is) ∙ mine areas truth T handle inode is holds h.dead (is.stored handle).tree at u.is.top top)
            (itself areas truth T handle inode is holds h.dead)

        bare_in : (result : Result (List Changed) ChunkError) → FreesTree held areas handle inode result → CleansIn result
        bare_in result (no_room e) = subst CleansIn (sym e) tt
        bare_in result (frees_tree mid p f) = by result (freed_in areas held truth few same mid inode.tree (top_node areas held hints truth inode.tree (is.stored handle).tree u).block
            (short areas held truth few same handle mid shown.block p.block is.chunked shown.chunk p.is.header p.put) keeps.chunked still result f)
          where
            keeps : KeepsSlots areas truth (with_draft truth mid)
            keeps = put_keeps areas held truth few same handle mid shown.block p.block is.chunked shown.chunk p.is.header p.put

            anew : ChunkAnew (chunks_of areas truth) (chunks_of areas (with_draft truth mid)) handle p.block
            anew = put_anew areas held truth few same handle mid shown.block p.block is.chunked shown.chunk p.is.header p.put

            still : chunks_of areas (with_draft truth mid) inode.tree ≡ Some (top_node areas held hints truth inode.tree (is.stored handle).tree u).block
            still = anew.others inode.tree (λ e. root_apart (sym e)) ∙ top_chunk areas held hints truth inode.tree (is.stored handle).tree u

            by : (r : Result (List Changed) ChunkError) → FreedIn areas held truth few same mid inode.tree r → CleansIn r
            by (Err error) want = want
            by (Ok new) r = (
              tree_freed areas truth (with_draft truth mid) (with_draft truth new) T handle inode (bare_inode inode) (is.stored handle).tree p.block few is holds h.dead at
                  alone empty_map anew p.is.has h.dead refl keeps r,
              gone_falls areas truth (with_draft truth new) handle inode.tree p.block shown.block (top_node areas held hints truth inode.tree (is.stored handle).tree u).block shown.chunk
                  (top_chunk areas held hints truth inode.tree (is.stored handle).tree u) (then_gone areas truth (with_draft truth mid) (with_draft truth new) handle inode.tree p.block root_apart anew r),
            )

      tree_in : (result : Result (List Changed) ChunkError) → CleansTree held areas handle inode result → CleansIn result
      tree_in result (no_page error f e) = subst CleansIn (sym e) (root_err areas held hints truth inode.tree (is.stored handle).tree u pieces error f)
      tree_in result (shrinks page p more s) =
          let e = page_is page p in
          step_done result (above_in areas held hints truth inode.tree (is.stored handle).tree u pieces (subst (λ (c : Contents). 0 < c.level) e more) result
          (subst (λ (c : Contents). ShrinksAbove held areas inode.tree c result) e s))
      tree_in result (cuts_root page p l entries s) =
          let e = page_is page p in
          step_done result (leaf_in areas held hints truth inode.tree (is.stored handle).tree u pieces (subst (λ (c : Contents). c.level ≡ 0) e l) (subst (λ (c : Contents). c.entries ≢ []) e entries) result
          (subst (λ (c : Contents). CutsFirst held areas inode.tree c result) e s))
      tree_in result (ends page p l none s) =
          let e = page_is page p in
          bare_in (subst (λ (c : Contents). c.level ≡ 0) e l) (subst (λ (c : Contents). c.entries ≡ []) e none) result s

  pub cleans_in : (result : Result (List Changed) ChunkError) → CleansFile held areas handle result → CleansIn result
  cleans_in result (no_inode error f e) = subst CleansIn (sym e)
      (dead_err areas held truth handle shown.block same is.chunked shown.chunk (is.stored handle).inode (record { block = shown.block; chunk = shown.chunk; has = shown.has }) was.kind error f)
  cleans_in result (without_tree inode h zero s) = file_in inode h zero result s
  cleans_in result (with_tree inode h some s) = tree_in inode h some result s
