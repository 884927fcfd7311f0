-- A root that is left with its first entry.
use Rattle.std.proofs.Common.{◌≡◌, ℕ, ◌+◌, ◌<◌, arith, List, [], ◌∷◌, ◌++◌, get_or, length, Option, Some, None, Result, Ok, refl, sym, ap, subst, ◌∙◌, inl, inr}
use Rattle.std.specs.Prelude.{◌≢◌, ◌⊎◌, slice_get}
use Rattle.std.specs.Option.{option_map}
use Rattle.std.proofs.lemmas.List.Elements.{All-cons}
use Rattle.bx_chunks.specs.declared.error.ChunkError.{ChunkError}
use Rattle.bx_layout.specs.declared.block.Block.{Block}
use Rattle.bx_leaves.specs.Changes.{MakesMap}
use Rattle.bx_leaves.specs.Leaves.{PutsPage}
use Rattle.bx_leaves.proofs.Exchanged.{with_page}
use Rattle.bx_leaves.proofs.Members.{in_head}
use Rattle.bx_leaves.proofs.Replaced.{Fits, with_level}
use Rattle.bx_leaves.proofs.Rewritten.{rewritten}
use Rattle.bx_page.specs.declared.entry.Entry.{Entry}
use Rattle.bx_page.specs.Contents.{Contents}
use Rattle.bx_records.specs.Drafts.{Changed, with_block}
use Rattle.bx_truth.specs.Chunks.{block_at, chunks_of}
use Rattle.bx_truth.specs.PageTrees.{Node, PageTree, IsIn, IsInterior, IsLast, IsLevel, IsNode, NamesChild, entries_of, map_of}
use Rattle.bx_truth.proofs.Cases.{same_or}
use Rattle.bx_truth.proofs.Dirs.{keeps_slots}
use Rattle.bx_views.specs.Truths.{Truth, Held, Hints, with_draft}
use Rattle.bx_blink.specs.Hints.{Under}
use Rattle.bx_clean.specs.Shrinking.{ShrinksTree}
use Rattle.bx_clean.proofs.Levels.{level_there, none_below}
use Rattle.bx_clean.specs.Pages.{StripsPage, strip_empty, strip_memory, strips}
use Rattle.bx_clean.proofs.Cuts.{StepIn, no_first, shrinks}
use Rattle.bx_clean.proofs.Firsts.{first_has}
use Rattle.bx_clean.proofs.Freed.{put_anew}

none_some : (block : Block) → ◌≡◌ {A = Option Block} None (Some block) → ⊥
none_some block e = absurd cc

module _ (areas : ℕ) (held : Held) (hints : Hints) (truth : Truth) (root : ℕ) (tree : PageTree) (u : Under areas held hints truth [] root tree) where
  top_level : IsLevel (chunks_of areas truth) tree.height (u.is.top ∷ [])
  top_level = rw u.is.root_alone at (u.is.levels tree.height (omega arith))

  pub top_in : IsIn u.is.top (tree.level tree.height)
  top_in = subst (λ (ns : List Node). IsIn u.is.top ns) (sym u.is.root_alone) (in_head u.is.top [])

  pub top_node : IsNode (chunks_of areas truth) tree.height u.is.top
  top_node = top_level.nodes_are u.is.top (in_head u.is.top [])

  pub top_chunk : chunks_of areas truth root ≡ Some top_node.block
  top_chunk = ap (chunks_of areas truth) (sym u.is.root_is) ∙ top_node.chunk

  pub top_begins : u.is.top.begins ≡ []
  top_begins = (top_level.chain).0

  top_last : IsLast u.is.top.page
  top_last = (top_level.chain).1

  -- a map that stays
  makes_shrinks : (new : List Changed) (m : MakesMap areas held hints truth [] new root tree (map_of tree)) → ShrinksTree areas truth (with_draft truth new) root tree m.after
  makes_shrinks new m = record {
    is = m.under.is;
    map_is = m.map_is;
    back = m.back;
    forth = λ node page some. m.forth node page;
    others = λ h apart. m.others h (λ e. apart m.page m.there (sym e));
    used = λ h b some none. by h b some none (same_or h m.page.handle);
    slots = keeps_slots areas truth (with_draft truth new) (record { chunked = m.under.chunked; own = m.own });
    leads = m.leads;
  }
    where
      by : (h : ℕ) (b : Block) → chunks_of areas (with_draft truth new) h ≡ Some b → chunks_of areas truth h ≡ None → (h ≡ m.page.handle) ⊎ (h ≢ m.page.handle) → ⊥
      by h b some none (inl e) =
          let n = (u.is.levels m.there.level m.there.within).nodes_are m.page m.there.there in
          none_some n.block (sym none ∙ ap (chunks_of areas truth) e ∙ n.chunk)
      by h b some none (inr other) = none_some b (sym none ∙ sym (m.others h other) ∙ some)

  module _ (under : ℕ) (height : tree.height ≡ under + 1) where
    pub inner : IsInterior (tree.level under) u.is.top
    inner = u.is.interior under (omega (arith, height)) u.is.top (subst (λ (l : ℕ). IsIn u.is.top (tree.level l)) height top_in)

    module _ (first : Entry) (new : List Changed) (is : slice_get u.is.top.page.entries 0 ≡ Some first) where
      abbrev left : Contents
      left = record { level = u.is.top.page.level; right = 0; high = None; entries = first ∷ [] }

      interior_now : (below : ℕ) → tree.height ≡ below + 1 → IsInterior (tree.level below) (with_page u.is.top left)
      interior_now below e =
          let same : below ≡ under = omega (arith, e, height) in
          subst (λ (l : ℕ). IsInterior (tree.level l) (with_page u.is.top left)) (sym same) (record {
            first = ap (option_map (λ (x : Entry). x.key)) (sym is) ∙ inner.first;
            names = All-cons (NamesChild (tree.level under)) first [] (first_has (NamesChild (tree.level under)) u.is.top.page.entries first inner.names (sym is)) (λ k d less. elim less [ ]);
          })

      strip_done : 1 < length u.is.top.page.entries → PutsPage [] new root (record { level = u.is.top.page.level; right = 0; high = None; entries = first ∷ [] }) → StepIn areas held hints truth root tree (Ok new)
      strip_done many p =
          let fits : Fits tree tree.height u.is.top left p.block = record {
            has = p.has;
            same_level = refl;
            right = sym top_last.right;
            high = sym top_last.high;
            lowest = rw top_begins (λ k d less. none_below (get_or (first ∷ []) k d).key);
            interior = interior_now;
          } in
          let map_is : map_of (with_level tree tree.height ([] ++ with_page u.is.top left ∷ [])) ≡ map_of tree =
          ap entries_of (level_there tree tree.height 0 ([] ++ with_page u.is.top left ∷ []) (λ e. absurd (omega (arith, e, height)))) in
          let put : new ≡ with_block [] (block_at u.is.top.handle) p.block = p.put ∙ ap (λ (h : ℕ). with_block [] (block_at h) p.block) (sym u.is.root_is) in
          let m = rewritten areas held hints truth [] root tree u tree.height (omega arith) [] u.is.top [] u.is.root_alone left p.block (p.header ∙ sym u.is.root_is) fits (map_of tree) map_is in
          let made : MakesMap areas held hints truth [] new root tree (map_of tree) = subst (λ (d : List Changed). MakesMap areas held hints truth [] d root tree (map_of tree)) (sym put) m in
          let anew = put_anew areas held truth u.few u.same root new top_node.block p.block u.chunked top_chunk p.header p.put in (
            shrinks made.after (makes_shrinks new made),
            inr (record {
              handle = root;
              page = u.is.top.page;
              page_now = left;
              was = record { block = top_node.block; chunk = top_chunk; has = top_node.has };
              is = record { block = p.block; chunk = anew.here; has = p.has };
              many = many;
              one = refl;
              others = anew.others;
            }),
          )

    pub strip_in : 1 < length u.is.top.page.entries → (result : Result (List Changed) ChunkError) → StripsPage root u.is.top.page result → StepIn areas held hints truth root tree result
    strip_in many result (strip_memory e) = subst (StepIn areas held hints truth root tree) (sym e) tt
    strip_in many result (strip_empty none e) = let l = ap length (no_first u.is.top.page.entries none) in absurd (omega (arith, many, l))
    strip_in many result (strips first new is p e) = subst (StepIn areas held hints truth root tree) (sym e) (strip_done first new is many p)
