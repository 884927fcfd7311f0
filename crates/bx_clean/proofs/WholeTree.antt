-- A step at a dead file's tree, for a truth.
use Rattle.std.proofs.Common.{◌≡◌, ℕ, ◌-◌, ◌+◌, ◌<◌, arith, List, [], Result, Err, sym, subst}
use Rattle.std.specs.Prelude.{◌≢◌}
use Rattle.bx_chunks.specs.declared.error.ChunkError.{ChunkError}
use Rattle.bx_page.specs.Contents.{Contents}
use Rattle.bx_records.specs.Drafts.{Changed}
use Rattle.bx_truth.specs.PageTrees.{IsIn, PageTree}
use Rattle.bx_views.specs.Truths.{Truth, Held, Hints}
use Rattle.bx_blink.specs.Hints.{Under}
use Rattle.bx_clean.specs.Held.{HoldsPage, PageAt}
use Rattle.bx_clean.specs.Pages.{CutsFirst}
use Rattle.bx_clean.specs.Trees.{ShrinksAbove, empty, many, single, unread}
use Rattle.bx_clean.proofs.Below.{below_in, child_err, none_first}
use Rattle.bx_clean.proofs.Cuts.{NamesPieces, StepIn, cut_in}
use Rattle.bx_clean.proofs.Found.{IsWant, page_err, page_is}
use Rattle.bx_clean.proofs.Stripped.{inner, strip_in, top_chunk, top_in, top_node}

module _ (areas : ℕ) (held : Held) (hints : Hints) (truth : Truth) (root : ℕ) (tree : PageTree) (u : Under areas held hints truth [] root tree) (pieces : NamesPieces areas held hints truth root tree) where
  pub root_is : (page : Contents) → HoldsPage held areas root page → page ≡ u.is.top.page
  root_is page h = page_is areas held truth root (top_node areas held hints truth root tree u).block u.same u.chunked (top_chunk areas held hints truth root tree u) u.is.top.page page (top_node areas held hints truth root tree u).has h

  pub root_err : (error : ChunkError) → PageAt held areas root (Err error) → IsWant error
  root_err error f = page_err areas held truth root (top_node areas held hints truth root tree u).block u.same u.chunked (top_chunk areas held hints truth root tree u) u.is.top.page (top_node areas held hints truth root tree u).has error f

  level_is : u.is.top.page.level ≡ tree.height
  level_is = (top_node areas held hints truth root tree u).same_level

  pub above_in : 0 < u.is.top.page.level → (result : Result (List Changed) ChunkError) → ShrinksAbove held areas root u.is.top.page result → StepIn areas held hints truth root tree result
  above_in more result s = by s
    where
      height : tree.height ≡ (tree.height - 1) + 1
      height = omega (arith, more, level_is)

      by : ShrinksAbove held areas root u.is.top.page result → StepIn areas held hints truth root tree result
      by (many some p) = strip_in areas held hints truth root tree u (tree.height - 1) height some result p
      by (empty none e) = absurd (none_first u.is.top.page.entries u.is.top.begins (inner areas held hints truth root tree u (tree.height - 1) height).first none)
      by (unread first error short is f e) =
          subst (StepIn areas held hints truth root tree) (sym e) (child_err areas held hints truth root tree u pieces (tree.height - 1) height first short is error f)
      by (single first below short is h t) = below_in areas held hints truth root tree u pieces (tree.height - 1) height first short is below result h t

  -- a root that is a leaf
  pub leaf_height : u.is.top.page.level ≡ 0 → tree.height ≡ 0
  leaf_height l = omega (arith, l, level_is)

  pub leaf_in : u.is.top.page.level ≡ 0 → u.is.top.page.entries ≢ [] → (result : Result (List Changed) ChunkError) → CutsFirst held areas root u.is.top.page result → StepIn areas held hints truth root tree result
  leaf_in l some result p =
      cut_in areas held hints truth root tree u pieces u.is.top (subst (λ (n : ℕ). IsIn u.is.top (tree.level n)) (leaf_height l) (top_in areas held hints truth root tree u)) some result
      (subst (λ (h : ℕ). CutsFirst held areas h u.is.top.page result) (sym u.is.root_is) p)
