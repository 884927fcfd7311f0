-- A page of a tree, by itself, is cut in two.
use Rattle.std.proofs.Common.{◌≡◌, ℕ, ◌<◌, ◌≤◌, List, [], length, sym, ap, subst, ◌∙◌, arith, inl, inr}
use Rattle.std.specs.Prelude.{◌≢◌, ◌⊎◌}
use Rattle.std.proofs.lemmas.Bool.{cases_lt}
use Rattle.bx_layout.specs.declared.area.AreaBlock.{AreaBlock}
use Rattle.bx_records.specs.Drafts.{Changed, with_block}
use Rattle.bx_page.specs.declared.entry.Entry.{Entry}
use Rattle.bx_page.specs.Contents.{first_half, other_half}
use Rattle.bx_truth.specs.Chunks.{IsSlot, block_at, chunks_of}
use Rattle.bx_truth.specs.PageTrees.{Chunks, Node, IsIn, PageTree, IsTree, IsPageOf}
use Rattle.bx_truth.specs.Slots.{TakesSlot}
use Rattle.bx_views.specs.Truths.{Truth, Held, Hints, with_draft}
use Rattle.bx_blink.specs.Hints.{Under}
use Rattle.bx_blink.proofs.Handles.{alone}
use Rattle.bx_leaves.specs.Leaves.{PutsPage}
use Rattle.bx_splits.specs.Splits.{GrowsTree}
use Rattle.bx_splits.proofs.CutUnder.{page_halved}
use Rattle.bx_splits.proofs.Grown.{grows}
use Rattle.bx_splits.proofs.Halved.{GrowsHalves}
use Rattle.bx_splits.proofs.Middles.{middle, is_middle}

-- a page that isn't the root is below the root's level
pub not_top : (chunks : Chunks) (root : ℕ) (tree : PageTree) (node : Node) → IsTree chunks root tree → (i : IsPageOf tree node) → node.handle ≢ root → i.level < tree.height
not_top chunks root tree node is i other = by_level (cases_lt i.level tree.height)
  where
    by_level : (i.level < tree.height) ⊎ (tree.height ≤ i.level) → i.level < tree.height
    by_level (inl lt) = lt
    by_level (inr ge) =
        let same : i.level ≡ tree.height = (let w = i.within in omega (arith, w, ge)) in
        let at_top : node ≡ is.top = alone node is.top (subst (λ (ns : List Node). IsIn node ns) (ap tree.level same ∙ is.root_alone) i.there) in
        absurd (other (ap (λ (n : Node). n.handle) at_top ∙ is.root_is))

module _ (areas : ℕ) (held : Held) (hints : Hints) (truth : Truth) (old one two new : List Changed) (root : ℕ) (tree : PageTree) (node : Node) (block : ℕ) (slots : AreaBlock)
    (u : Under areas held hints truth old root tree) (i : IsPageOf tree node) (other : node.handle ≢ root) (more : 2 ≤ length node.page.entries)
    (slot : IsSlot areas block) (takes : TakesSlot (with_draft truth old) (with_draft truth one) block slots)
    (p : PutsPage one two (with_draft truth one block).handle (other_half node.page)) (q : PutsPage two new node.handle (first_half node.page (with_draft truth one block).handle)) where
  abbrev right : ℕ
  right = (with_draft truth one block).handle

  none : Entry
  none = record { key = []; value = [] }

  put : new ≡ with_block (with_block one (block_at (with_draft truth one block).handle) p.block) (block_at node.handle) q.block
  put = q.put ∙ ap (λ (d : List Changed). with_block d (block_at node.handle) q.block) p.put

  pub law_halves : GrowsHalves areas held hints truth old new root tree node.handle (λ handle. handle ≡ (with_draft truth one block).handle) node.page node.handle (with_draft truth one block).handle
  law_halves =
      let lt = not_top (chunks_of areas (with_draft truth old)) root tree node u.is i other in
      let n = ((u.is).levels i.level i.within).nodes_are node i.there in
      subst (λ (d : List Changed). GrowsHalves areas held hints truth old d root tree node.handle (λ handle. handle ≡ right) node.page node.handle right) (sym put)
      (page_halved areas held hints truth old one root tree u i.level lt (i.there).before node (i.there).behind (i.there).parts right (middle node right ((n.has).spells).is more n.lowest none)
      (is_middle node right ((n.has).spells).is more n.lowest none)
      (grows areas u.few (with_draft truth old) (with_draft truth one) block slots slot takes u.chunked) q.block p.block q.header p.header q.has p.has)

  pub law_cut : GrowsTree areas held hints truth old new root tree node.handle (λ handle. handle ≡ (with_draft truth one block).handle)
  law_cut = law_halves.grows
