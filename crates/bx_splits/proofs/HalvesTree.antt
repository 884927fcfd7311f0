-- What putting the halves of a page does to a tree.
use Rattle.std.proofs.Common.{◌≡◌, ℕ, ◌≤◌, List, length, Some, sym, ap, subst, ◌∙◌, arith, inl, inr}
use Rattle.std.specs.Prelude.{Ok, Err, ◌⊎◌, ◌≢◌}
use Rattle.bx_layout.specs.declared.block.Block.{Block}
use Rattle.bx_records.specs.Drafts.{Changed}
use Rattle.bx_page.specs.Contents.{Contents, first_half, other_half}
use Rattle.bx_truth.specs.Chunks.{IsChunked, chunks_of}
use Rattle.bx_truth.specs.PageTrees.{IsNode, Node, PageTree, IsPageOf}
use Rattle.bx_views.specs.Truths.{Truth, Held, Hints, with_draft}
use Rattle.bx_chunks.specs.declared.error.ChunkError.TheVariants.{Full as ChunkFull}
use Rattle.bx_chunks.specs.Allocating.{AddsChunk, AllocatesAt}
use Rattle.bx_chunks.specs.Counting.{free_slots}
use Rattle.bx_chunks.proofs.Allocates.{allocates_in}
use Rattle.bx_blink.specs.declared.error.BlinkError.{BlinkError}
use Rattle.bx_blink.specs.declared.error.BlinkError.TheVariants.{Need, Stale, Full, NoRoom, Absent, Present, OutOfMemory, Crowded}
use Rattle.bx_blink.specs.Hints.{Under}
use Rattle.bx_leaves.specs.Leaves.{PutsPage}
use Rattle.bx_splits.specs.Cutting.{AllotTwoFails, CutsPage, CutsRoot}
use Rattle.bx_splits.specs.Halves.{HalvesAt}
use Rattle.bx_splits.specs.Splits.{SplitsIn, root_page}
use Rattle.bx_splits.proofs.CutLaw.{law_halves as cut_halves}
use Rattle.bx_splits.proofs.Halved.{GrowsHalves}
use Rattle.bx_splits.proofs.Height.{few_levels}
use Rattle.bx_splits.proofs.RaiseLaw.{law_halves as raise_halves}

module _ (areas near : ℕ) (held : Held) (hints : Hints) (truth : Truth) (old new : List Changed) (root : ℕ) (tree : PageTree) (handle : ℕ) (u : Under areas held hints truth old root tree)
    (node : Node) (i : IsPageOf tree node) (there : node.handle ≡ handle) (contents : Contents) (same : contents ≡ node.page) where
  pub page_halves : 2 ≤ length node.page.entries → handle ≢ root → (c : CutsPage held old new handle contents near areas) → GrowsHalves areas held hints truth old new root tree handle (λ x. x ≡ c.right) contents handle c.right
  page_halves more other c =
      let a : AddsChunk areas (with_draft truth old) (with_draft truth c.one) c.right = allocates_in areas near held truth old c.one u.few u.same u.chunked (Ok c.right) c.allots in
      let right_is : (with_draft truth c.one a.block).handle ≡ c.right = ap (λ (b : Block). b.handle) a.here in
      let p : PutsPage c.one c.two (with_draft truth c.one a.block).handle (other_half node.page) =
      subst (λ (h : ℕ). PutsPage c.one c.two h (other_half node.page)) (sym right_is) (subst (λ (x : Contents). PutsPage c.one c.two c.right (other_half x)) same c.puts_other) in
      let q : PutsPage c.two new node.handle (first_half node.page (with_draft truth c.one a.block).handle) =
      subst (λ (h : ℕ). PutsPage c.two new node.handle (first_half node.page h)) (sym right_is)
      (subst (λ (h : ℕ). PutsPage c.two new h (first_half node.page c.right)) (sym there) (subst (λ (x : Contents). PutsPage c.two new handle (first_half x c.right)) same c.puts_first)) in
      subst (λ (x : Contents). GrowsHalves areas held hints truth old new root tree handle (λ y. y ≡ c.right) x handle c.right) (sym same)
      (subst (λ (h : ℕ). GrowsHalves areas held hints truth old new root tree h (λ x. x ≡ c.right) node.page h c.right) there
      (subst (λ (h : ℕ). GrowsHalves areas held hints truth old new root tree node.handle (λ x. x ≡ h) node.page node.handle h) right_is
      (cut_halves areas held hints truth old c.one c.two new root tree node a.block a.slots u i (λ e. other (sym there ∙ e)) more a.slot a.takes p q)))

  pub root_halves : 2 ≤ length node.page.entries → handle ≡ root → (c : CutsRoot held old new root contents near areas)
      → GrowsHalves areas held hints truth old new root tree handle (λ x. (x ≡ c.left) ⊎ (x ≡ c.right)) contents c.left c.right
  root_halves more at_root c =
      let one : List Changed = (c.allots).0 in
      let a : AddsChunk areas (with_draft truth old) (with_draft truth one) c.left = allocates_in areas near held truth old one u.few u.same u.chunked (Ok c.left) (c.allots).1 in
      let b : AddsChunk areas (with_draft truth one) (with_draft truth c.two) c.right = allocates_in areas near held truth one c.two u.few u.same a.chunked (Ok c.right) (c.allots).2 in
      let left_is : (with_draft truth one a.block).handle ≡ c.left = ap (λ (x : Block). x.handle) a.here in
      let right_is : (with_draft truth c.two b.block).handle ≡ c.right = ap (λ (x : Block). x.handle) b.here in
      let high : (first_half node.page (with_draft truth c.two b.block).handle).high ≡ Some c.middle = subst (λ (x : Contents). (first_half x c.right).high ≡ Some c.middle) same c.high in
      let p : PutsPage c.two c.three (with_draft truth one a.block).handle (first_half node.page (with_draft truth c.two b.block).handle) =
      subst (λ (h : ℕ). PutsPage c.two c.three h (first_half node.page (with_draft truth c.two b.block).handle)) (sym left_is)
      (subst (λ (h : ℕ). PutsPage c.two c.three c.left (first_half node.page h)) (sym right_is) (subst (λ (x : Contents). PutsPage c.two c.three c.left (first_half x c.right)) same c.puts_first)) in
      let q : PutsPage c.three c.four (with_draft truth c.two b.block).handle (other_half node.page) =
      subst (λ (h : ℕ). PutsPage c.three c.four h (other_half node.page)) (sym right_is) (subst (λ (x : Contents). PutsPage c.three c.four c.right (other_half x)) same c.puts_other) in
      let s : PutsPage c.four new root (root_page node.page (with_draft truth one a.block).handle (with_draft truth c.two b.block).handle c.middle) =
      subst (λ (h : ℕ). PutsPage c.four new root (root_page node.page h (with_draft truth c.two b.block).handle c.middle)) (sym left_is)
      (subst (λ (h : ℕ). PutsPage c.four new root (root_page node.page c.left h c.middle)) (sym right_is) (subst (λ (x : Contents). PutsPage c.four new root (root_page x c.left c.right c.middle)) same c.puts_root)) in
      subst (λ (x : Contents). GrowsHalves areas held hints truth old new root tree handle (λ y. (y ≡ c.left) ⊎ (y ≡ c.right)) x c.left c.right) (sym same)
      (subst (λ (h : ℕ). GrowsHalves areas held hints truth old new root tree h (λ x. (x ≡ c.left) ⊎ (x ≡ c.right)) node.page c.left c.right) (sym at_root)
      (subst (λ (h : ℕ). GrowsHalves areas held hints truth old new root tree root (λ x. (x ≡ h) ⊎ (x ≡ c.right)) node.page h c.right) left_is
      (subst (λ (h : ℕ). GrowsHalves areas held hints truth old new root tree root (λ x. (x ≡ (with_draft truth one a.block).handle) ⊎ (x ≡ h)) node.page (with_draft truth one a.block).handle h) right_is
      (raise_halves areas held hints truth old one c.two c.three c.four new root tree node c.middle a.block b.block a.slots b.slots u i (there ∙ at_root) more high a.slot a.takes b.slot b.takes p q s))))

  -- a root is of fewer than 61440 levels
  not_highest : contents.level ≡ 65535 → ⊥
  not_highest level =
      let n : IsNode (chunks_of areas (with_draft truth old)) i.level node = ((u.is).levels i.level i.within).nodes_are node i.there in
      let at : i.level ≡ 65535 = sym n.same_level ∙ ap (λ (c : Contents). c.level) (sym same) ∙ level in
      let within = i.within in
      let most = few_levels areas u.few (with_draft truth old) root tree u.is in
      omega (arith, at, within, most)

  spare_is : (draft : List Changed) (spare : ℕ) → IsChunked areas (with_draft truth draft) → AllocatesAt held draft draft near areas (Err (ChunkFull spare)) → IsChunked areas truth → spare ≡ free_slots areas truth
  spare_is draft spare chunked a = (allocates_in areas near held truth draft draft u.few u.same chunked (Err (ChunkFull spare)) a).0

  two_spare : (spare : ℕ) → AllotTwoFails held old near areas (Full spare) → IsChunked areas truth → spare ≡ free_slots areas truth
  two_spare spare f = elim f [
    | inl a ↦ spare_is old spare u.chunked a
    | inr t ↦ spare_is t.1 spare (allocates_in areas near held truth old t.1 u.few u.same u.chunked (Ok t.0) t.2).chunked t.3
  ]

  -- why it isn't done
  pub halves_fail : (e : BlinkError) → HalvesAt held old new root handle contents near areas (Err e) → SplitsIn areas held hints truth old new root tree handle (Err e)
  halves_fail (Full spare) h = elim h [ inl r ↦ two_spare spare r.1 | inr r ↦ spare_is old spare u.chunked r.1 ]
  halves_fail (Need at mode) h = tt
  halves_fail Crowded h = tt
  halves_fail OutOfMemory h = tt
  halves_fail Stale h = elim h [ inl r ↦ not_highest r.1 | inr r ↦ absurd r.1 ]
  halves_fail (NoRoom leaf) h = elim h [ inl r ↦ absurd r.1 | inr r ↦ absurd r.1 ]
  halves_fail Absent h = elim h [ inl r ↦ absurd r.1 | inr r ↦ absurd r.1 ]
  halves_fail Present h = elim h [ inl r ↦ absurd r.1 | inr r ↦ absurd r.1 ]
