-- The root of a tree, by itself, is cut in two.
use Rattle.std.proofs.Common.{◌≡◌, ℕ, ◌≤◌, List, [], length, Some, sym, ap, subst, ◌∙◌, arith}
use Rattle.std.specs.Prelude.{◌⊎◌}
use Rattle.bx_layout.specs.declared.area.AreaBlock.{AreaBlock}
use Rattle.bx_records.specs.Drafts.{Changed, with_block}
use Rattle.bx_page.specs.declared.entry.Entry.{Entry}
use Rattle.bx_page.specs.Contents.{Contents, first_half, other_half}
use Rattle.bx_truth.specs.Chunks.{IsSlot, block_at, chunks_of}
use Rattle.bx_truth.specs.PageTrees.{HasPage, Node, PageTree, IsPageOf}
use Rattle.bx_truth.specs.Slots.{TakesSlot}
use Rattle.bx_views.specs.Truths.{Truth, Held, Hints, with_draft}
use Rattle.bx_blink.specs.Hints.{Under}
use Rattle.bx_leaves.specs.Leaves.{PutsPage}
use Rattle.bx_leaves.proofs.Apart.{same_page}
use Rattle.bx_splits.specs.Splits.{GrowsTree, root_page}
use Rattle.bx_splits.proofs.Cut.{IsMiddle}
use Rattle.bx_splits.proofs.Grown.{grows}
use Rattle.bx_splits.proofs.Halved.{GrowsHalves}
use Rattle.bx_splits.proofs.Middles.{middle as middle_of, is_middle}
use Rattle.bx_splits.proofs.RaiseUnder.{root_halved}

some_same : (a b : List ℕ) → Some a ≡ Some b → a ≡ b
some_same a b e = cc

module _ (areas : ℕ) (held : Held) (hints : Hints) (truth : Truth) (old one two three four new : List Changed) (root : ℕ) (tree : PageTree) (node : Node) (middle : List ℕ) (a b : ℕ) (slots slots_then : AreaBlock)
    (u : Under areas held hints truth old root tree) (i : IsPageOf tree node) (at_root : node.handle ≡ root) (more : 2 ≤ length node.page.entries)
    (high : (first_half node.page (with_draft truth two b).handle).high ≡ Some middle)
    (a_slot : IsSlot areas a) (a_takes : TakesSlot (with_draft truth old) (with_draft truth one) a slots)
    (b_slot : IsSlot areas b) (b_takes : TakesSlot (with_draft truth one) (with_draft truth two) b slots_then)
    (p : PutsPage two three (with_draft truth one a).handle (first_half node.page (with_draft truth two b).handle)) (q : PutsPage three four (with_draft truth two b).handle (other_half node.page))
    (r : PutsPage four new root (root_page node.page (with_draft truth one a).handle (with_draft truth two b).handle middle)) where
  abbrev left : ℕ
  left = (with_draft truth one a).handle

  abbrev right : ℕ
  right = (with_draft truth two b).handle

  none : Entry
  none = record { key = []; value = [] }

  abbrev top : Node
  top = (u.is).top

  pages : node.page ≡ top.page
  pages =
      let n = ((u.is).levels i.level i.within).nodes_are node i.there in
      let t = ((u.is).levels tree.height (omega arith)).nodes_are top (record { before = []; behind = []; parts = (u.is).root_alone }) in
      same_page (chunks_of areas (with_draft truth old)) i.level tree.height node top n t (at_root ∙ sym (u.is).root_is)

  put : new ≡ with_block (with_block (with_block two (block_at left) p.block) (block_at right) q.block) (block_at root) r.block
  put =
      r.put
      ∙ ap (λ (d : List Changed). with_block d (block_at root) r.block) q.put
      ∙ ap (λ (d : List Changed). with_block (with_block d (block_at right) q.block) (block_at root) r.block) p.put

  top_middle : (page : Contents) → node.page ≡ page → (first_half page right).high ≡ Some middle
  top_middle page e = subst (λ (c : Contents). (first_half c right).high ≡ Some middle) e high

  is_mid : IsMiddle top right middle
  is_mid =
      let t = ((u.is).levels tree.height (omega arith)).nodes_are top (record { before = []; behind = []; parts = (u.is).root_alone }) in
      let enough = subst (λ (c : Contents). 2 ≤ length c.entries) pages more in
      let m = is_middle top right ((t.has).spells).is enough t.lowest none in
      subst (λ (k : List ℕ). IsMiddle top right k) (some_same (middle_of top right ((t.has).spells).is enough t.lowest none) middle (sym m.high ∙ top_middle top.page pages)) m

  pub law_halves : GrowsHalves areas held hints truth old new root tree root (λ handle. (handle ≡ (with_draft truth one a).handle) ⊎ (handle ≡ (with_draft truth two b).handle)) node.page (with_draft truth one a).handle (with_draft truth two b).handle
  law_halves =
      let gl = grows areas u.few (with_draft truth old) (with_draft truth one) a slots a_slot a_takes u.chunked in
      let gr = grows areas u.few (with_draft truth one) (with_draft truth two) b slots_then b_slot b_takes (gl.slots).chunked in
      subst (λ (d : List Changed). GrowsHalves areas held hints truth old d root tree root (λ handle. (handle ≡ left) ⊎ (handle ≡ right)) node.page left right) (sym put)
      (subst (λ (c : Contents). GrowsHalves areas held hints truth old (with_block (with_block (with_block two (block_at left) p.block) (block_at right) q.block) (block_at root) r.block) root tree root (λ handle. (handle ≡ left) ⊎ (handle ≡ right)) c left right) (sym pages)
      (root_halved areas held hints truth old one two root tree u left right gl gr r.block p.block q.block r.header p.header q.header middle is_mid
      (subst (λ (c : Contents). HasPage (root_page c left right middle) r.block) pages r.has)
      (subst (λ (c : Contents). HasPage (first_half c right) p.block) pages p.has)
      (subst (λ (c : Contents). HasPage (other_half c) q.block) pages q.has)))

  pub law_root : GrowsTree areas held hints truth old new root tree root (λ handle. (handle ≡ (with_draft truth one a).handle) ⊎ (handle ≡ (with_draft truth two b).handle))
  law_root = law_halves.grows
