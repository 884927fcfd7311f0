-- What changes of one tree make of chunks and hints, one after the other.
use Rattle.std.proofs.Common.{◌≡◌, ℕ, List, ◌⊎◌, inl, inr, sym, ap, ◌∙◌, Some}
use Rattle.std.specs.Prelude.{◌≢◌}
use Rattle.bx_layout.specs.declared.block.Block.{Block}
use Rattle.bx_page.specs.declared.entry.Entry.{Entry}
use Rattle.bx_records.specs.Drafts.{Changed}
use Rattle.bx_truth.specs.Chunks.{chunks_of}
use Rattle.bx_truth.specs.Edits.{HasPagesOf, SameSlots, TreeAnew}
use Rattle.bx_truth.specs.PageTrees.{Node, PageTree, IsTree, IsPageOf}
use Rattle.bx_truth.proofs.Adding.{anew_and, slots_and}
use Rattle.bx_truth.proofs.Cases.{same_or}
use Rattle.bx_views.specs.Truths.{Truth, Held, Hints, with_draft}
use Rattle.bx_leaves.specs.bx_blink.specs.Hints.{HintsFit}
use Rattle.bx_leaves.specs.Changes.{MakesMap}

-- a page of a tree, by its handle
pub record HasPageAt (tree : PageTree) (handle : ℕ) : Type 0 where
  pub node : Node
  pub there : IsPageOf tree node
  pub names : node.handle ≡ handle

-- the tree under a root is another one with the same pages by their handles, and only these changed
pub record Edited (areas : ℕ) (truth now : Truth) (root : ℕ) (tree after : PageTree) : Type 0 where
  pub slots : SameSlots areas truth now
  pub anew : TreeAnew (chunks_of areas truth) (chunks_of areas now) root tree after
  pub used : (handle : ℕ) (block : Block) → chunks_of areas now handle ≡ Some block → (was : Block) × (chunks_of areas truth handle ≡ Some was)
  pub each : (handle : ℕ) → (chunks_of areas now handle ≡ chunks_of areas truth handle) ⊎ HasPageAt tree handle
  pub leads : (other : Hints) → HintsFit areas other truth root tree → HintsFit areas other now root after

page_on : (tree after : PageTree) (handle : ℕ) → HasPagesOf tree after → HasPageAt tree handle → HasPageAt after handle
page_on tree after handle forth p = let f = forth p.node p.there in record { node = f.0; there = f.1; names = f.2 ∙ p.names }

pub edited_and : (areas : ℕ) (a b c : Truth) (root : ℕ) (one two three : PageTree) → Edited areas a b root one two → Edited areas b c root two three → Edited areas a c root one three
edited_and areas a b c root one two three x y = record {
  slots = slots_and areas a b c x.slots y.slots;
  anew = anew_and (chunks_of areas a) (chunks_of areas b) (chunks_of areas c) root one two three x.anew y.anew;
  used = λ handle block some. let m = y.used handle block some in x.used handle m.0 m.1;
  each = λ handle. by handle (x.each handle) (y.each handle);
  leads = λ other fit. y.leads other (x.leads other fit);
}
  where
    by : (handle : ℕ) → (chunks_of areas b handle ≡ chunks_of areas a handle) ⊎ HasPageAt one handle → (chunks_of areas c handle ≡ chunks_of areas b handle) ⊎ HasPageAt two handle
        → (chunks_of areas c handle ≡ chunks_of areas a handle) ⊎ HasPageAt one handle
    by handle (inr page) s = inr page
    by handle (inl same) (inl then) = inl (then ∙ same)
    by handle (inl same) (inr page) = inr (page_on two one handle x.anew.back page)

-- one change of a map
pub edited_by : (areas : ℕ) (held : Held) (hints : Hints) (truth : Truth) (old new : List Changed) (root : ℕ) (tree : PageTree) (map : List Entry)
    → IsTree (chunks_of areas (with_draft truth old)) root tree → (m : MakesMap areas held hints truth old new root tree map) → Edited areas (with_draft truth old) (with_draft truth new) root tree m.after
edited_by areas held hints truth old new root tree map is m = record {
  slots = record { chunked = m.under.chunked; own = m.own };
  anew = record { is = m.under.is; back = m.back; forth = m.forth; others = λ h apart. m.others h (λ same. apart m.page m.there (sym same)) };
  used = λ handle block some. was handle block some (same_or handle m.page.handle);
  each = λ handle. by handle (same_or handle m.page.handle);
  leads = m.leads;
}
  where
    was : (handle : ℕ) (block : Block) → chunks_of areas (with_draft truth new) handle ≡ Some block → (handle ≡ m.page.handle) ⊎ (handle ≢ m.page.handle) → (b : Block) × (chunks_of areas (with_draft truth old) handle ≡ Some b)
    was handle block some (inl same) = let n = (is.levels m.there.level m.there.within).nodes_are m.page m.there.there in (n.block, ap (chunks_of areas (with_draft truth old)) same ∙ n.chunk)
    was handle block some (inr other) = (block, sym (m.others handle other) ∙ some)

    by : (handle : ℕ) → (handle ≡ m.page.handle) ⊎ (handle ≢ m.page.handle) → (chunks_of areas (with_draft truth new) handle ≡ chunks_of areas (with_draft truth old) handle) ⊎ HasPageAt tree handle
    by handle (inl same) = inr (record { node = m.page; there = m.there; names = sym same })
    by handle (inr other) = inl (m.others handle other)
