-- Hints that fit all page trees still fit where a block that is no page is put in the place of another.
use Rattle.std.proofs.Common.{◌≡◌, ℕ, arith, sym, ap, ◌∙◌, subst, Some, inl, inr}
use Rattle.std.specs.Prelude.{◌≢◌, ◌⊎◌}
use Rattle.bx_blink.specs.Hints.{HintsFit}
use Rattle.bx_inodes.specs.Fitting.{Continues, HintsFitAll}
use Rattle.bx_inodes.proofs.Later.{fit_later}
use Rattle.bx_inodes.proofs.Pages.{one_block}
use Rattle.bx_inodes.specs.Inodes.{HoldsInode}
use Rattle.bx_layout.specs.declared.block.Block.{Block}
use Rattle.bx_layout.specs.declared.inode.Inode.{Inode}
use Rattle.bx_truth.specs.Chunks.{chunks_of}
use Rattle.bx_truth.specs.Edits.{ChunkAnew}
use Rattle.bx_truth.specs.PageTrees.{IsPageOf, IsTree, Node, PageTree}
use Rattle.bx_truth.specs.Shown.{KeepsSlots}
use Rattle.bx_truth.specs.Stands.{WasGiven}
use Rattle.bx_truth.specs.Stored.{HasInode}
use Rattle.bx_truth.proofs.Cases.{same_or}
use Rattle.bx_truth.proofs.Frames.{tree_kept}
use Rattle.bx_truth.proofs.OneFiles.{one_inode}
use Rattle.bx_views.specs.Truths.{Hints, Truth}

module _ (areas : ℕ) (hints : Hints) (truth now : Truth) (handle : ℕ) (before after : Block) (slots : KeepsSlots areas truth now) (was : chunks_of areas truth handle ≡ Some before)
    (anew : ChunkAnew (chunks_of areas truth) (chunks_of areas now) handle after) (no_page : after.kind ≢ 2) (fit : HintsFitAll areas hints truth) where
  used_before : (h : ℕ) (b : Block) → chunks_of areas now h ≡ Some b → WasGiven areas truth h → (w : Block) × (chunks_of areas truth h ≡ Some w)
  used_before h b some given = by (same_or h handle)
    where
      by : (h ≡ handle) ⊎ (h ≢ handle) → (w : Block) × (chunks_of areas truth h ≡ Some w)
      by (inl same) = (before, ap (chunks_of areas truth) same ∙ was)
      by (inr other) = (b, sym (anew.others h other) ∙ some)

  continues : Continues areas truth now
  continues = record { given = slots.given; used = used_before }

  -- a page is another chunk
  page_apart : (root : ℕ) (pages : PageTree) → IsTree (chunks_of areas now) root pages → (node : Node) → IsPageOf pages node → node.handle ≢ handle
  page_apart root pages is node page same =
      let n = (is.levels page.level page.within).nodes_are node page.there in
      let one : after ≡ n.block = one_block after n.block (sym anew.here ∙ ap (chunks_of areas now) (sym same) ∙ n.chunk) in
      no_page (ap (λ (b : Block). b.kind) one ∙ n.has.kind)

  tree_before : (root : ℕ) (pages : PageTree) → IsTree (chunks_of areas now) root pages → IsTree (chunks_of areas truth) root pages
  tree_before root pages is = tree_kept (chunks_of areas now) (chunks_of areas truth) root pages is (λ node b page some. sym (anew.others node.handle (page_apart root pages is node page)) ∙ some)

  other_fits : (h : ℕ) (inode : Inode) (pages : PageTree) → h ≢ handle → HoldsInode areas now h inode → IsTree (chunks_of areas now) inode.tree pages → HintsFit areas hints now inode.tree pages
  other_fits h inode pages other held is =
      fit_later areas hints truth now inode.tree pages continues
      (fit.each h inode pages (record { block = held.block; chunk = sym (anew.others h other) ∙ held.chunk; has = held.has }) (tree_before inode.tree pages is))

  pub piece_fits : after.kind ≡ 3 → HintsFitAll areas hints now
  piece_fits kind = record { each = λ h inode pages held is. other_fits h inode pages (apart h inode held) held is }
    where
      apart : (h : ℕ) (inode : Inode) → HoldsInode areas now h inode → h ≢ handle
      apart h inode held same =
          let one : after ≡ held.block = one_block after held.block (sym anew.here ∙ ap (chunks_of areas now) (sym same) ∙ held.chunk) in
          let is_inode : after.kind ≡ 1 = ap (λ (b : Block). b.kind) one ∙ held.has.kind in
          absurd (omega (arith, kind, is_inode))

  pub inode_fits : (old new : Inode) → HasInode old before → HasInode new after → new.tree ≡ old.tree → HintsFitAll areas hints now
  inode_fits old new has_old has_new same_tree = record { each = λ h inode pages held is. by h inode pages held is (same_or h handle) }
    where
      by : (h : ℕ) (inode : Inode) (pages : PageTree) → HoldsInode areas now h inode → IsTree (chunks_of areas now) inode.tree pages → (h ≡ handle) ⊎ (h ≢ handle) → HintsFit areas hints now inode.tree pages
      by h inode pages held is (inl same) =
          let block : after ≡ held.block = one_block after held.block (sym anew.here ∙ ap (chunks_of areas now) (sym same) ∙ held.chunk) in
          let one : new ≡ inode = one_inode new inode held.block.payload (subst (λ (b : Block). HasInode new b) block has_new).spells held.has.spells in
          let root : old.tree ≡ inode.tree = sym same_tree ∙ ap (λ (i : Inode). i.tree) one in
          fit_later areas hints truth now inode.tree pages continues
          (subst (λ (r : ℕ). HintsFit areas hints truth r pages) root
          (fit.each handle old pages (record { block = before; chunk = was; has = has_old }) (subst (λ (r : ℕ). IsTree (chunks_of areas truth) r pages) (sym root) (tree_before inode.tree pages is))))
      by h inode pages held is (inr other) = other_fits h inode pages other held is
