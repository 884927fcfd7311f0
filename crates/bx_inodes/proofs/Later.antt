-- Hints of all trees, once the chunks of one inode changed.
use Rattle.std.proofs.Common.{◌≡◌, ℕ, arith, sym, ap, ◌∙◌, subst, Some, inl, inr}
use Rattle.std.specs.Prelude.{◌≢◌, ◌⊎◌}
use Rattle.bx_layout.specs.declared.block.Block.{Block}
use Rattle.bx_layout.specs.declared.inode.Inode.{Inode}
use Rattle.bx_blink.specs.bx_model.specs.declared.tree.Tree.{Tree}
use Rattle.bx_blink.specs.bx_truth.specs.Chunks.{block_at, chunks_of}
use Rattle.bx_blink.specs.bx_truth.specs.PageTrees.{Node, PageTree, IsTree, IsPageOf}
use Rattle.bx_blink.specs.bx_truth.specs.Stands.{StandsFor, WasGiven}
use Rattle.bx_blink.specs.bx_truth.specs.Stored.{PageOf}
use Rattle.bx_blink.specs.bx_truth.proofs.Cases.{same_or}
use Rattle.bx_blink.specs.bx_truth.proofs.Frames.{tree_kept}
use Rattle.bx_blink.specs.bx_views.specs.Truths.{Truth, Hints}
use Rattle.bx_inodes.specs.Hints.{HintsFit}
use Rattle.bx_inodes.specs.Inodes.{HoldsInode}
use Rattle.bx_inodes.specs.Fitting.{HintsFitAll, Continues, ChangesOne, IsPageUnder}
use Rattle.bx_inodes.proofs.Pages.{one_block, pages_own}

pub given_later : (areas : ℕ) (truth now : Truth) → Continues areas truth now → (handle : ℕ) → WasGiven areas truth handle → WasGiven areas now handle
given_later areas truth now on handle was = record { slot = was.slot; generation = let a = was.generation in let b = on.given (block_at handle) was.slot in omega (arith, a, b) }

pub fit_later : (areas : ℕ) (hints : Hints) (truth now : Truth) (root : ℕ) (tree : PageTree) → Continues areas truth now → HintsFit areas hints truth root tree → HintsFit areas hints now root tree
fit_later areas hints truth now root tree on fit = record {
  agree = record {
    home = fit.agree.home;
    names = fit.agree.names;
    root_apart = fit.agree.root_apart;
    most = fit.agree.most;
    highest = fit.agree.highest;
    placed = fit.agree.placed;
    stands = λ handle place block home_is some. let was = on.used handle block some (fit.given.homes handle place home_is) in fit.agree.stands handle place was.0 home_is was.1;
    hints = fit.agree.hints;
    root_hints = fit.agree.root_hints;
  };
  given = record {
    homes = λ handle place home_is. given_later areas truth now on handle (fit.given.homes handle place home_is);
    hints = λ handle block there header name. given_later areas truth now on handle (fit.given.hints handle block there header name);
  };
}

one_owner : (a b : ℕ) → PageOf a ≡ PageOf b → a ≡ b
one_owner a b e = cc

module _ (areas : ℕ) (hints : Hints) (truth now : Truth) (tree : Tree) (handle : ℕ) (is : StandsFor areas now tree) (on : Continues areas truth now) (one : ChangesOne areas truth now handle)
    (this : (inode : Inode) (pages : PageTree) → HoldsInode areas now handle inode → IsTree (chunks_of areas now) inode.tree pages → HintsFit areas hints now inode.tree pages)
    (fit : HintsFitAll areas hints truth) where
  page_kind : (page : ℕ) (block : Block) → chunks_of areas now page ≡ Some block → IsPageUnder areas now handle page → block.kind ≡ 2
  page_kind page block some u =
      let n = (u.is.levels u.there.level u.there.within).nodes_are u.node u.there.there in
      ap (λ (b : Block). b.kind) (one_block block n.block (sym some ∙ ap (chunks_of areas now) (sym u.names) ∙ n.chunk)) ∙ n.has.kind

  module _ (h : ℕ) (inode : Inode) (pages : PageTree) (holds : HoldsInode areas now h inode) (at : IsTree (chunks_of areas now) inode.tree pages) (other : h ≢ handle) where
    inode_stays : (chunks_of areas truth h ≡ Some holds.block) ⊎ ((h ≡ handle) ⊎ (IsPageUnder areas now handle h ⊎ (holds.block.kind ≡ 3))) → chunks_of areas truth h ≡ Some holds.block
    inode_stays (inl same) = same
    inode_stays (inr (inl this_one)) = absurd (other this_one)
    inode_stays (inr (inr (inl page))) = let two = page_kind h holds.block holds.chunk page in let k = holds.has.kind in absurd (omega (arith, two, k))
    inode_stays (inr (inr (inr piece))) = let k = holds.has.kind in absurd (omega (arith, piece, k))

    held_before : HoldsInode areas truth h inode
    held_before = record { block = holds.block; chunk = inode_stays (one.each h holds.block holds.chunk); has = holds.has }

    page_stays : (node : Node) (block : Block) → IsPageOf pages node → chunks_of areas now node.handle ≡ Some block → chunks_of areas truth node.handle ≡ Some block
    page_stays node block there some = by (one.each node.handle block some)
      where
        kind : block.kind ≡ 2
        kind = let n = (at.levels there.level there.within).nodes_are node there.there in ap (λ (b : Block). b.kind) (one_block block n.block (sym some ∙ n.chunk)) ∙ n.has.kind

        mine : is.owner node.handle ≡ PageOf h
        mine = pages_own areas now tree is h inode holds pages at node there

        by : (chunks_of areas truth node.handle ≡ Some block) ⊎ ((node.handle ≡ handle) ⊎ (IsPageUnder areas now handle node.handle ⊎ (block.kind ≡ 3))) → chunks_of areas truth node.handle ≡ Some block
        by (inl same) = same
        by (inr (inl this_one)) =
            let e : block ≡ one.holds.block = one_block block one.holds.block (sym some ∙ ap (chunks_of areas now) this_one ∙ one.holds.chunk) in
            let k : block.kind ≡ 1 = ap (λ (b : Block). b.kind) e ∙ one.holds.has.kind in
            absurd (omega (arith, kind, k))
        by (inr (inr (inl u))) =
            let theirs : is.owner node.handle ≡ PageOf handle = ap is.owner (sym u.names) ∙ pages_own areas now tree is handle u.inode u.holds u.tree u.is u.node u.there in
            absurd (other (one_owner h handle (sym mine ∙ theirs)))
        by (inr (inr (inr piece))) = absurd (omega (arith, kind, piece))

    other_fits : HintsFit areas hints now inode.tree pages
    other_fits = fit_later areas hints truth now inode.tree pages on
        (fit.each h inode pages held_before (tree_kept (chunks_of areas now) (chunks_of areas truth) inode.tree pages at page_stays))

  each_fits : (h : ℕ) (inode : Inode) (pages : PageTree) → HoldsInode areas now h inode → IsTree (chunks_of areas now) inode.tree pages → HintsFit areas hints now inode.tree pages
  each_fits h inode pages holds at = by (same_or h handle)
    where
      by : (h ≡ handle) ⊎ (h ≢ handle) → HintsFit areas hints now inode.tree pages
      by (inl same) = this inode pages (subst (λ (n : ℕ). HoldsInode areas now n inode) same holds) at
      by (inr other) = other_fits h inode pages holds at other

  pub fit_still : HintsFitAll areas hints now
  fit_still = record { each = each_fits }
