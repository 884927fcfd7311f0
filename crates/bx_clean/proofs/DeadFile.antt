-- A dead file by its inode: what is its own, and what is another's.
use Rattle.std.proofs.Common.{◌≡◌, ℕ, arith, false, [], sym, ap, ◌∙◌, subst, refl, Option, Some, None, inl, inr}
use Rattle.std.specs.Prelude.{◌≢◌, ◌⊎◌, ◌==◌}
use Rattle.bx_layout.specs.declared.block.Block.{Block}
use Rattle.bx_layout.specs.declared.inode.Inode.{Inode}
use Rattle.bx_layout.specs.Inodes.{SpellsInode}
use Rattle.bx_model.specs.declared.tree.Tree.{Tree}
use Rattle.bx_truth.specs.Chunks.{chunks_of}
use Rattle.bx_truth.specs.Dying.{IsDeadFile}
use Rattle.bx_truth.specs.PageTrees.{Node, PageTree, IsTree, IsPageOf, map_of}
use Rattle.bx_truth.specs.Shown.{KeepsOthers}
use Rattle.bx_truth.specs.Stands.{StandsFor, inode_of}
use Rattle.bx_truth.specs.Stored.{Owner, Inodes, PageOf, DataOf, HasContents, HasTree}
use Rattle.bx_truth.proofs.Cases.{eq_true}
use Rattle.bx_truth.proofs.Cleaned.{dead_shown}
use Rattle.bx_truth.proofs.Named.{named}
use Rattle.bx_truth.proofs.OneFiles.{one_inode}
use Rattle.bx_truth.proofs.OneTree.{one_map, same_pages}
use Rattle.bx_truth.proofs.Put.{some_not}
use Rattle.bx_views.specs.Truths.{Truth}
use Rattle.bx_inodes.proofs.Pages.{has_tree, inode_is, one_block, own, pages_own}
use Rattle.bx_inodes.specs.Inodes.{HoldsInode}

pub none_some : (block : Block) → ◌≡◌ {A = Option Block} None (Some block) → ⊥
none_some block e = absurd cc

pub not_inodes : (o : Owner) (a : ℕ) → o ≡ PageOf a → o ≡ Inodes → ⊥
not_inodes o a page itself = absurd cc

pub not_data : (o : Owner) (a b index : ℕ) → o ≡ PageOf a → o ≡ DataOf b index → ⊥
not_data o a b index page data_of = absurd cc

pub data_not_inodes : (o : Owner) (a index : ℕ) → o ≡ DataOf a index → o ≡ Inodes → ⊥
data_not_inodes o a index data_of itself = absurd cc

pub page_same : (a b : ℕ) → PageOf a ≡ PageOf b → a ≡ b
page_same a b e = cc

-- no tree is under 0
pub no_root : (areas : ℕ) (truth : Truth) (T : Tree) → StandsFor areas truth T → (root : ℕ) (tree : PageTree) → IsTree (chunks_of areas truth) root tree → root ≢ 0
no_root areas truth T is root tree at zero =
    let n = (at.levels tree.height (omega arith)).nodes_are at.top (record { before = []; behind = []; parts = at.root_alone }) in
    (named areas truth T at.top.handle n.block is n.chunk).some (at.root_is ∙ zero)

module _ (areas : ℕ) (truth : Truth) (T : Tree) (handle : ℕ) (inode : Inode) (is : StandsFor areas truth T) (holds : HoldsInode areas truth handle inode) (dead : inode.kind ≡ 0) where
  pub was : IsDeadFile areas truth T is handle
  was = record {
    there = some_not (chunks_of areas truth handle) holds.block holds.chunk;
    itself = own areas truth T is handle inode holds;
    kind = ap (λ (i : Inode). i.kind) (inode_is areas truth T is handle inode holds) ∙ dead;
  }

  pub root_same : (is.stored handle).inode.tree ≡ inode.tree
  root_same = ap (λ (i : Inode). i.tree) (inode_is areas truth T is handle inode holds)

  -- what isn't its own
  pub not_its : (h : ℕ) → (inode_of h (is.owner h) == handle) ≡ false → h ≢ handle
  not_its h test e = let t = eq_true (inode_of h (is.owner h)) handle (ap (inode_of h) (ap is.owner e ∙ own areas truth T is handle inode holds) ∙ e) in absurd cc

  pub not_page : (h : ℕ) → (inode_of h (is.owner h) == handle) ≡ false → is.owner h ≢ PageOf handle
  not_page h test page = let t = eq_true (inode_of h (is.owner h)) handle (ap (inode_of h) page) in absurd cc

  -- where all stay that aren't its own
  pub others_stay : (now : Truth) → ((h : ℕ) → (inode_of h (is.owner h) == handle) ≡ false → chunks_of areas now h ≡ chunks_of areas truth h) → KeepsOthers areas truth now T is is.owner handle
  others_stay now stays = record {
    kept = λ h b some test. (stays h test ∙ some, refl);
    none_new = λ h b some test. (sym (stays h test) ∙ some, refl);
  }

  pub itself : is.owner handle ≡ Inodes
  itself = own areas truth T is handle inode holds

  -- an inode that is held under its handle is this one
  pub this_inode : (other : Inode) → HoldsInode areas truth handle other → other ≡ inode
  this_inode other h =
      let block : h.block ≡ holds.block = one_block h.block holds.block (sym h.chunk ∙ holds.chunk) in
      one_inode other inode holds.block.payload (subst (λ (b : Block). SpellsInode other b.payload) block h.has.spells) holds.has.spells

  module _ (tree : PageTree) (at : IsTree (chunks_of areas truth) inode.tree tree) where
    pub stored_at : IsTree (chunks_of areas truth) inode.tree (is.stored handle).tree
    stored_at = subst (λ (r : ℕ). IsTree (chunks_of areas truth) r (is.stored handle).tree) root_same (has_tree areas truth T is handle inode holds tree at).is

    pub to_stored : (node : Node) → IsPageOf tree node → IsPageOf (is.stored handle).tree node
    to_stored node = same_pages (chunks_of areas truth) inode.tree tree (is.stored handle).tree node at stored_at

    pub from_stored : (node : Node) → IsPageOf (is.stored handle).tree node → IsPageOf tree node
    from_stored node = same_pages (chunks_of areas truth) inode.tree (is.stored handle).tree tree node stored_at at

    pub map_same : map_of (is.stored handle).tree ≡ map_of tree
    map_same = one_map (chunks_of areas truth) inode.tree (is.stored handle).tree tree stored_at at

    pub mine : (node : Node) → IsPageOf tree node → is.owner node.handle ≡ PageOf handle
    mine = pages_own areas truth T is handle inode holds tree at

    pub contents : HasContents (chunks_of areas truth) is.owner handle (is.stored handle)
    contents = by (dead_shown areas truth T handle is was).dead.tree
      where
        by : ((is.stored handle).inode.tree ≡ 0) ⊎ (HasTree (chunks_of areas truth) is.owner handle (is.stored handle) × HasContents (chunks_of areas truth) is.owner handle (is.stored handle)) → HasContents (chunks_of areas truth) is.owner handle (is.stored handle)
        by (inl zero) = absurd (no_root areas truth T is inode.tree tree at (sym root_same ∙ zero))
        by (inr both) = both.1
