-- The pages of a file, by its inode.
use Rattle.std.proofs.Common.{◌≡◌, ℕ, ◌≤◌, arith, [], sym, ap, ◌∙◌, subst, List, Option, Some, None, inl, inr}
use Rattle.std.specs.Prelude.{◌≢◌, ◌⊎◌}
use Rattle.bx_layout.specs.declared.block.Block.{Block}
use Rattle.bx_layout.specs.declared.inode.Inode.{Inode}
use Rattle.bx_blink.specs.bx_model.specs.declared.tree.Tree.{Tree}
use Rattle.bx_blink.specs.bx_records.specs.Drafts.{Changed}
use Rattle.bx_blink.specs.bx_tree_files.specs.declared.file.Body.{Body}
use Rattle.bx_blink.specs.bx_tree_files.specs.declared.file.Body.TheVariants.{Bytes, Path, Names}
use Rattle.bx_blink.specs.bx_tree_files.specs.declared.file.File.{File}
use Rattle.bx_blink.specs.bx_tree_files.specs.Files.{file_at}
use Rattle.bx_blink.specs.bx_truth.specs.Chunks.{chunks_of}
use Rattle.bx_blink.specs.bx_truth.specs.PageTrees.{Chunks, Node, PageTree, IsTree, IsPageOf}
use Rattle.bx_blink.specs.bx_truth.specs.Stands.{StandsFor, IsAnInode, IsOwned}
use Rattle.bx_blink.specs.bx_truth.specs.Stored.{Owner, Inodes, PageOf, Stored, HasBody, HasContents, HasTree, IsFileOr}
use Rattle.bx_blink.specs.bx_truth.proofs.Named.{named}
use Rattle.bx_blink.specs.bx_truth.proofs.OneFiles.{itself, one_inode}
use Rattle.bx_blink.specs.bx_truth.proofs.OneTree.{same_pages}
use Rattle.bx_blink.specs.bx_truth.proofs.Put.{shown}
use Rattle.bx_blink.specs.bx_views.specs.Truths.{Truth, Held, Hints, IsTruth, with_draft}
use Rattle.bx_inodes.specs.Inodes.{HoldsInode}
use Rattle.bx_inodes.specs.Fitting.{HintsFitAll}
use Rattle.bx_inodes.specs.Pages.{HasPages}

pub one_block : (a b : Block) → Some a ≡ Some b → a ≡ b
one_block a b e = cc

-- a body that is no link's is read off a tree
pub tree_in : (chunks : Chunks) (owner : ℕ → Owner) (handle : ℕ) (stored : Stored) (body : Body) → HasBody chunks owner handle stored body → stored.inode.kind ≢ 5 → HasTree chunks owner handle stored
tree_in chunks owner handle stored (Bytes bytes) has other = has.tree
tree_in chunks owner handle stored (Path path) has other = absurd (other has.kind)
tree_in chunks owner handle stored (Names parent next names) has other = has.tree

module _ (areas : ℕ) (truth : Truth) (tree : Tree) (is : StandsFor areas truth tree) (handle : ℕ) (inode : Inode) (holds : HoldsInode areas truth handle inode) where
  pub own : is.owner handle ≡ Inodes
  own = itself (chunks_of areas truth) is.owner is.stored tree.files handle holds.block (is.owner handle) holds.has.kind (is.are_files.each handle holds.block holds.chunk)

  was : IsAnInode (chunks_of areas truth) is.owner is.stored tree.files handle holds.block
  was = subst (IsOwned (chunks_of areas truth) is.owner is.stored tree.files handle holds.block) own (is.are_files.each handle holds.block holds.chunk)

  pub inode_is : (is.stored handle).inode ≡ inode
  inode_is = one_inode (is.stored handle).inode inode holds.block.payload was.inode.spells holds.has.spells

  pub stored_is : is.stored handle ≡ record { inode = inode; tree = (is.stored handle).tree }
  stored_is = λ i. record { inode = inode_is i; tree = (is.stored handle).tree }

  -- no tree is under 0
  no_root : (pages : PageTree) → IsTree (chunks_of areas truth) inode.tree pages → inode.tree ≢ 0
  no_root pages at zero =
      let n = (at.levels pages.height (omega arith)).nodes_are at.top (record { before = []; behind = []; parts = at.root_alone }) in
      (named areas truth tree at.top.handle n.block is n.chunk).some (at.root_is ∙ zero)

  -- an inode with a tree has it as its own
  pub has_tree : (pages : PageTree) → IsTree (chunks_of areas truth) inode.tree pages → HasTree (chunks_of areas truth) is.owner handle (is.stored handle)
  has_tree pages at = by (file_at tree.files handle) was.file
    where
      none : (is.stored handle).inode.tree ≢ 0
      none zero = no_root pages at (ap (λ (i : Inode). i.tree) (sym inode_is) ∙ zero)

      of_dead : ((is.stored handle).inode.tree ≡ 0) ⊎ (HasTree (chunks_of areas truth) is.owner handle (is.stored handle) × HasContents (chunks_of areas truth) is.owner handle (is.stored handle))
          → HasTree (chunks_of areas truth) is.owner handle (is.stored handle)
      of_dead (inl zero) = absurd (none zero)
      of_dead (inr (has, contents)) = has

      of_body : (body : Body) → HasBody (chunks_of areas truth) is.owner handle (is.stored handle) body → HasTree (chunks_of areas truth) is.owner handle (is.stored handle)
      of_body (Bytes bytes) has = has.tree
      of_body (Path path) has = absurd (none has.no_tree)
      of_body (Names parent next names) has = has.tree

      by : (o : Option File) → IsFileOr (chunks_of areas truth) is.owner handle (is.stored handle) o → HasTree (chunks_of areas truth) is.owner handle (is.stored handle)
      by None dead = of_dead dead.tree
      by (Some file) f = of_body file.body f.2

  -- and each page is its own
  pub pages_own : (pages : PageTree) → IsTree (chunks_of areas truth) inode.tree pages → (node : Node) → IsPageOf pages node → is.owner node.handle ≡ PageOf handle
  pages_own pages at node there =
      let has = has_tree pages at in
      has.pages node (same_pages (chunks_of areas truth) inode.tree pages (is.stored handle).tree node at
      (subst (λ (r : ℕ). IsTree (chunks_of areas truth) r (is.stored handle).tree) (ap (λ (i : Inode). i.tree) inode_is) has.is) there)

module _ (areas : ℕ) (held : Held) (hints : Hints) (truth : Truth) (draft : List Changed) (tree : Tree) (handle : ℕ) (inode : Inode) (file : File)
    (few : areas ≤ 64) (same : IsTruth held truth) (is : StandsFor areas (with_draft truth draft) tree) (fit : HintsFitAll areas hints (with_draft truth draft))
    (holds : HoldsInode areas (with_draft truth draft) handle inode) (there : file_at tree.files handle ≡ Some file) (other : inode.kind ≢ 5) where
  body : HasBody (chunks_of areas (with_draft truth draft)) is.owner handle (record { inode = inode; tree = (is.stored handle).tree }) file.body
  body = subst (λ (s : Stored). HasBody (chunks_of areas (with_draft truth draft)) is.owner handle s file.body) (stored_is areas (with_draft truth draft) tree is handle inode holds)
      (shown areas (with_draft truth draft) tree handle file is there).body

  at : IsTree (chunks_of areas (with_draft truth draft)) inode.tree (is.stored handle).tree
  at = (tree_in (chunks_of areas (with_draft truth draft)) is.owner handle (record { inode = inode; tree = (is.stored handle).tree }) file.body body other).is

  pub has_pages : HasPages areas held hints truth draft tree is handle inode file
  has_pages = record {
    pages = (is.stored handle).tree;
    under = record { few = few; same = same; chunked = is.chunked; is = at; hints = fit.each handle inode (is.stored handle).tree holds at };
    body = body;
  }
