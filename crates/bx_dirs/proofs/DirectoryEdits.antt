-- A directory of a file tree whose tree has other entries.
use Rattle.std.proofs.Common.{◌≡◌, ℕ, arith, List, ◌⊎◌, inl, inr, sym, ap, ◌∙◌, subst, refl, Some}
use Rattle.std.specs.Prelude.{◌≢◌, if◌then◌else◌, Bool}
use Rattle.bx_layout.specs.declared.block.Block.{Block}
use Rattle.bx_layout.specs.declared.inode.Inode.{Inode}
use Rattle.bx_layout.specs.Inodes.{SpellsInode}
use Rattle.bx_model.specs.declared.tree.Tree.{Tree}
use Rattle.bx_records.specs.Drafts.{Changed}
use Rattle.bx_tree_files.specs.declared.file.Body.{Body}
use Rattle.bx_tree_files.specs.declared.file.File.{File}
use Rattle.bx_tree_files.specs.declared.file.Name.{Name}
use Rattle.bx_tree_files.specs.Files.{file_at, with_file}
use Rattle.bx_truth.specs.Chunks.{chunks_of}
use Rattle.bx_truth.specs.Edits.{TreeAnew}
use Rattle.bx_truth.specs.PageTrees.{PageTree, IsTree, map_of}
use Rattle.bx_truth.specs.Stands.{StandsFor}
use Rattle.bx_truth.specs.Stored.{AreNames, HasBody, IsDirectory}
use Rattle.bx_truth.proofs.Cases.{eq_true}
use Rattle.bx_truth.proofs.Dirs.{entries_anew, keeps_slots}
use Rattle.bx_truth.proofs.OneFiles.{one_inode}
use Rattle.bx_truth.proofs.Put.{shown}
use Rattle.bx_truth.proofs.FilesInOrder.{file_with}
use Rattle.bx_views.specs.Truths.{Truth, Held, Hints, with_draft}
use Rattle.bx_leaves.specs.bx_blink.specs.Hints.{HintsFit, Under}
use Rattle.bx_inodes.specs.Inodes.{HoldsInode}
use Rattle.bx_inodes.specs.Fitting.{HintsFitAll, IsPageUnder}
use Rattle.bx_inodes.proofs.Later.{fit_still}
use Rattle.bx_inodes.proofs.Pages.{inode_is, one_block}
use Rattle.bx_inodes.proofs.Trees.{fit_other}
use Rattle.bx_dirs.specs.Edits.{EditsDirectory, IsDirectoryUnder, with_names}
use Rattle.bx_dirs.proofs.Edited.{Edited, HasPageAt}

module _ (areas : ℕ) (held : Held) (hints : Hints) (truth : Truth) (old : List Changed) (root : ℕ) (tree : Tree) (handle : ℕ) (file : File) (parent next : ℕ) (names : List Name)
    (d : IsDirectoryUnder areas held hints truth old root tree handle file parent next names) where
  abbrev was : Truth
  was = with_draft truth old

  -- its pages
  pub pages : PageTree
  pages = (d.is.stored handle).tree

  one_root : (d.is.stored handle).inode.tree ≡ root
  one_root = ap (λ (i : Inode). i.tree) (inode_is areas (with_draft truth old) tree d.is handle d.inode d.holds) ∙ d.root_is

  is_directory : IsDirectory (chunks_of areas (with_draft truth old)) d.is.owner handle (d.is.stored handle) parent next names
  is_directory = subst (λ (b : Body). HasBody (chunks_of areas (with_draft truth old)) d.is.owner handle (d.is.stored handle) b) d.body (shown areas (with_draft truth old) tree handle file d.is d.there).body

  pub at : IsTree (chunks_of areas (with_draft truth old)) root pages
  unfolding pages
  at = subst (λ (r : ℕ). IsTree (chunks_of areas (with_draft truth old)) r (d.is.stored handle).tree) one_root is_directory.tree.is

  at_inode : IsTree (chunks_of areas (with_draft truth old)) d.inode.tree pages
  at_inode = subst (λ (r : ℕ). IsTree (chunks_of areas (with_draft truth old)) r pages) (sym d.root_is) at

  fits : (other : Hints) → HintsFitAll areas other (with_draft truth old) → HintsFit areas other (with_draft truth old) root pages
  fits other fit = subst (λ (r : ℕ). HintsFit areas other (with_draft truth old) r pages) d.root_is (fit.each handle d.inode pages d.holds at_inode)

  pub under : Under areas held hints truth old root pages
  under = record { few = d.few; same = d.same; chunked = d.is.chunked; is = at; hints = fits hints d.fit }

  pub entries : AreNames (map_of pages) names
  unfolding pages
  entries = is_directory.entries

  module _ (new : List Changed) (after : PageTree) (names_now : List Name) (e : Edited areas (with_draft truth old) (with_draft truth new) root pages after) (are : AreNames (map_of after) names_now) where
    abbrev file_now : File
    file_now = with_names file parent next names_now

    abbrev tree_now : Tree
    tree_now = record tree { files = with_file tree.files (with_names file parent next names_now) }

    anew : TreeAnew (chunks_of areas (with_draft truth old)) (chunks_of areas (with_draft truth new)) (d.is.stored handle).inode.tree (d.is.stored handle).tree after
    unfolding pages
    anew = subst (λ (r : ℕ). TreeAnew (chunks_of areas (with_draft truth old)) (chunks_of areas (with_draft truth new)) r (d.is.stored handle).tree after) (sym one_root) e.anew

    stands_now : StandsFor areas (with_draft truth new) tree_now
    stands_now = entries_anew areas (with_draft truth old) (with_draft truth new) tree handle file parent next names names_now after d.is d.there d.body e.slots anew are

    -- what is no page stays
    kept : (other : ℕ) (block : Block) → chunks_of areas (with_draft truth old) other ≡ Some block → block.kind ≢ 2 → chunks_of areas (with_draft truth new) other ≡ Some block
    kept other block some apart = by (e.each other)
      where
        by : (chunks_of areas (with_draft truth new) other ≡ chunks_of areas (with_draft truth old) other) ⊎ HasPageAt pages other → chunks_of areas (with_draft truth new) other ≡ Some block
        by (inl same) = same ∙ some
        by (inr p) =
            let n = (at.levels p.there.level p.there.within).nodes_are p.node p.there.there in
            let b : block ≡ n.block = one_block block n.block (sym some ∙ ap (chunks_of areas (with_draft truth old)) (sym p.names) ∙ n.chunk) in
            absurd (apart (ap (λ (x : Block). x.kind) b ∙ n.has.kind))

    holds_now : HoldsInode areas (with_draft truth new) handle d.inode
    holds_now = record {
      block = d.holds.block;
      chunk = kept handle d.holds.block d.holds.chunk (λ two. let one = d.holds.has.kind in omega (arith, one, two));
      has = d.holds.has;
    }

    at_now : IsTree (chunks_of areas (with_draft truth new)) d.inode.tree after
    at_now = subst (λ (r : ℕ). IsTree (chunks_of areas (with_draft truth new)) r after) (sym d.root_is) e.anew.is

    each : (other : ℕ) (block : Block) → chunks_of areas (with_draft truth new) other ≡ Some block
        → (chunks_of areas (with_draft truth old) other ≡ Some block) ⊎ ((other ≡ handle) ⊎ (IsPageUnder areas (with_draft truth new) handle other ⊎ (block.kind ≡ 3)))
    each other block some = by (e.each other)
      where
        by : (chunks_of areas (with_draft truth new) other ≡ chunks_of areas (with_draft truth old) other) ⊎ HasPageAt pages other
            → (chunks_of areas (with_draft truth old) other ≡ Some block) ⊎ ((other ≡ handle) ⊎ (IsPageUnder areas (with_draft truth new) handle other ⊎ (block.kind ≡ 3)))
        by (inl same) = inl (sym same ∙ some)
        by (inr p) = let f = e.anew.forth p.node p.there in
            inr (inr (inl (record { inode = d.inode; holds = holds_now; tree = after; is = at_now; node = f.0; there = f.1; names = f.2 ∙ p.names })))

    inode_block : (block : Block) → chunks_of areas (with_draft truth new) handle ≡ Some block → block ≡ d.holds.block
    unfolding holds_now
    inode_block block some = one_block block d.holds.block (sym some ∙ holds_now.chunk)

    pub leads_on : (other : Hints) → HintsFitAll areas other (with_draft truth old) → HintsFitAll areas other (with_draft truth new)
    leads_on other fit =
        fit_still areas other (with_draft truth old) (with_draft truth new) tree_now handle stands_now
        (record { given = (keeps_slots areas (with_draft truth old) (with_draft truth new) e.slots).given; used = λ h b some given. e.used h b some })
        (record { inode = d.inode; holds = holds_now; each = each })
        this fit
      where
        this : (inode : Inode) (found : PageTree) → HoldsInode areas (with_draft truth new) handle inode → IsTree (chunks_of areas (with_draft truth new)) inode.tree found → HintsFit areas other (with_draft truth new) inode.tree found
        this inode found holds is =
            let b = inode_block holds.block holds.chunk in
            let i : inode ≡ d.inode = one_inode inode d.inode d.holds.block.payload (subst (λ (x : Block). SpellsInode inode x.payload) b holds.has.spells) d.holds.has.spells in
            let r : inode.tree ≡ root = ap (λ (x : Inode). x.tree) i ∙ d.root_is in
            subst (λ (n : ℕ). HintsFit areas other (with_draft truth new) n found) (sym r)
            (fit_other areas other (with_draft truth new) root after found e.anew.is (subst (λ (n : ℕ). IsTree (chunks_of areas (with_draft truth new)) n found) r is) (e.leads other (fits other fit)))

    pub edits : EditsDirectory areas held hints truth old new root tree handle file parent next names_now
    edits = record {
      directory = record {
        few = d.few;
        same = d.same;
        is = stands_now;
        fit = leads_on hints d.fit;
        inode = d.inode;
        holds = holds_now;
        root_is = d.root_is;
        there = file_with tree.files (with_names file parent next names_now) handle ∙ ap (λ (t : Bool). if t then Some (with_names file parent next names_now) else file_at tree.files handle) (eq_true file.handle handle (shown areas (with_draft truth old) tree handle file d.is d.there).handle_is);
        body = refl;
      };
      kept = kept;
      leads = leads_on;
    }
