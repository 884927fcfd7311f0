-- A directory of a file tree, as a list of entries.
use Rattle.std.proofs.Common.{◌≡◌, ℕ, ◌≤◌, List, subst, Some}
use Rattle.bx_layout.specs.declared.inode.Inode.{Inode}
use Rattle.bx_model.specs.declared.tree.Tree.{Tree}
use Rattle.bx_records.specs.Drafts.{Changed}
use Rattle.bx_tree_files.specs.declared.file.Body.{Body}
use Rattle.bx_tree_files.specs.declared.file.Body.TheVariants.{Names}
use Rattle.bx_tree_files.specs.declared.file.File.{File}
use Rattle.bx_tree_files.specs.declared.file.Name.{Name}
use Rattle.bx_tree_files.specs.Files.{file_at}
use Rattle.bx_truth.specs.Chunks.{chunks_of}
use Rattle.bx_truth.specs.Stands.{StandsFor}
use Rattle.bx_truth.specs.Stored.{HasBody, IsDirectory, Stored}
use Rattle.bx_truth.proofs.Put.{shown}
use Rattle.bx_views.specs.Truths.{Truth, Held, Hints, IsTruth, with_draft}
use Rattle.bx_inodes.specs.Inodes.{HoldsInode}
use Rattle.bx_inodes.specs.Fitting.{HintsFitAll}
use Rattle.bx_inodes.proofs.Pages.{stored_is}
use Rattle.bx_dirs.specs.Entries.{HasEntries}

pub has_entries : (areas : ℕ) (held : Held) (hints : Hints) (truth : Truth) (draft : List Changed) (tree : Tree) (handle : ℕ) (inode : Inode) (file : File) (parent next : ℕ) (names : List Name)
    → areas ≤ 64 → IsTruth held truth → StandsFor areas (with_draft truth draft) tree → HintsFitAll areas hints (with_draft truth draft)
    → HoldsInode areas (with_draft truth draft) handle inode → file_at tree.files handle ≡ Some file → file.body ≡ Names parent next names
    → HasEntries areas held hints truth draft inode.tree names
has_entries areas held hints truth draft tree handle inode file parent next names few same is fit holds there body_is = record {
  tree = (is.stored handle).tree;
  under = record { few = few; same = same; chunked = is.chunked; is = directory.tree.is; hints = fit.each handle inode (is.stored handle).tree holds directory.tree.is };
  entries = directory.entries;
}
  where
    has : HasBody (chunks_of areas (with_draft truth draft)) is.owner handle (record { inode = inode; tree = (is.stored handle).tree }) file.body
    has = subst (λ (s : Stored). HasBody (chunks_of areas (with_draft truth draft)) is.owner handle s file.body) (stored_is areas (with_draft truth draft) tree is handle inode holds)
        (shown areas (with_draft truth draft) tree handle file is there).body

    directory : IsDirectory (chunks_of areas (with_draft truth draft)) is.owner handle (record { inode = inode; tree = (is.stored handle).tree }) parent next names
    directory = subst (λ (b : Body). HasBody (chunks_of areas (with_draft truth draft)) is.owner handle (record { inode = inode; tree = (is.stored handle).tree }) b) body_is has
