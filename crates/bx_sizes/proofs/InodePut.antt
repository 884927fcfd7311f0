-- The inode of a regular file is put over a draft, with another size or tail.
use Rattle.std.proofs.Common.{◌≡◌, ℕ, arith, List, sym, ap, ◌∙◌, subst, Some}
use Rattle.std.specs.Prelude.{◌≢◌}
use Rattle.bx_inodes.specs.Fitting.{HintsFitAll}
use Rattle.bx_inodes.proofs.Pages.{inode_is}
use Rattle.bx_inodes.specs.Inodes.{HoldsInode}
use Rattle.bx_inodes.specs.Writing.{PutsInode}
use Rattle.bx_layout.specs.declared.inode.Inode.{Inode}
use Rattle.bx_leaves.proofs.Written.{draft_elsewhere, own_not_slot}
use Rattle.bx_making.proofs.Puts.{put_chunk, put_holds, put_slots}
use Rattle.bx_model.specs.declared.tree.Tree.{Tree}
use Rattle.bx_records.specs.Drafts.{Changed}
use Rattle.bx_tree_files.specs.declared.file.Body.TheVariants.{Bytes}
use Rattle.bx_tree_files.specs.declared.file.File.{File}
use Rattle.bx_tree_files.specs.Files.{file_at, with_file}
use Rattle.bx_truth.specs.Chunks.{block_at, chunks_of, own_block}
use Rattle.bx_truth.specs.Edits.{ChunkAnew, SameSlots}
use Rattle.bx_truth.specs.PageTrees.{IsTree}
use Rattle.bx_truth.specs.Shown.{KeepsSlots}
use Rattle.bx_truth.specs.Stands.{StandsFor}
use Rattle.bx_truth.specs.Stored.{AreBytesOf, HasBody, HasFields, IsRegular, piece_of}
use Rattle.bx_truth.proofs.Dirs.{file_anew}
use Rattle.bx_truth.proofs.Put.{shown}
use Rattle.bx_truth.proofs.Same.{chunk_is}
use Rattle.bx_views.specs.Truths.{Held, Hints, IsTruth, Truth, with_draft}
use Rattle.bx_sizes.proofs.Fits.{inode_fits}

module _ (areas : ℕ) (held : Held) (truth : Truth) (old_draft new_draft : List Changed) (tree : Tree) (handle : ℕ) (file file_now : File) (bytes bytes_now : List ℕ) (old new : Inode)
    (same : IsTruth held truth) (is : StandsFor areas (with_draft truth old_draft) tree) (there : file_at tree.files handle ≡ Some file) (holds : HoldsInode areas (with_draft truth old_draft) handle old)
    (puts : PutsInode old_draft new_draft handle new) (body_is : file.body ≡ Bytes bytes) (body_now : file_now.body ≡ Bytes bytes_now) (kind : new.kind ≡ old.kind) (same_tree : new.tree ≡ old.tree) where
  inode_same : (is.stored handle).inode ≡ old
  inode_same = inode_is areas (with_draft truth old_draft) tree is handle old holds

  regular : IsRegular (chunks_of areas (with_draft truth old_draft)) is.owner handle (is.stored handle) bytes
  regular = subst (HasBody (chunks_of areas (with_draft truth old_draft)) is.owner handle (is.stored handle)) body_is (shown areas (with_draft truth old_draft) tree handle file is there).body

  anew : ChunkAnew (chunks_of areas (with_draft truth old_draft)) (chunks_of areas (with_draft truth new_draft)) handle puts.block
  anew = put_chunk areas held truth old_draft new_draft handle holds.block puts.block (record { same = same; chunked = is.chunked }) holds.chunk puts.is.header puts.put

  slots : KeepsSlots areas (with_draft truth old_draft) (with_draft truth new_draft)
  slots = put_slots areas held truth old_draft new_draft handle holds.block puts.block (record { same = same; chunked = is.chunked }) holds.chunk puts.is.header puts.put

  same_slots : SameSlots areas (with_draft truth old_draft) (with_draft truth new_draft)
  same_slots = record {
    chunked = (put_holds areas held truth old_draft new_draft handle holds.block puts.block (record { same = same; chunked = is.chunked }) holds.chunk puts.is.header puts.put).chunked;
    own = λ area less. subst (λ (d : List Changed). with_draft truth d (own_block area) ≡ with_draft truth old_draft (own_block area)) (sym puts.put)
        (draft_elsewhere truth old_draft (block_at handle) (own_block area) puts.block (own_not_slot areas (block_at handle) area (chunk_is areas (with_draft truth old_draft) handle holds.block holds.chunk).slot));
  }

  -- the bytes are those of the file's pieces
  pub bytes_were : AreBytesOf (piece_of (chunks_of areas (with_draft truth old_draft)) (is.stored handle).tree) old.size old.tail bytes
  bytes_were = subst (λ (i : Inode). AreBytesOf (piece_of (chunks_of areas (with_draft truth old_draft)) (is.stored handle).tree) i.size i.tail bytes) inode_same regular.bytes_are

  module _ (are : AreBytesOf (piece_of (chunks_of areas (with_draft truth old_draft)) (is.stored handle).tree) new.size new.tail bytes_now) where
    tree_is : new.tree ≡ (is.stored handle).inode.tree
    tree_is = same_tree ∙ ap (λ (i : Inode). i.tree) (sym inode_same)

    regular_now : IsRegular (chunks_of areas (with_draft truth old_draft)) is.owner handle (record { inode = new; tree = (is.stored handle).tree }) bytes_now
    regular_now = record {
      kind = kind ∙ ap (λ (i : Inode). i.kind) (sym inode_same) ∙ regular.kind;
      tree = record { is = subst (λ (r : ℕ). IsTree (chunks_of areas (with_draft truth old_draft)) r (is.stored handle).tree) (sym tree_is) regular.tree.is; pages = regular.tree.pages };
      contents = regular.contents;
      bytes_are = are;
    }

    pub inode_put : HasFields new file_now → file_now.handle ≡ handle → StandsFor areas (with_draft truth new_draft) (record tree { files = with_file tree.files file_now })
    inode_put fields same_handle =
        file_anew areas (with_draft truth old_draft) (with_draft truth new_draft) tree handle file file_now new puts.block is there same_slots anew puts.is.has tree_is same_handle fields
        (subst (HasBody (chunks_of areas (with_draft truth old_draft)) is.owner handle (record { inode = new; tree = (is.stored handle).tree })) (sym body_now) regular_now)

  -- the inode is the file's then
  pub inode_now : HoldsInode areas (with_draft truth new_draft) handle new
  inode_now = record { block = puts.block; chunk = anew.here; has = puts.is.has }

  pub inode_leads : (hints : Hints) → HintsFitAll areas hints (with_draft truth old_draft) → HintsFitAll areas hints (with_draft truth new_draft)
  inode_leads hints fit =
      inode_fits areas hints (with_draft truth old_draft) (with_draft truth new_draft) handle holds.block puts.block slots holds.chunk anew no_page fit old new holds.has puts.is.has same_tree
    where
      no_page : puts.block.kind ≢ 2
      no_page two = let one = puts.is.has.kind in absurd (omega (arith, two, one))
