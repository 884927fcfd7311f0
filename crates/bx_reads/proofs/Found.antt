-- The file that a file handle names, by the inode that is found.
use Rattle.std.proofs.Common.{◌≡◌, ℕ, arith, List, [], sym, ap, ◌∙◌, subst, Some, None}
use Rattle.std.specs.Prelude.{Err}
use Rattle.bx_base.specs.declared.names.Mode.TheVariants.{Shared}
use Rattle.bx_files.specs.bx_blink.specs.Walks.{reads_with}
use Rattle.bx_places.specs.Handles.{named}
use Rattle.bx_files.specs.bx_inodes.specs.declared.stop.Stop.{Stop}
use Rattle.bx_files.specs.bx_inodes.specs.declared.stop.Stop.TheVariants.{Need, Inner, Status, OutOfMemory}
use Rattle.bx_files.specs.bx_inodes.specs.Inodes.{FileAt, HoldsInode, IsInodeOf, LiveAt}
use Rattle.bx_files.specs.bx_inodes.specs.Stands.{Stands}
use Rattle.bx_layout.specs.declared.inode.Inode.{Inode}
use Rattle.bx_model.specs.declared.tree.Tree.{Tree}
use Rattle.bx_model.specs.Reading.{named_file, path_of}
use Rattle.bx_views.specs.bx_records.specs.Drafts.{Changed}
use Rattle.bx_tree_files.specs.declared.file.Body.{Body}
use Rattle.bx_tree_files.specs.declared.file.Body.TheVariants.{Bytes, Path, Names}
use Rattle.bx_tree_files.specs.declared.file.File.{File}
use Rattle.bx_tree_files.specs.Files.{file_at}
use Rattle.bx_files.specs.bx_truth.specs.Chunks.{chunks_of}
use Rattle.bx_files.specs.bx_truth.specs.PageTrees.{Chunks}
use Rattle.bx_files.specs.bx_truth.specs.Stands.{StandsFor, IsAnInode, IsOwned}
use Rattle.bx_files.specs.bx_truth.specs.Stored.{HasBody, IsFileOr, Owner, Stored}
use Rattle.bx_files.specs.bx_truth.proofs.OneFiles.{one_inode}
use Rattle.bx_views.specs.Truths.{Held, Hints, Truth, with_draft}
use Rattle.bx_reads.specs.Files.{IsNamed, IsSeen, NamesFile}
use Rattle.bx_reads.proofs.Told.{named_as, over_none, size_fits}

-- the path of a link's inode is the file's
body_path : (chunks : Chunks) (owner : ℕ → Owner) (handle : ℕ) (stored : Stored) (body : Body) → HasBody chunks owner handle stored body → stored.inode.kind ≡ 5 → path_of body ≡ stored.inode.path
body_path chunks owner handle stored (Bytes bytes) has link = absurd (omega (arith, has.kind, link))
body_path chunks owner handle stored (Path path) has link = sym has.path_is
body_path chunks owner handle stored (Names parent next names) has link = absurd (omega (arith, has.kind, link))

path_kept : (areas : ℕ) (truth : Truth) (tree : Tree) (handle : ℕ) (inode : Inode) (file : File) → StandsFor areas truth tree → HoldsInode areas truth handle inode
    → file_at tree.files handle ≡ Some file → inode.kind ≡ 5 → path_of file.body ≡ inode.path
path_kept areas truth tree handle inode file is holds there link =
    body_path (chunks_of areas truth) is.owner handle (is.stored handle) file.body body.2 (ap (λ (i : Inode). i.kind) same ∙ link) ∙ ap (λ (i : Inode). i.path) same
  where
    was : IsAnInode (chunks_of areas truth) is.owner is.stored tree.files handle holds.block
    was = subst (IsOwned (chunks_of areas truth) is.owner is.stored tree.files handle holds.block) (is.are_files.all handle file there).0 (is.are_files.each handle holds.block holds.chunk)

    same : (is.stored handle).inode ≡ inode
    same = one_inode (is.stored handle).inode inode holds.block.payload was.inode.spells holds.has.spells

    body : IsFileOr (chunks_of areas truth) is.owner handle (is.stored handle) (Some file)
    body = subst (IsFileOr (chunks_of areas truth) is.owner handle (is.stored handle)) there was.file

-- the inode of a file is seen
pub seen_named : (held : Held) (hints : Hints) (volume areas : ℕ) (bytes : List ℕ) (draft : List Changed) (handle : ℕ) (inode : Inode) → draft ≡ [] → Some handle ≡ named volume bytes
    → LiveAt (reads_with held hints draft) areas handle Shared inode → IsSeen held hints volume areas bytes handle inode
seen_named held hints volume areas bytes draft handle inode none is live =
    record { named_is = sym is; live = subst (λ (d : List Changed). LiveAt (reads_with held hints d) areas handle Shared inode) none live }

module _ (areas volume : ℕ) (truth : Truth) (tree : Tree) (bytes : List ℕ) (s : Stands volume areas truth tree) where
  pub no_name : None ≡ named volume bytes → named_file tree bytes ≡ None
  no_name is = named_as tree volume bytes None s.volume_is is

  module _ (draft : List Changed) (none : draft ≡ []) (handle : ℕ) (is : Some handle ≡ named volume bytes) where
    pub stands_over : StandsFor areas (with_draft truth draft) tree
    stands_over = over_none areas truth tree draft none s.is

    pub stopped : (stop : Stop) → FileAt areas (with_draft truth draft) tree handle (Err stop) → NamesFile areas truth tree bytes (Err stop)
    stopped (Status status) (code, nothing) = (code, named_as tree volume bytes (Some handle) s.volume_is is ∙ nothing)
    stopped (Need at mode) f = tt
    stopped (Inner blocks) never = never
    stopped OutOfMemory f = tt

    pub found : (inode : Inode) → IsInodeOf areas (with_draft truth draft) tree handle inode → IsNamed areas truth tree bytes handle inode
    found inode f = record {
      file = f.file;
      there = named_as tree volume bytes (Some handle) s.volume_is is ∙ f.there;
      found = f.there;
      holds = subst (λ (d : List Changed). HoldsInode areas (with_draft truth d) handle inode) none f.holds;
      handle_is = f.handle_is;
      fields = f.fields;
      size = f.size;
      size_fits = size_fits tree handle f.file s.file_tree f.there;
      path = path_kept areas (with_draft truth draft) tree handle inode f.file stands_over f.holds f.there;
    }
