-- The file with another size, and clearing first.
use Rattle.std.proofs.Common.{◌≡◌, ℕ, ◌≤◌, arith, Bool, true, false, List, [], Some, sym, ap, ◌∙◌, subst, refl, inl, inr, Err}
use Rattle.std.specs.Prelude.{◌⊎◌, ◌==◌, ◌&&◌, if◌then◌else◌, length, nat_lt}
use Rattle.std.proofs.lemmas.Bool.Decides.{nat_tests}
use Rattle.bx_changes.proofs.AttributesSet.{fields_now}
use Rattle.bx_changes.specs.Given.{with_given}
use Rattle.bx_changes.specs.Growing.{LeavesTrees}
use Rattle.bx_inodes.specs.declared.stop.Stop.{Stop}
use Rattle.bx_inodes.specs.declared.stop.Stop.TheVariants.{Need, Inner, Status, OutOfMemory}
use Rattle.bx_inodes.specs.Inodes.{HoldsInode, shown_size}
use Rattle.bx_inodes.specs.Writing.{PutsInode}
use Rattle.bx_layout.specs.declared.inode.Inode.{Inode}
use Rattle.bx_model.specs.declared.tree.Tree.{Tree}
use Rattle.bx_records.specs.Drafts.{Changed}
use Rattle.bx_tree_files.specs.declared.file.Body.{Body}
use Rattle.bx_tree_files.specs.declared.file.Body.TheVariants.{Bytes, Path, Names}
use Rattle.bx_tree_files.specs.declared.file.File.{File}
use Rattle.bx_tree_files.specs.declared.sattr.Sattr.{Sattr}
use Rattle.bx_tree_files.specs.Changes.{resized, with_fields}
use Rattle.bx_tree_files.specs.Contents.{sized}
use Rattle.bx_tree_files.specs.Files.{file_at, size_of}
use Rattle.bx_tree_files.specs.Times.{Time, is_given}
use Rattle.bx_truth.specs.Chunks.{chunks_of}
use Rattle.bx_truth.specs.Stands.{StandsFor}
use Rattle.bx_truth.specs.Stored.{AreBytesOf, HasBody, HasFields, Owner, Stored, piece_of}
use Rattle.bx_truth.specs.PageTrees.{Chunks}
use Rattle.bx_truth.proofs.OneFiles.{one_list}
use Rattle.bx_truth.proofs.Put.{shown}
use Rattle.bx_inodes.proofs.Pages.{inode_is}
use Rattle.bx_views.specs.Truths.{Held, IsTruth, Truth}
use Rattle.bx_sizes.proofs.Bytes.{long, resized as resized_bytes}
use Rattle.bx_sizes.proofs.InodePut.{bytes_were, inode_leads, inode_put}
use Rattle.bx_sizes.specs.Answers.{Clears, LeavesTree, PutsFile, SetsSize}
use Rattle.bx_sizes.specs.Lengths.{grows_over, with_length}

-- the body of a regular file is bytes
bytes_of : (chunks : Chunks) (owner : ℕ → Owner) (handle : ℕ) (stored : Stored) (body : Body) → HasBody chunks owner handle stored body → stored.inode.kind ≡ 1 → (bytes : List ℕ) × (body ≡ Bytes bytes)
bytes_of chunks owner handle stored (Bytes bytes) has kind = (bytes, refl)
bytes_of chunks owner handle stored (Path path) has kind = let other = has.kind in absurd (omega (arith, kind, other))
bytes_of chunks owner handle stored (Names parent next names) has kind = let other = has.kind in absurd (omega (arith, kind, other))

-- a regular file by its inode: its body, and its size
module _ (areas : ℕ) (truth : Truth) (tree : Tree) (handle : ℕ) (file : File) (inode : Inode) (is : StandsFor areas truth tree) (holds : HoldsInode areas truth handle inode)
    (there : file_at tree.files handle ≡ Some file) (kind : inode.kind ≡ 1) where
  pub regular_bytes : (bytes : List ℕ) × (file.body ≡ Bytes bytes)
  regular_bytes = bytes_of (chunks_of areas truth) is.owner handle (is.stored handle) file.body (shown areas truth tree handle file is there).body
      (ap (λ (i : Inode). i.kind) (inode_is areas truth tree is handle inode holds) ∙ kind)

  pub regular_fields : HasFields inode file
  regular_fields = subst (λ (i : Inode). HasFields i file) (inode_is areas truth tree is handle inode holds) (shown areas truth tree handle file is there).fields

  pub regular_handle : file.handle ≡ handle
  regular_handle = (shown areas truth tree handle file is there).handle_is

-- growing over nothing that was cut
pub over_none : (size tail size_now : ℕ) → (nat_lt size size_now && nat_lt size tail) ≡ false → (size_now ≤ size) ⊎ (tail ≤ size)
over_none size tail size_now test = by (nat_lt size size_now) (nat_lt size tail) refl refl test
  where
    by : (a b : Bool) → nat_lt size size_now ≡ a → nat_lt size tail ≡ b → (a && b) ≡ false → (size_now ≤ size) ⊎ (tail ≤ size)
    by false b first second both = inl (grind (arith, nat_tests, first))
    by true false first second both = inr (grind (arith, nat_tests, second))
    by true true first second both = absurd cc

-- ---- the size is set

module _ (areas : ℕ) (held : Held) (truth : Truth) (draft : List Changed) (tree : Tree) (handle : ℕ) (file : File) (inode made : Inode) (sattr : Sattr) (now : Time) (same : IsTruth held truth) (is : StandsFor areas truth tree)
    (holds : HoldsInode areas truth handle inode) (there : file_at tree.files handle ≡ Some file) (kind : inode.kind ≡ 1) (given : is_given sattr.size ≡ true) (most : sattr.size ≤ 2147483647)
    (clear : grows_over inode sattr.size ≡ false) (made_is : made ≡ with_length sattr.size (with_given now sattr inode)) (puts : PutsInode [] draft handle made) (bytes : List ℕ) (body_is : file.body ≡ Bytes bytes) where
  body_now : (with_fields now sattr file).body ≡ Bytes (sized sattr.size bytes)
  body_now = ap (λ (b : Bool). if b then resized sattr.size file.body else file.body) given ∙ ap (resized sattr.size) body_is

  fields : HasFields made (with_fields now sattr file)
  fields =
      let f = fields_now sattr now file inode (regular_fields areas truth tree handle file inode is holds there kind) in
      subst (λ (i : Inode). HasFields i (with_fields now sattr file)) (sym made_is)
      (record { kind = f.kind; mode = f.mode; nlink = f.nlink; uid = f.uid; gid = f.gid; atime = f.atime; mtime = f.mtime; ctime = f.ctime })

  kind_same : made.kind ≡ inode.kind
  kind_same = ap (λ (i : Inode). i.kind) made_is

  tree_same : made.tree ≡ inode.tree
  tree_same = ap (λ (i : Inode). i.tree) made_is

  handle_now : (with_fields now sattr file).handle ≡ handle
  handle_now = regular_handle areas truth tree handle file inode is holds there kind

  pub size_put : PutsFile areas truth tree (with_fields now sattr file) draft made
  size_put = record {
    stands = inode_put areas held truth [] draft tree handle file (with_fields now sattr file) bytes (sized sattr.size bytes) inode made same is there holds puts body_is body_now kind_same tree_same
        (subst (λ (i : Inode). AreBytesOf (piece_of (chunks_of areas truth) (is.stored handle).tree) i.size i.tail (sized sattr.size bytes)) (sym made_is)
        (resized_bytes (piece_of (chunks_of areas truth) (is.stored handle).tree) inode.size inode.tail bytes were sattr.size (over_none inode.size inode.tail sattr.size clear) (omega (arith, most))))
        fields handle_now;
    fields = fields;
    size = size_long ∙ sym shown_is;
    small = let less = size_long in omega (arith, less, most);
    leads = λ hints fit. inode_leads areas held truth [] draft tree handle file (with_fields now sattr file) bytes (sized sattr.size bytes) inode made same is there holds puts body_is body_now kind_same tree_same hints fit;
  }
    where
      were : AreBytesOf (piece_of (chunks_of areas truth) (is.stored handle).tree) inode.size inode.tail bytes
      were = bytes_were areas held truth [] draft tree handle file (with_fields now sattr file) bytes (sized sattr.size bytes) inode made same is there holds puts body_is body_now kind_same tree_same

      size_long : size_of (with_fields now sattr file).body ≡ sattr.size
      size_long = ap size_of body_now ∙ long (piece_of (chunks_of areas truth) (is.stored handle).tree) inode.size inode.tail bytes were sattr.size (over_none inode.size inode.tail sattr.size clear) (omega (arith, most))

      shown_is : shown_size made ≡ sattr.size
      shown_is = (λ i. if (made_is i).kind == 2 then 4096 else if (made_is i).kind == 5 then length (made_is i).path else (made_is i).size)
          ∙ (λ i. if (kind i) == 2 then 4096 else if (kind i) == 5 then length inode.path else sattr.size)

-- ---- clearing first

module _ (areas : ℕ) (truth : Truth) (tree : Tree) (handle : ℕ) (file : File) (inode : Inode) (draft : List Changed) (is : StandsFor areas truth tree) (holds : HoldsInode areas truth handle inode)
    (there : file_at tree.files handle ≡ Some file) (kind : inode.kind ≡ 1) where
  pub leaves_trees : ((was : Tree) (of : File) (bytes : List ℕ) → StandsFor areas truth was → file_at was.files handle ≡ Some of → of.body ≡ Bytes bytes → LeavesTree areas truth was draft) → LeavesTrees areas truth draft
  leaves_trees clears = record {
    stands = λ volume was s. record { is = (clears was file (bytes_in was s.is).0 s.is (there_in was s.is) (bytes_in was s.is).1).stands; volume_is = s.volume_is; file_tree = s.file_tree };
    leads = (clears tree file (bytes_in tree is).0 is there (bytes_in tree is).1).leads;
  }
    where
      there_in : (was : Tree) → StandsFor areas truth was → file_at was.files handle ≡ Some file
      there_in was s = ap (λ (l : List File). file_at l handle) (one_list (chunks_of areas truth) s.owner is.owner s.stored is.stored was.files tree.files s.in_order is.in_order s.are_files is.are_files) ∙ there

      bytes_in : (was : Tree) → StandsFor areas truth was → (bytes : List ℕ) × (file.body ≡ Bytes bytes)
      bytes_in was s = regular_bytes areas truth was handle file inode s holds (there_in was s) kind

pub clear_stops : (areas : ℕ) (truth : Truth) (tree : Tree) (file : File) (stop : Stop) → Clears areas truth tree (Err stop) → SetsSize areas truth tree file (Err stop)
clear_stops areas truth tree file (Need at mode) c = tt
clear_stops areas truth tree file (Inner blocks) c = absurd c
clear_stops areas truth tree file (Status status) c = c
clear_stops areas truth tree file OutOfMemory c = tt
