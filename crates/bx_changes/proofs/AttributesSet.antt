-- What SETATTR of anything but a size comes to, by the inode of the file.
use Rattle.std.proofs.Common.{◌≡◌, ℕ, ◌<◌, ◌^◌, ◌%◌, Bool, true, false, List, refl, sym, ap, ◌∙◌, subst, Option, Some, None}
use Rattle.std.specs.Prelude.{◌==◌, ◌&&◌, ◌||◌, not, nat_lt, if◌then◌else◌, Ok, Err}
use Rattle.bx_changes.specs.Changes.{Changes, IsChange}
use Rattle.bx_changes.specs.Given.{with_given}
use Rattle.bx_changes.proofs.FileChanged.{changed_is_put}
use Rattle.bx_places.specs.Handles.{named}
use Rattle.bx_reads.specs.bx_inodes.specs.declared.stop.Stop.{Stop}
use Rattle.bx_reads.specs.bx_inodes.specs.declared.stop.Stop.TheVariants.{Need, Inner, Status, OutOfMemory}
use Rattle.bx_reads.specs.bx_inodes.specs.Heads.{head_of}
use Rattle.bx_reads.specs.bx_inodes.specs.Inodes.{FileAt, HoldsInode, IsInodeOf, shown_size}
use Rattle.bx_reads.specs.bx_inodes.specs.Stands.{Stands}
use Rattle.bx_layout.specs.declared.inode.Inode.{Inode}
use Rattle.bx_model.specs.declared.call.Call.{Call}
use Rattle.bx_model.specs.declared.permissions.Want.TheVariants as want
use Rattle.bx_model.specs.declared.reply.Reply.{Reply}
use Rattle.bx_model.specs.declared.reply.Reply.TheVariants.{Attributes}
use Rattle.bx_model.specs.declared.tree.Tree.{Tree}
use Rattle.bx_model.specs.Edits.{changed}
use Rattle.bx_model.specs.Permissions.{is_in_group, may}
use Rattle.bx_model.specs.Reading.{attributes_reply}
use Rattle.bx_model.specs.Steps.{Outcome, must, refuse, ◌>>=◌, ◌>>◌}
use Rattle.bx_model.specs.Writing.{is_forbidden, resize_errors, setattr}
use Rattle.bx_reads.proofs.Told.{named_as, size_fits}
use Rattle.bx_records.specs.Drafts.{Changed}
use Rattle.bx_tree_files.specs.declared.file.File.{File}
use Rattle.bx_tree_files.specs.declared.sattr.Sattr.{Sattr}
use Rattle.bx_tree_files.specs.Attributes.{attributes_of}
use Rattle.bx_tree_files.specs.Changes.{most_bytes, resized, sets_field, with_fields}
use Rattle.bx_tree_files.specs.Files.{file_at, is_directory, is_link, size_of, with_changed, with_file}
use Rattle.bx_tree_files.specs.Times.{Time, is_given, stored}
use Rattle.bx_reads.specs.bx_tree_laws.proofs.Writings.{setattr_keeps}
use Rattle.bx_reads.specs.bx_truth.specs.Rewritten.{KeepsBody}
use Rattle.bx_reads.specs.bx_truth.specs.Stands.{StandsFor}
use Rattle.bx_reads.specs.bx_truth.specs.Stored.{HasFields}
use Rattle.bx_views.specs.Truths.{Truth, with_draft}

no_size : (call : Call) (sattr : Sattr) (file : File) → is_given sattr.size ≡ false → resize_errors call file sattr.size ≡ Ok tt
no_size call sattr file none = λ i.
    refuse (none i && is_directory file) 21
    >> (refuse (none i && is_link file) 6 >> (refuse (none i && not (may call file want.Write)) 13 >> refuse (none i && nat_lt most_bytes sattr.size) 27))

module _ (sattr : Sattr) (now : Time) (file : File) where
  same_body : is_given sattr.size ≡ false → (with_fields now sattr file).body ≡ file.body
  same_body none = ap (λ (b : Bool). if b then resized sattr.size file.body else file.body) none

  -- the fields of the inode are those of the file, before and then
  pub fields_now : (inode : Inode) → HasFields inode file → HasFields (with_given now sattr inode) (with_fields now sattr file)
  fields_now inode fields = record {
    kind = fields.kind;
    mode = ap (λ (n : ℕ). if is_given sattr.mode then sattr.mode % 4096 else n) fields.mode;
    nlink = fields.nlink;
    uid = ap (λ (n : ℕ). if is_given sattr.uid then sattr.uid else n) fields.uid;
    gid = ap (λ (n : ℕ). if is_given sattr.gid then sattr.gid else n) fields.gid;
    atime = ap (λ (t : Time). if is_given sattr.atime.0 then stored sattr.atime else t) fields.atime;
    mtime = ap (λ (t : Time). if is_given sattr.mtime.0 then stored sattr.mtime else if is_given sattr.size then now else t) fields.mtime;
    ctime = ap (λ (t : Time). if sets_field sattr then now else t) fields.ctime;
  }

-- what the caller may, by the inode, is what the caller may by the file
module _ (call : Call) (sattr : Sattr) where
  abbrev forbids_by : ℕ → ℕ → Bool
  forbids_by uid gid =
      ((is_given sattr.mode || is_given sattr.atime.0 || is_given sattr.mtime.0) && not ((call.uid == 0) || (call.uid == uid)))
      || (is_given sattr.uid && not ((call.uid == 0) || ((call.uid == uid) && (sattr.uid == uid))))
      || (is_given sattr.gid && not ((call.uid == 0) || ((call.uid == uid) && ((sattr.gid == gid) || is_in_group call sattr.gid))))

  pub right_is : (handle : ℕ) (inode : Inode) (file : File) → HasFields inode file → is_forbidden call (head_of handle inode) sattr ≡ is_forbidden call file sattr
  right_is handle inode file fields = λ i. forbids_by (fields.uid i) (fields.gid i)

module _ (tree : Tree) (volume : ℕ) (bytes : List ℕ) (call : Call) (sattr : Sattr) (now : Time) (same : tree.volume ≡ volume) where
  abbrev done : File → Outcome
  done file = Ok (attributes_reply tree (with_fields now sattr file), changed tree file.handle (with_fields now sattr))

  abbrev set : Option File → Outcome
  set found = must found 70 >>= (λ file. refuse (is_forbidden call file sattr) 1 >> (resize_errors call file sattr.size >> done file))

  pub no_name : None ≡ named volume bytes → setattr tree call bytes sattr now ≡ Err 70
  no_name is = ap set (named_as tree volume bytes None same is)

  pub stopped : (areas : ℕ) (truth again : Truth) (handle : ℕ) (stop : Stop) → Some handle ≡ named volume bytes → FileAt areas truth tree handle (Err stop)
      → IsChange volume areas again tree (setattr tree call bytes sattr now) (Err stop)
  stopped areas truth again handle (Status status) is (code, none) = ap set (named_as tree volume bytes (Some handle) same is ∙ none) ∙ ap Err (sym code)
  stopped areas truth again handle (Need at mode) is f = tt
  stopped areas truth again handle (Inner blocks) is never = never
  stopped areas truth again handle OutOfMemory is f = tt

  module _ (none : is_given sattr.size ≡ false) (handle : ℕ) (file : File) (is : Some handle ≡ named volume bytes) (there : file_at tree.files handle ≡ Some file) where
    abbrev rest : Bool → Outcome
    rest forbidden = refuse forbidden 1 >> done file

    by_right : setattr tree call bytes sattr now ≡ rest (is_forbidden call file sattr)
    by_right = ap set (named_as tree volume bytes (Some handle) same is ∙ there) ∙ (λ i. refuse (is_forbidden call file sattr) 1 >> (no_size call sattr file none i >> done file))

    pub refused : true ≡ is_forbidden call file sattr → setattr tree call bytes sattr now ≡ Err 1
    refused forbidden = by_right ∙ ap rest (sym forbidden)

    pub is_set : false ≡ is_forbidden call file sattr → setattr tree call bytes sattr now ≡ done file
    is_set forbidden = by_right ∙ ap rest (sym forbidden)

-- the answer where the attributes are set
module _ (volume areas : ℕ) (truth : Truth) (tree : Tree) (bytes : List ℕ) (call : Call) (sattr : Sattr) (now : Time) (handle : ℕ) (inode : Inode)
    (none : is_given sattr.size ≡ false) (s : Stands volume areas truth tree) (f : IsInodeOf areas truth tree handle inode) (is : named volume bytes ≡ Some handle) where
  abbrev new : Inode
  new = with_given now sattr inode

  abbrev file_now : File
  file_now = with_fields now sattr f.file

  pub not_allowed : true ≡ is_forbidden call (head_of handle inode) sattr → setattr tree call bytes sattr now ≡ Err 1
  not_allowed forbidden = refused tree volume bytes call sattr now s.volume_is none handle f.file (sym is) f.there (forbidden ∙ right_is call sattr handle inode f.file f.fields)

  body_is : file_now.body ≡ f.file.body
  body_is = same_body sattr now f.file none

  new_fields : HasFields (with_given now sattr inode) (with_fields now sattr f.file)
  new_fields = fields_now sattr now f.file inode f.fields

  size_is : size_of file_now.body ≡ shown_size inode
  size_is = ap size_of body_is ∙ f.size

  size_less : size_of file_now.body < 2 ^ 31
  size_less = subst (λ (n : ℕ). n < 2 ^ 31) (sym (ap size_of body_is)) (size_fits tree handle f.file s.file_tree f.there)

  keeps : KeepsBody inode new
  keeps = record { kind = refl; size = refl; tail = refl; tree = refl; parent = refl; next = refl; path = refl }

  pub change : (draft : List Changed) (reply : Reply) (made : Inode) → made ≡ with_given now sattr inode → false ≡ is_forbidden call (head_of handle inode) sattr
      → ((other : File) → other.handle ≡ handle → HasFields made other → size_of other.body ≡ shown_size made → size_of other.body < 2 ^ 31 → reply ≡ Attributes (attributes_of volume other))
      → ((areas' : ℕ) (truth' : Truth) (was : Tree) (before after : File) (old : Inode) → StandsFor areas' truth' was → file_at was.files handle ≡ Some before → HoldsInode areas' truth' handle old
      → KeepsBody old made → HasFields made after → after.handle ≡ handle → after.body ≡ before.body → StandsFor areas' (with_draft truth' draft) (record was { files = with_file was.files after }))
      → Changes volume areas truth (setattr tree call bytes sattr now) draft reply
  change draft reply made same allowed tells stands =
      let fields : HasFields made file_now = subst (λ (i : Inode). HasFields i file_now) (sym same) new_fields in
      let size : size_of file_now.body ≡ shown_size made = size_is ∙ ap shown_size (sym same) in
      let kept : KeepsBody inode made = subst (KeepsBody inode) (sym same) keeps in
      let told : reply ≡ Attributes (attributes_of volume file_now) = tells file_now f.handle_is fields size size_less in
      let files : with_file tree.files file_now ≡ with_changed tree.files f.file.handle (with_fields now sattr) =
      sym (ap (λ (h : ℕ). with_changed tree.files h (with_fields now sattr)) f.handle_is ∙ changed_is_put tree.files handle (with_fields now sattr) f.file s.is.in_order f.there f.handle_is) in
      let comes : setattr tree call bytes sattr now ≡ Ok (reply, changed tree f.file.handle (with_fields now sattr)) =
      is_set tree volume bytes call sattr now s.volume_is none handle f.file (sym is) f.there (allowed ∙ right_is call sattr handle inode f.file f.fields)
      ∙ (λ i. Ok (Attributes (attributes_of (s.volume_is i) file_now), changed tree f.file.handle (with_fields now sattr)))
      ∙ ap (λ (r : Reply). Ok (r, changed tree f.file.handle (with_fields now sattr))) (sym told) in
      record {
        next = changed tree f.file.handle (with_fields now sattr);
        comes_to = comes;
        stands = record {
          is = subst (λ (l : List File). StandsFor areas (with_draft truth draft) (record tree { files = l })) files (stands areas truth tree f.file file_now inode s.is f.there f.holds kept fields f.handle_is body_is);
          volume_is = s.volume_is;
          file_tree = (setattr_keeps tree call bytes sattr now reply (changed tree f.file.handle (with_fields now sattr)) s.file_tree comes).is;
        };
      }
