-- What SETATTR with a size comes to, by the inode of the file.
use Rattle.std.proofs.Common.{◌≡◌, ℕ, ◌/◌, ◌<◌, ◌^◌, Bool, true, false, List, [], sym, ap, ◌∙◌, subst, Option, Some, inr}
use Rattle.std.specs.Prelude.{◌==◌, ◌&&◌, ◌||◌, bit_and, not, nat_lt, if◌then◌else◌, Result, Ok, Err}
use Rattle.bx_base.specs.declared.names.Mode.TheVariants.{Exclusive}
use Rattle.bx_blink.specs.Walks.{reads_with}
use Rattle.bx_changes.specs.Changes.{Changes, IsChange}
use Rattle.bx_changes.specs.First.{StopsFirst}
use Rattle.bx_changes.proofs.AttributesSet.{right_is}
use Rattle.bx_changes.proofs.FileChanged.{changed_is_put}
use Rattle.bx_places.specs.Handles.{named}
use Rattle.bx_inodes.specs.declared.stop.Stop.{Stop}
use Rattle.bx_inodes.specs.declared.stop.Stop.TheVariants.{Need, Inner, Status, OutOfMemory}
use Rattle.bx_inodes.specs.Heads.{head_of}
use Rattle.bx_inodes.specs.Inodes.{IsInodeOf, LiveAt, shown_size}
use Rattle.bx_inodes.specs.Stands.{Stands}
use Rattle.bx_inodes.specs.Stops.{NeedsOn}
use Rattle.bx_layout.specs.declared.inode.Inode.{Inode}
use Rattle.bx_model.specs.declared.call.Call.{Call}
use Rattle.bx_model.specs.declared.reply.Reply.{Reply}
use Rattle.bx_model.specs.declared.reply.Reply.TheVariants.{Attributes}
use Rattle.bx_model.specs.declared.tree.Tree.{Tree}
use Rattle.bx_model.specs.Edits.{changed}
use Rattle.bx_model.specs.Permissions.{is_in_group}
use Rattle.bx_model.specs.Reading.{attributes_reply}
use Rattle.bx_model.specs.Steps.{Outcome, must, refuse, ◌>>=◌, ◌>>◌}
use Rattle.bx_model.specs.Writing.{is_forbidden, resize_errors, setattr}
use Rattle.bx_changes.specs.bx_reads.proofs.Told.{named_as}
use Rattle.bx_records.specs.Drafts.{Changed}
use Rattle.bx_tree_files.specs.declared.file.File.{File}
use Rattle.bx_tree_files.specs.declared.sattr.Sattr.{Sattr}
use Rattle.bx_tree_files.specs.Attributes.{attributes_of}
use Rattle.bx_tree_files.specs.Changes.{most_bytes, with_fields}
use Rattle.bx_tree_files.specs.Files.{size_of, with_changed, with_file}
use Rattle.bx_tree_files.specs.Times.{Time, is_given}
use Rattle.bx_tree_laws.proofs.Writings.{setattr_keeps}
use Rattle.bx_truth.specs.Stands.{StandsFor}
use Rattle.bx_truth.specs.Stored.{HasFields}
use Rattle.bx_views.specs.Truths.{Held, Hints, Truth, with_draft}
use Rattle.bx_sizes.specs.Answers.{IsChangeOr, PutsFile, SetsSize}
use Rattle.bx_sizes.proofs.First.{first_wider}
use Rattle.bx_sizes.specs.Clearing.{OnClearing}
use Rattle.bx_sizes.specs.Cuts.{ClearsFirst, PreparesSetting}
use Rattle.bx_sizes.specs.Setting.{OnSetting}

-- ---- other relations of the same answers

pub change_or : (volume areas : ℕ) (truth : Truth) (tree : Tree) (outcome : Outcome) (result : Result (List Changed × Reply) Stop) → IsChange volume areas truth tree outcome result → IsChangeOr volume areas truth outcome result
change_or volume areas truth tree outcome (Ok made) is = is
change_or volume areas truth tree outcome (Err (Need at mode)) is = tt
change_or volume areas truth tree outcome (Err (Inner blocks)) is = absurd is
change_or volume areas truth tree outcome (Err (Status status)) is = is
change_or volume areas truth tree outcome (Err OutOfMemory) is = tt

pub size_stops : (volume areas : ℕ) (truth : Truth) (tree : Tree) (file : File) (outcome : Outcome) (stop : Stop) → SetsSize areas truth tree file (Err stop) → IsChangeOr volume areas truth outcome (Err stop)
size_stops volume areas truth tree file outcome (Need at mode) is = tt
size_stops volume areas truth tree file outcome (Inner blocks) is = is
size_stops volume areas truth tree file outcome (Status status) is = absurd is
size_stops volume areas truth tree file outcome OutOfMemory is = tt

-- what is needed along the path of clearing is on that of SETATTR
pub on_setting : (held : Held) (hints : Hints) (volume areas : ℕ) (bytes : List ℕ) (size handle : ℕ) (inode : Inode) → is_given size ≡ true → named volume bytes ≡ Some handle → LiveAt (reads_with held hints []) areas handle Exclusive inode
    → (result : Result (List Changed × Reply) Stop) → NeedsOn areas held (OnClearing held hints inode) result → NeedsOn areas held (OnSetting held hints volume areas bytes size) result
on_setting held hints volume areas bytes size handle inode given is live (Ok made) needs = tt
on_setting held hints volume areas bytes size handle inode given is live (Err (Need at mode)) needs = (needs.0, needs.1, inr (record { given = given; handle = handle; inode = inode; is_named = is; live = live; on = needs.2 }))
on_setting held hints volume areas bytes size handle inode given is live (Err (Inner blocks)) needs = tt
on_setting held hints volume areas bytes size handle inode given is live (Err (Status status)) needs = tt
on_setting held hints volume areas bytes size handle inode given is live (Err OutOfMemory) needs = tt

-- ---- the errors of setting a size, by the inode

abbrev errors_by : Call → ℕ → ℕ → ℕ → ℕ → ℕ → Result (Unit {0}) ℕ
errors_by call size kind uid gid mode =
    refuse (is_given size && (kind == 2)) 21
    >> (refuse (is_given size && (kind == 5)) 6
    >> (refuse (is_given size && not ((call.uid == 0) || ((call.uid == uid) || not (bit_and (if call.uid == uid then mode / 64 else if is_in_group call gid then mode / 8 else mode) 2 == 0)))) 13
    >> refuse (is_given size && nat_lt most_bytes size) 27))

errors_are : (call : Call) (size handle : ℕ) (inode : Inode) (file : File) → HasFields inode file → resize_errors call (head_of handle inode) size ≡ resize_errors call file size
errors_are call size handle inode file fields = λ i. errors_by call size (fields.kind i) (fields.uid i) (fields.gid i) (fields.mode i)

-- ---- the procedure, by the file

no_error : (reply : Reply) (next : Tree) (status : ℕ) → ◌≡◌ {A = Outcome} (Ok (reply, next)) (Err status) → ⊥
no_error reply next status is = absurd cc

module _ (volume areas : ℕ) (truth : Truth) (tree : Tree) (bytes : List ℕ) (call : Call) (sattr : Sattr) (now : Time) (handle : ℕ) (inode : Inode)
    (s : Stands volume areas truth tree) (f : IsInodeOf areas truth tree handle inode) (is : named volume bytes ≡ Some handle) where
  abbrev done : Outcome
  done = Ok (attributes_reply tree (with_fields now sattr f.file), changed tree f.file.handle (with_fields now sattr))

  abbrev rest : Bool → Result (Unit {0}) ℕ → Outcome
  rest forbidden errors = refuse forbidden 1 >> (errors >> done)

  by_file : setattr tree call bytes sattr now ≡ rest (is_forbidden call f.file sattr) (resize_errors call f.file sattr.size)
  by_file = ap (λ (o : Option File). must o 70 >>= (λ file. refuse (is_forbidden call file sattr) 1 >> (resize_errors call file sattr.size >> Ok (attributes_reply tree (with_fields now sattr file), changed tree file.handle (with_fields now sattr)))))
      (named_as tree volume bytes (Some handle) s.volume_is (sym is) ∙ f.there)

  by_inode : setattr tree call bytes sattr now ≡ rest (is_forbidden call (head_of handle inode) sattr) (resize_errors call (head_of handle inode) sattr.size)
  by_inode = by_file ∙ (λ i. rest (sym (right_is call sattr handle inode f.file f.fields) i) (sym (errors_are call sattr.size handle inode f.file f.fields) i))

  pub forbidden : true ≡ is_forbidden call (head_of handle inode) sattr → setattr tree call bytes sattr now ≡ Err 1
  forbidden test = by_inode ∙ ap (λ (b : Bool). rest b (resize_errors call (head_of handle inode) sattr.size)) (sym test)

  pub refused : (status : ℕ) → false ≡ is_forbidden call (head_of handle inode) sattr → resize_errors call (head_of handle inode) sattr.size ≡ Err status → setattr tree call bytes sattr now ≡ Err status
  refused status test error = by_inode ∙ (λ i. rest (sym test i) (error i))

  is_set : false ≡ is_forbidden call (head_of handle inode) sattr → resize_errors call (head_of handle inode) sattr.size ≡ Ok tt → setattr tree call bytes sattr now ≡ done
  is_set test fine = by_inode ∙ (λ i. rest (sym test i) (fine i))

  -- bytes are cleared first only where there is no error
  pub set_first : false ≡ is_forbidden call (head_of handle inode) sattr → resize_errors call (head_of handle inode) sattr.size ≡ Ok tt → is_given sattr.size ≡ true → (stop : Stop)
      → StopsFirst (λ status. ⊥) (ClearsFirst areas truth handle sattr.size) stop
      → StopsFirst (λ status. setattr tree call bytes sattr now ≡ Err status) (PreparesSetting volume areas truth bytes sattr.size) stop
  set_first test fine given stop first =
      first_wider (λ status. ⊥) (λ status. setattr tree call bytes sattr now ≡ Err status) (ClearsFirst areas truth handle sattr.size) (PreparesSetting volume areas truth bytes sattr.size)
      (λ status error. no_error (attributes_reply tree (with_fields now sattr f.file)) (changed tree f.file.handle (with_fields now sattr)) status (sym (is_set test fine) ∙ error))
      (λ new clears. record { given = given; handle = handle; is_named = is; clears = clears }) stop first

  pub change : (draft : List Changed) (made : Inode) (words : List ℕ) → false ≡ is_forbidden call (head_of handle inode) sattr → resize_errors call (head_of handle inode) sattr.size ≡ Ok tt
      → PutsFile areas truth tree (with_fields now sattr f.file) draft made
      → ((other : File) → other.handle ≡ handle → HasFields made other → size_of other.body ≡ shown_size made → size_of other.body < 2 ^ 31 → words ≡ attributes_of volume other)
      → Changes volume areas truth (setattr tree call bytes sattr now) draft (Attributes words)
  change draft made words test fine p tells =
      let told : words ≡ attributes_of volume (with_fields now sattr f.file) = tells (with_fields now sattr f.file) f.handle_is p.fields p.size p.small in
      let files : with_file tree.files (with_fields now sattr f.file) ≡ with_changed tree.files f.file.handle (with_fields now sattr) =
      sym (ap (λ (h : ℕ). with_changed tree.files h (with_fields now sattr)) f.handle_is ∙ changed_is_put tree.files handle (with_fields now sattr) f.file s.is.in_order f.there f.handle_is) in
      let comes : setattr tree call bytes sattr now ≡ Ok (Attributes words, changed tree f.file.handle (with_fields now sattr)) =
      is_set test fine
      ∙ (λ i. Ok (Attributes (attributes_of (s.volume_is i) (with_fields now sattr f.file)), changed tree f.file.handle (with_fields now sattr)))
      ∙ ap (λ (w : List ℕ). Ok (Attributes w, changed tree f.file.handle (with_fields now sattr))) (sym told) in
      record {
        next = changed tree f.file.handle (with_fields now sattr);
        comes_to = comes;
        stands = record {
          is = subst (λ (l : List File). StandsFor areas (with_draft truth draft) (record tree { files = l })) files p.stands;
          volume_is = s.volume_is;
          file_tree = (setattr_keeps tree call bytes sattr now (Attributes words) (changed tree f.file.handle (with_fields now sattr)) s.file_tree comes).is;
        };
      }
