-- What a removal comes to by what it finds: the directory, the entry, the file.
use Rattle.std.proofs.Common.{◌≡◌, ℕ, Bool, true, false, List, Option, Some, None, refl, sym, ap, ◌∙◌, subst, inl, inr}
use Rattle.std.specs.Prelude.{not, if◌then◌else◌, Result, Ok, Err}
use Rattle.bx_changes.specs.bx_files.specs.Paths.{IsNeed}
use Rattle.bx_changes.specs.bx_files.specs.Reads.{Tells}
use Rattle.bx_inodes.specs.Heads.{head_of}
use Rattle.bx_inodes.specs.Inodes.{FileAt, IsInodeOf}
use Rattle.bx_inodes.specs.declared.stop.Stop.{Stop}
use Rattle.bx_inodes.specs.declared.stop.Stop.TheVariants.{Need, Inner, Status, OutOfMemory}
use Rattle.bx_layout.specs.declared.inode.Inode.{Inode}
use Rattle.bx_model.specs.declared.call.Call.{Call}
use Rattle.bx_model.specs.declared.permissions.Want.{Want}
use Rattle.bx_model.specs.declared.reply.Reply.TheVariants as reply
use Rattle.bx_model.specs.declared.tree.Tree.{Tree}
use Rattle.bx_model.specs.Permissions.{may}
use Rattle.bx_model.specs.Removing.{has_entries}
use Rattle.bx_model.specs.Steps.{Outcome, refuse, ◌>>◌}
use Rattle.bx_places.specs.Places.{is_block}
use Rattle.bx_tree_files.specs.declared.file.File.{File}
use Rattle.bx_tree_files.specs.declared.file.Name.{Name}
use Rattle.bx_tree_files.specs.Entries.{is_bad}
use Rattle.bx_tree_files.specs.Files.{file_at, is_directory}
use Rattle.bx_tree_files.specs.Times.{Time}
use Rattle.bx_truth.specs.Stored.{HasFields}
use Rattle.bx_views.specs.Truths.{Truth}
use Rattle.bx_entries.specs.declared.finding.Removable.{Removable}
use Rattle.bx_entries.specs.declared.finding.Removable.TheVariants as of
use Rattle.bx_entries.specs.Finding.{DirectoryFor, EntryFor, FileFor, removal_error, removing, unless, usable}
use Rattle.bx_entries.specs.Removing.{name_error, removed}

-- ---- the entry

pub need_lists : (names : List Name) (name : List ℕ) (areas at : ℕ) (stop : Stop) → IsNeed areas at stop → is_block areas at ≡ true → EntryFor names name (Err stop)
need_lists names name areas at stop (inl need) block = subst (λ (s : Stop). EntryFor names name (Err s)) (sym need.1) tt
need_lists names name areas at stop (inr none) block = let both : true ≡ false = sym block ∙ none.0 in absurd cc

-- ---- the directory

abbrev or_error : Option ℕ → Result File ℕ → Result File ℕ
or_error (Some status) rest = Err status
or_error None rest = rest

abbrev first_error : Bool → Bool → Bool → Option ℕ
first_error d b m = if d then (if b then Some 13 else if m then None else Some 13) else Some 20

tests : (d b m : Bool) (rest : Result File ℕ) → refuse (not d) 20 >> (refuse b 13 >> (refuse (not m) 13 >> rest)) ≡ or_error (first_error d b m) rest
tests false b m rest = refl
tests true true m rest = refl
tests true false true rest = refl
tests true false false rest = refl

pub is_one : (d b m : Bool) → first_error d b m ≡ None → d ≡ true
is_one false b m none = absurd cc
is_one true b m none = refl

good_of : (d b m : Bool) → first_error d b m ≡ None → b ≡ false
good_of false b m none = absurd cc
good_of true true m none = absurd cc
good_of true false m none = refl

error_is : (wanted : Want) (call : Call) (name : List ℕ) (handle : ℕ) (inode : Inode) (file : File) → HasFields inode file → name_error wanted call name (head_of handle inode) ≡ name_error wanted call name file
error_is wanted call name handle inode file fields = λ i. name_error wanted call name (record file { kind = fields.kind i; mode = fields.mode i; uid = fields.uid i; gid = fields.gid i })

module _ (wanted : Want) (call : Call) (name : List ℕ) (file : File) where
  used_by : usable wanted call name (Some file) ≡ or_error (name_error wanted call name file) (Ok file)
  used_by = tests (is_directory file) (is_bad name) (may call file wanted) (Ok file)

  pub uses : name_error wanted call name file ≡ None → usable wanted call name (Some file) ≡ Ok file
  uses none = used_by ∙ ap (λ (o : Option ℕ). or_error o (Ok file)) none

  pub refuses : (status : ℕ) → name_error wanted call name file ≡ Some status → usable wanted call name (Some file) ≡ Err status
  refuses status some = used_by ∙ ap (λ (o : Option ℕ). or_error o (Ok file)) some

  pub is_a_directory : name_error wanted call name file ≡ None → is_directory file ≡ true
  is_a_directory none = is_one (is_directory file) (is_bad name) (may call file wanted) none

  pub is_good : name_error wanted call name file ≡ None → is_bad name ≡ false
  is_good none = good_of (is_directory file) (is_bad name) (may call file wanted) none

module _ (wanted : Want) (areas : ℕ) (truth : Truth) (tree : Tree) (call : Call) (name : List ℕ) (handle : ℕ) where
  pub no_directory : (stop : Stop) → FileAt areas truth tree handle (Err stop) → DirectoryFor wanted areas truth tree call name handle (Err stop)
  no_directory (Status status) (code, none) = ap (usable wanted call name) none ∙ ap Err (sym code)
  no_directory (Need at mode) f = tt
  no_directory (Inner blocks) never = never
  no_directory OutOfMemory f = tt

  module _ (inode : Inode) (f : IsInodeOf areas truth tree handle inode) where
    pub refused : (status : ℕ) (error : Option ℕ) → error ≡ Some status → error ≡ name_error wanted call name (head_of handle inode) → usable wanted call name (file_at tree.files handle) ≡ Err status
    refused status error some is = ap (usable wanted call name) f.there ∙ refuses wanted call name f.file status (sym (is ∙ error_is wanted call name handle inode f.file f.fields) ∙ some)

    pub allowed : None ≡ name_error wanted call name (head_of handle inode) → name_error wanted call name f.file ≡ None
    allowed none = sym (none ∙ error_is wanted call name handle inode f.file f.fields)

-- ---- the file

module _ (sort : Removable) (areas : ℕ) (truth : Truth) (tree : Tree) (directory : File) (name : List ℕ) (now : Time) (handle : ℕ) where
  pub no_file : (stop : Stop) → FileAt areas truth tree handle (Err stop) → FileFor sort areas truth tree directory name now handle (Err stop)
  no_file (Status status) (code, none) = ap (removing sort tree directory name now) none ∙ ap Err (sym code)
  no_file (Need at mode) f = tt
  no_file (Inner blocks) never = never
  no_file OutOfMemory f = tt

  abbrev done : File → Outcome
  done file = Ok (reply.Status 0, removed tree directory name file now)

  module _ (inode : Inode) (f : IsInodeOf areas truth tree handle inode) where
    comes : (error : Option ℕ) → error ≡ removal_error sort f.file → removing sort tree directory name now (file_at tree.files handle) ≡ unless error (done f.file)
    comes error is = ap (removing sort tree directory name now) f.there ∙ ap (λ (o : Option ℕ). unless o (done f.file)) (sym is)

    pub is_refused : (status : ℕ) (error : Option ℕ) → error ≡ Some status → error ≡ removal_error sort f.file → removing sort tree directory name now (file_at tree.files handle) ≡ Err status
    is_refused status error some is = comes error is ∙ ap (λ (o : Option ℕ). unless o (done f.file)) some

    pub is_removed : removal_error sort f.file ≡ None → removing sort tree directory name now (file_at tree.files handle) ≡ Ok (reply.Status 0, removed tree directory name f.file now)
    is_removed none = comes None (sym none)

    pub not_told : (stop : Stop) → Tells (removal_error sort f.file) (Err stop) → FileFor sort areas truth tree directory name now handle (Err stop)
    not_told (Status status) never = absurd never
    not_told (Need at mode) t = tt
    not_told (Inner blocks) never = never
    not_told OutOfMemory t = tt

-- what may be removed has no entries where it is a directory
abbrev error_by : Removable → Bool → Bool → Option ℕ
error_by of.Plain d e = if d then Some 21 else None
error_by of.Directory d e = if d then (if e then Some 66 else None) else Some 20

empty_by : (sort : Removable) (d e : Bool) → error_by sort d e ≡ None → d ≡ true → e ≡ false
empty_by of.Plain true e none one = absurd cc
empty_by of.Plain false e none one = absurd cc
empty_by of.Directory true true none one = absurd cc
empty_by of.Directory false true none one = absurd cc
empty_by of.Directory d false none one = refl

by_parts : (sort : Removable) (file : File) → removal_error sort file ≡ error_by sort (is_directory file) (has_entries file)
by_parts of.Plain file = refl
by_parts of.Directory file = refl

pub may_be_empty : (sort : Removable) (file : File) → removal_error sort file ≡ None → is_directory file ≡ true → has_entries file ≡ false
may_be_empty sort file none one = empty_by sort (is_directory file) (has_entries file) (sym (by_parts sort file) ∙ none) one
