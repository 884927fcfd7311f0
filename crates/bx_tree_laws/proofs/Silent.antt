-- The procedures that answer no attributes.
use Rattle.std.proofs.Common.{◌≡◌, ℕ, Bool, true, false, List, Option, subst}
use Rattle.std.specs.Prelude.{◌==◌, ◌&&◌, not, if◌then◌else◌, codes, bytes_eq, nat_le, Result, Ok}
use Rattle.bx_model.specs.declared.call.Args.{Args}
use Rattle.bx_model.specs.declared.call.Call.{Call}
use Rattle.bx_model.specs.bx_tree_files.specs.declared.sattr.Sattr.{Sattr}
use Rattle.bx_model.specs.bx_tree_files.specs.declared.file.File.{File}
use Rattle.bx_model.specs.declared.permissions.Want.TheVariants as want
use Rattle.bx_model.specs.declared.reply.Reply.{Reply}
use Rattle.bx_model.specs.declared.reply.Reply.TheVariants as reply
use Rattle.bx_model.specs.declared.status.TheConstants.{ACCES, DQUOT, EXIST, ISDIR, NFS_OK, NOENT, NOTDIR, NOTEMPTY, NXIO, PERM, STALE}
use Rattle.bx_model.specs.declared.tree.Tree.{Tree}
use Rattle.bx_places.specs.Handles.{file_text}
use Rattle.bx_model.specs.Directories.{readdir}
use Rattle.bx_model.specs.bx_tree_files.specs.Entries.{entry_named, is_bad}
use Rattle.bx_model.specs.bx_tree_files.specs.Files.{file_at, is_directory, is_link}
use Rattle.bx_model.specs.Making.{directory_to_change, entry_errors, has_entry, link, new_place, symlink}
use Rattle.bx_model.specs.Mounting.{mount, plain}
use Rattle.bx_model.specs.bx_tree_files.specs.Names.{names_of}
use Rattle.bx_model.specs.Permissions.{may}
use Rattle.bx_model.specs.Reading.{named_file, readlink, statfs}
use Rattle.bx_model.specs.Removing.{file_to_remove, has_entries, remove, rmdir}
use Rattle.bx_model.specs.Renaming.{file_of_entry, is_same, move_errors, rename, renamed}
use Rattle.bx_model.specs.Steps.{Step, ◌>>◌}
use Rattle.bx_model.specs.bx_tree_files.specs.Times.{Time}
use Rattle.bx_tree_laws.proofs.Steps.{after, after_bind, after_must, after_refuse, reply_is}
use Rattle.bx_tree_laws.proofs.Telling.{IsTrue, StepIsTrue, step_true}

abbrev pub IsSilent : Reply → Type 0
IsSilent (reply.Attributes words) = ⊥
IsSilent (reply.Bytes words bytes) = ⊥
IsSilent (reply.Handle text words) = ⊥
IsSilent _ = Unit {0}

pub silent_true : (arguments : Args) (answer : Reply) (next : Tree) → IsSilent answer → IsTrue arguments answer next
silent_true arguments (reply.Attributes words) next is at told tells = absurd is
silent_true arguments (reply.Bytes words bytes) next is at told tells = absurd is
silent_true arguments (reply.Handle text words) next is at told tells = absurd is
silent_true arguments (reply.Refused number program) next is at told tells = absurd tells
silent_true arguments (reply.Status status) next is at told tells = absurd tells
silent_true arguments reply.Empty next is at told tells = absurd tells
silent_true arguments (reply.Path path) next is at told tells = absurd tells
silent_true arguments (reply.List entries last) next is at told tells = absurd tells
silent_true arguments (reply.Space words) next is at told tells = absurd tells
silent_true arguments (reply.Mounted text) next is at told tells = absurd tells
silent_true arguments reply.Mounts next is at told tells = absurd tells
silent_true arguments reply.Exports next is at told tells = absurd tells

pub mount_silent : (tree : Tree) (procedure : ℕ) (path : List ℕ) → IsSilent (mount tree procedure path)
mount_silent tree procedure path = by (procedure == 3) (bytes_eq path (codes "/"))
  where
    by : (b c : Bool) → IsSilent (if b then reply.Empty else if c then reply.Mounted (file_text tree.volume tree.root) else reply.Status NOENT)
    by true c = tt
    by false true = tt
    by false false = tt

pub plain_silent : (program procedure : ℕ) → IsSilent (plain program procedure)
plain_silent program procedure = by ((program == 100005) && (procedure == 2)) ((program == 100005) && (procedure == 5))
  where
    by : (b c : Bool) → IsSilent (if b then reply.Mounts else if c then reply.Exports else reply.Empty)
    by true c = tt
    by false true = tt
    by false false = tt

module _ (tree next : Tree) (answer : Reply) where
  said : (given : Reply) (after : Tree) → ◌≡◌ {A = Result (Reply × Tree) ℕ} (Ok (given, after)) (Ok (answer, next)) → IsSilent given → IsSilent answer
  said given after e is = subst IsSilent (reply_is given answer after next e) is

  pub readlink_silent : (at : List ℕ) → readlink tree at ≡ Ok (answer, next) → IsSilent answer
  readlink_silent at e = after_must (named_file tree at) STALE _ (answer, next) e λ file found rest.
      after_refuse (not (is_link file)) NXIO _ (answer, next) rest λ link rest. said _ tree rest tt

  pub statfs_silent : (at : List ℕ) (spare : ℕ) → statfs tree at spare ≡ Ok (answer, next) → IsSilent answer
  statfs_silent at spare e = after_must (named_file tree at) STALE _ (answer, next) e λ file found rest. said _ tree rest tt

  pub readdir_silent : (call : Call) (at : List ℕ) (cookie count : ℕ) → readdir tree call at cookie count ≡ Ok (answer, next) → IsSilent answer
  readdir_silent call at cookie count e = after_must (named_file tree at) STALE _ (answer, next) e λ directory found rest.
      after_refuse (not (is_directory directory)) NOTDIR _ (answer, next) rest λ is rest.
      after_refuse (not (may call directory want.List)) ACCES _ (answer, next) rest λ may rest. said _ tree rest tt

  pub link_silent : (call : Call) (from at name : List ℕ) (now : Time) (spare : ℕ) → link tree call from at name now spare ≡ Ok (answer, next) → IsSilent answer
  link_silent call from at name now spare e = after_must (named_file tree from) STALE _ (answer, next) e λ file found rest.
      after_bind (directory_to_change tree call at name) _ (answer, next) rest λ directory changes rest.
      after_refuse (is_directory file) PERM _ (answer, next) rest λ other rest.
      after_refuse (has_entry directory name) EXIST _ (answer, next) rest λ absent rest.
      after_refuse (nat_le 32000 file.nlink) DQUOT _ (answer, next) rest λ few rest.
      after (entry_errors directory spare) _ (answer, next) rest λ room rest. said _ _ rest tt

  pub remove_silent : (call : Call) (at name : List ℕ) (now : Time) → remove tree call at name now ≡ Ok (answer, next) → IsSilent answer
  remove_silent call at name now e = after_bind (file_to_remove tree call at name) _ (answer, next) e λ both removed rest.
      after_refuse (is_directory both.1) ISDIR _ (answer, next) rest λ other rest. said _ _ rest tt

  pub rmdir_silent : (call : Call) (at name : List ℕ) (now : Time) → rmdir tree call at name now ≡ Ok (answer, next) → IsSilent answer
  rmdir_silent call at name now e = after_bind (file_to_remove tree call at name) _ (answer, next) e λ both removed rest.
      after_refuse (not (is_directory both.1)) NOTDIR _ (answer, next) rest λ one rest.
      after_refuse (has_entries both.1) NOTEMPTY _ (answer, next) rest λ empty rest. said _ _ rest tt

  pub rename_silent : (call : Call) (from name to new_name : List ℕ) (now : Time) (spare : ℕ) → rename tree call from name to new_name now spare ≡ Ok (answer, next) → IsSilent answer
  rename_silent call from name to new_name now spare e =
      after_must (named_file tree from) STALE _ (answer, next) e λ source source_found rest.
      after_must (named_file tree to) STALE _ (answer, next) rest λ target target_found rest.
      after_refuse (not (is_directory source)) NOTDIR _ (answer, next) rest λ source_is rest.
      after_refuse (not (is_directory target)) NOTDIR _ (answer, next) rest λ target_is rest.
      after_refuse (is_bad name) ACCES _ (answer, next) rest λ fine rest.
      after_refuse (is_bad new_name) ACCES _ (answer, next) rest λ good rest.
      after_refuse (not (may call source want.Change)) ACCES _ (answer, next) rest λ one_may rest.
      after_refuse (not (may call target want.Change)) ACCES _ (answer, next) rest λ other_may rest.
      after_must (entry_named (names_of source.body) name) NOENT _ (answer, next) rest λ entry found rest.
      after_must (file_at tree.files entry.handle) STALE _ (answer, next) rest λ moved there rest.
      after_bind (file_of_entry tree (entry_named (names_of target.body) new_name)) _ (answer, next) rest λ replaced replaced_is rest.
      by source target moved replaced (is_same moved replaced) rest
    where
      by : (source target moved : File) (replaced : Option File) (b : Bool)
          → ◌≡◌ {A = Result (Reply × Tree) ℕ} (if b then Ok (reply.Status NFS_OK, tree) else (move_errors tree source target moved replaced spare >> Ok (reply.Status NFS_OK, renamed now tree source name target new_name moved replaced))) (Ok (answer, next))
          → IsSilent answer
      by source target moved replaced true e = said _ tree e tt
      by source target moved replaced false e = after (move_errors tree source target moved replaced spare) _ (answer, next) e λ allowed rest. said _ _ rest tt

pub symlink_true : (tree : Tree) (arguments : Args) (call : Call) (at name path : List ℕ) (sattr : Sattr) (now : Time) (spare : ℕ) (step : Step) → symlink tree call at name path sattr now spare ≡ Ok step → StepIsTrue tree arguments step
symlink_true tree arguments call at name path sattr now spare step e =
    after_bind (new_place tree call at name spare) _ step e λ directory placed rest.
    step_true tree arguments _ step rest (λ made unused fits at words tells. absurd tells)
