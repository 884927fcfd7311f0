-- The procedures that read change nothing.
use Rattle.std.proofs.Common.{◌≡◌, ℕ, List}
use Rattle.std.specs.Prelude.{not, Ok}
use Rattle.bx_model.specs.declared.call.Call.{Call}
use Rattle.bx_model.specs.declared.permissions.Want.TheVariants as want
use Rattle.bx_model.specs.declared.reply.Reply.{Reply}
use Rattle.bx_model.specs.declared.status.TheConstants.{ACCES, ISDIR, NOENT, NOTDIR, NXIO, STALE}
use Rattle.bx_model.specs.declared.tree.Tree.{Tree}
use Rattle.bx_model.specs.Directories.{readdir}
use Rattle.bx_model.specs.bx_tree_files.specs.Files.{is_directory, is_link}
use Rattle.bx_model.specs.Permissions.{may}
use Rattle.bx_model.specs.Reading.{named_file, meant, getattr, lookup, readlink, read, statfs}
use Rattle.bx_tree_laws.proofs.Steps.{after_must, after_refuse, next_is}

module _ (tree next : Tree) (reply : Reply) where
  pub getattr_same : (at : List ℕ) → getattr tree at ≡ Ok (reply, next) → tree ≡ next
  getattr_same at e = after_must (named_file tree at) STALE _ (reply, next) e λ file found rest. next_is _ reply tree next rest

  pub statfs_same : (at : List ℕ) (spare : ℕ) → statfs tree at spare ≡ Ok (reply, next) → tree ≡ next
  statfs_same at spare e = after_must (named_file tree at) STALE _ (reply, next) e λ file found rest. next_is _ reply tree next rest

  pub readlink_same : (at : List ℕ) → readlink tree at ≡ Ok (reply, next) → tree ≡ next
  readlink_same at e = after_must (named_file tree at) STALE _ (reply, next) e λ file found rest.
      after_refuse (not (is_link file)) NXIO _ (reply, next) rest λ link rest. next_is _ reply tree next rest

  pub lookup_same : (call : Call) (at name : List ℕ) → lookup tree call at name ≡ Ok (reply, next) → tree ≡ next
  lookup_same call at name e = after_must (named_file tree at) STALE _ (reply, next) e λ directory found rest.
      after_refuse (not (is_directory directory)) NOTDIR _ (reply, next) rest λ is rest.
      after_refuse (not (may call directory want.Search)) ACCES _ (reply, next) rest λ may rest.
      after_must (meant tree directory name) NOENT _ (reply, next) rest λ file means rest. next_is _ reply tree next rest

  pub read_same : (call : Call) (at : List ℕ) (offset count : ℕ) → read tree call at offset count ≡ Ok (reply, next) → tree ≡ next
  read_same call at offset count e = after_must (named_file tree at) STALE _ (reply, next) e λ file found rest.
      after_refuse (is_directory file) ISDIR _ (reply, next) rest λ directory rest.
      after_refuse (is_link file) NXIO _ (reply, next) rest λ link rest.
      after_refuse (not (may call file want.Read)) ACCES _ (reply, next) rest λ may rest. next_is _ reply tree next rest

  pub readdir_same : (call : Call) (at : List ℕ) (cookie count : ℕ) → readdir tree call at cookie count ≡ Ok (reply, next) → tree ≡ next
  readdir_same call at cookie count e = after_must (named_file tree at) STALE _ (reply, next) e λ directory found rest.
      after_refuse (not (is_directory directory)) NOTDIR _ (reply, next) rest λ is rest.
      after_refuse (not (may call directory want.List)) ACCES _ (reply, next) rest λ may rest. next_is _ reply tree next rest
