-- RENAME in steps: the two directories, the move between them, and the errors of the way up.
use Rattle.std.specs.Prelude.{◌≡◌, ℕ, ◌==◌, true, not, if◌then◌else◌, List, Some, Result, Ok}
use Rattle.std.specs.List.{list_any}
use Rattle.bx_model.specs.declared.call.Call.{Call}
use Rattle.bx_tree_files.specs.declared.file.File.{File}
use Rattle.bx_model.specs.declared.permissions.Want.TheVariants as want
use Rattle.bx_model.specs.declared.reply.Reply.TheVariants as reply
use Rattle.bx_model.specs.declared.status.TheConstants.{ACCES, NAMETOOLONG, NFS_OK, NOENT, NOTDIR, PERM, STALE}
use Rattle.bx_model.specs.declared.tree.Tree.{Tree}
use Rattle.bx_tree_files.specs.Entries.{is_bad, entry_named}
use Rattle.bx_tree_files.specs.Files.{file_at, is_directory}
use Rattle.bx_tree_files.specs.Names.{names_of}
use Rattle.bx_model.specs.Permissions.{may}
use Rattle.bx_model.specs.Reading.{named_file}
use Rattle.bx_model.specs.Renaming.{file_of_entry, is_same, move_errors, renamed, way_up}
use Rattle.bx_model.specs.Steps.{Outcome, must, refuse, ◌>>=◌, ◌>>◌}
use Rattle.bx_tree_files.specs.Times.{Time}

-- the directories between which a call moves a file, or the first error of them and of the names
abbrev pub move_places : Tree → Call → List ℕ → List ℕ → List ℕ → List ℕ → Result (File × File) ℕ
move_places tree call from name to new_name = do
  source ← must (named_file tree from) STALE
  target ← must (named_file tree to) STALE
  refuse (not (is_directory source)) NOTDIR
  refuse (not (is_directory target)) NOTDIR
  refuse (is_bad name) ACCES
  refuse (is_bad new_name) ACCES
  refuse (not (may call source want.Change)) ACCES
  refuse (not (may call target want.Change)) ACCES
  Ok (source, target)

-- what comes of a move between two directories
abbrev pub move_between : Tree → File → List ℕ → File → List ℕ → Time → ℕ → Outcome
move_between tree source name target new_name now spare = do
  entry ← must (entry_named (names_of source.body) name) NOENT
  moved ← must (file_at tree.files entry.handle) STALE
  other ← file_of_entry tree (entry_named (names_of target.body) new_name)
  if is_same moved other then Ok (reply.Status NFS_OK, tree)
      else (do
        move_errors tree source target moved other spare
        Ok (reply.Status NFS_OK, renamed now tree source name target new_name moved other))

-- the errors of the way up from a directory in so many moves to a parent: it meets a file, or ends below the root
abbrev pub way_errors : Tree → ℕ → ℕ → ℕ → Result (Unit {0}) ℕ
way_errors tree moves directory handle = do
  refuse (list_any (λ other. other == handle) (way_up tree moves directory)) PERM
  refuse (not (list_any (λ other. other == tree.root) (way_up tree moves directory))) NAMETOOLONG

-- a directory of the tree
pub record IsPlace (tree : Tree) (directory : File) : Type 0 where
  pub there : file_at tree.files directory.handle ≡ Some directory
  pub kind : is_directory directory ≡ true
