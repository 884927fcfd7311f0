-- RENAME.
use Rattle.std.specs.Prelude.{ℕ, zero, suc, ◌==◌, Bool, false, not, ◌&&◌, if◌then◌else◌, List, [], ◌∷◌, option_map, unwrap_or, Option, Some, None, Result, Ok}
use Rattle.std.specs.List.{list_any}
use Rattle.bx_model.specs.declared.call.Call.{Call}
use Rattle.bx_tree_files.specs.declared.file.File.{File}
use Rattle.bx_tree_files.specs.declared.file.Name.{Name}
use Rattle.bx_model.specs.declared.permissions.Want.TheVariants as want
use Rattle.bx_model.specs.declared.reply.Reply.TheVariants as reply
use Rattle.bx_model.specs.declared.status.TheConstants.{ACCES, ISDIR, NAMETOOLONG, NFS_OK, NOENT, NOTDIR, NOTEMPTY, PERM, STALE}
use Rattle.bx_model.specs.declared.tree.Tree.{Tree}
use Rattle.bx_model.specs.Edits.{changed, without}
use Rattle.bx_tree_files.specs.Files.{file_at, is_directory}
use Rattle.bx_tree_files.specs.Changes.{entered, taken_out, moved_to}
use Rattle.bx_model.specs.Making.{entry_errors}
use Rattle.bx_tree_files.specs.Entries.{is_bad, entry_named}
use Rattle.bx_tree_files.specs.Names.{names_of, parent_of}
use Rattle.bx_model.specs.Permissions.{may}
use Rattle.bx_model.specs.Reading.{named_file}
use Rattle.bx_model.specs.Removing.{has_entries, without_link}
use Rattle.bx_model.specs.Steps.{Outcome, must, refuse, ◌>>=◌, ◌>>◌}
use Rattle.bx_tree_files.specs.Times.{Time}

-- the parent of the directory with a handle
abbrev pub parent_at : List File → ℕ → ℕ
parent_at files handle = unwrap_or (option_map (λ file. parent_of file.body) (file_at files handle)) handle

-- The directories on the way from one up to the root, both included, or as far as so many moves to a parent lead.
unfoldable pub way_up : Tree → ℕ → ℕ → List ℕ
way_up tree zero handle = handle ∷ []
way_up tree (suc moves) handle =
    if handle == tree.root then handle ∷ [] else handle ∷ way_up tree moves (parent_at tree.files handle)

-- the way up from a directory, in at most 512 moves, has one of this handle
abbrev pub leads_by : Tree → File → ℕ → Bool
leads_by tree directory handle = list_any (λ other. other == handle) (way_up tree 512 directory.handle)

-- whether a directory moves to another one
abbrev pub changes_parent : File → File → File → Bool
changes_parent source target moved = is_directory moved && not (source.handle == target.handle)

-- the file that an entry names, if there is one
abbrev pub file_of_entry : Tree → Option Name → Result (Option File) ℕ
file_of_entry tree None = Ok None
file_of_entry tree (Some entry) = do
  file ← must (file_at tree.files entry.handle) STALE
  Ok (Some file)

-- the errors of a file that takes the place of another one
abbrev pub replace_errors : File → Option File → Result (Unit {0}) ℕ
replace_errors moved None = Ok tt
replace_errors moved (Some replaced) = do
  refuse (is_directory moved && not (is_directory replaced)) NOTDIR
  refuse (not (is_directory moved) && is_directory replaced) ISDIR
  refuse (has_entries replaced) NOTEMPTY

-- The errors of a move: below itself, or too deep; onto another file; no number is left, or no space.
abbrev pub move_errors : Tree → File → File → File → Option File → ℕ → Result (Unit {0}) ℕ
move_errors tree source target moved replaced spare = do
  refuse (changes_parent source target moved && leads_by tree target moved.handle) PERM
  refuse (changes_parent source target moved && not (leads_by tree target tree.root)) NAMETOOLONG
  replace_errors moved replaced
  entry_errors target spare

-- the tree without the file that is replaced, and without its entry
abbrev pub without_replaced : Time → Tree → File → List ℕ → Option File → Tree
without_replaced now tree target name None = tree
without_replaced now tree target name (Some replaced) =
    let left : Tree = changed tree target.handle (taken_out now name (is_directory replaced)) in
    if is_directory replaced then without left replaced.handle else without_link now left replaced.handle replaced.nlink

-- the tree after a file has moved: the entry that it had is gone, and it has a new one
abbrev pub with_moved : Time → Tree → File → List ℕ → File → List ℕ → File → Bool → Tree
with_moved now tree source name target new_name moved counts =
    let left : Tree = changed tree source.handle (taken_out now name counts) in
    let come : Tree = changed left target.handle (entered now new_name moved.handle counts) in
    changed come moved.handle (moved_to now target.handle)

abbrev pub renamed : Time → Tree → File → List ℕ → File → List ℕ → File → Option File → Tree
renamed now tree source name target new_name moved replaced =
    let left : Tree = without_replaced now tree target new_name replaced in
    with_moved now left source name target new_name moved (changes_parent source target moved)

-- whether both names are one file
abbrev pub is_same : File → Option File → Bool
is_same moved None = false
is_same moved (Some replaced) = moved.handle == replaced.handle

-- RENAME (RFC 1094, section 2.2.12): a file gets another name, which may be another file's until then. Two names of
-- one file are left alone.
abbrev pub rename : Tree → Call → List ℕ → List ℕ → List ℕ → List ℕ → Time → ℕ → Outcome
rename tree call from name to new_name now spare = do
  source ← must (named_file tree from) STALE
  target ← must (named_file tree to) STALE
  refuse (not (is_directory source)) NOTDIR
  refuse (not (is_directory target)) NOTDIR
  refuse (is_bad name) ACCES
  refuse (is_bad new_name) ACCES
  refuse (not (may call source want.Change)) ACCES
  refuse (not (may call target want.Change)) ACCES
  entry ← must (entry_named (names_of source.body) name) NOENT
  moved ← must (file_at tree.files entry.handle) STALE
  replaced ← file_of_entry tree (entry_named (names_of target.body) new_name)
  if is_same moved replaced then Ok (reply.Status NFS_OK, tree)
      else (do
        move_errors tree source target moved replaced spare
        Ok (reply.Status NFS_OK, renamed now tree source name target new_name moved replaced))
