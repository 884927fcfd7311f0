-- REMOVE and RMDIR.
use Rattle.std.specs.Prelude.{ℕ, nat_le, nat_lt, Bool, true, false, not, if◌then◌else◌, List, length, Ok, Result}
use Rattle.bx_model.specs.declared.call.Call.{Call}
use Rattle.bx_tree_files.specs.declared.file.File.{File}
use Rattle.bx_model.specs.declared.reply.Reply.TheVariants as reply
use Rattle.bx_model.specs.declared.status.TheConstants.{ISDIR, NFS_OK, NOENT, NOTDIR, NOTEMPTY, STALE}
use Rattle.bx_model.specs.declared.tree.Tree.{Tree}
use Rattle.bx_model.specs.Edits.{changed, without}
use Rattle.bx_tree_files.specs.Files.{file_at, is_directory}
use Rattle.bx_model.specs.Making.{directory_to_change}
use Rattle.bx_tree_files.specs.Entries.{entry_named}
use Rattle.bx_tree_files.specs.Names.{names_of}
use Rattle.bx_model.specs.Steps.{Outcome, must, refuse, ◌>>=◌, ◌>>◌}
use Rattle.bx_tree_files.specs.Times.{Time}
use Rattle.bx_tree_files.specs.Changes.{taken_out, unlinked}

-- the tree after a file of so many names lost one: with its last one it leaves the tree
abbrev pub without_link : Time → Tree → ℕ → ℕ → Tree
without_link now tree handle nlink = if nat_le nlink 1 then without tree handle else changed tree handle (unlinked now)

abbrev pub has_entries : File → Bool
has_entries directory = nat_lt 0 (length (names_of directory.body))

-- the directory whose entry is to go, and the file that the entry names
abbrev pub file_to_remove : Tree → Call → List ℕ → List ℕ → Result (File × File) ℕ
file_to_remove tree call at name = do
  directory ← directory_to_change tree call at name
  entry ← must (entry_named (names_of directory.body) name) NOENT
  file ← must (file_at tree.files entry.handle) STALE
  Ok (directory, file)

-- REMOVE (RFC 1094, section 2.2.11): the entry of a file that is no directory goes.
abbrev pub remove : Tree → Call → List ℕ → List ℕ → Time → Outcome
remove tree call at name now = do
  (directory, file) ← file_to_remove tree call at name
  refuse (is_directory file) ISDIR
  Ok (reply.Status NFS_OK, without_link now (changed tree directory.handle (taken_out now name false)) file.handle file.nlink)

-- RMDIR (RFC 1094, section 2.2.16): an empty directory goes.
abbrev pub rmdir : Tree → Call → List ℕ → List ℕ → Time → Outcome
rmdir tree call at name now = do
  (directory, file) ← file_to_remove tree call at name
  refuse (not (is_directory file)) NOTDIR
  refuse (has_entries file) NOTEMPTY
  Ok (reply.Status NFS_OK, without (changed tree directory.handle (taken_out now name true)) file.handle)
