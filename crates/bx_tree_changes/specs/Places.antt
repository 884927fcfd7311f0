-- Directories in which calls look for a name, or whose entries they change under one.
use Rattle.std.specs.Prelude.{ℕ, not, List, Result, Ok}
use Rattle.bx_model.specs.declared.call.Call.{Call}
use Rattle.bx_model.specs.declared.permissions.Want.{Want}
use Rattle.bx_model.specs.declared.status.TheConstants.{ACCES, NOTDIR, STALE}
use Rattle.bx_model.specs.declared.tree.Tree.{Tree}
use Rattle.bx_model.specs.Permissions.{may}
use Rattle.bx_model.specs.Reading.{named_file}
use Rattle.bx_model.specs.Steps.{must, refuse, ◌>>=◌, ◌>>◌}
use Rattle.bx_tree_files.specs.declared.file.File.{File}
use Rattle.bx_tree_files.specs.Entries.{is_bad}
use Rattle.bx_tree_files.specs.Files.{is_directory}

-- The directory that a file handle names, for a name that may stand in it, where the caller may do there what it wants: `directory_to_change` is this for
-- changing it, and `searched_directory` for searching it.
abbrev pub directory_for : Tree → Call → List ℕ → List ℕ → Want → Result File ℕ
directory_for tree call at name want = do
  directory ← must (named_file tree at) STALE
  refuse (not (is_directory directory)) NOTDIR
  refuse (is_bad name) ACCES
  refuse (not (may call directory want)) ACCES
  Ok directory
