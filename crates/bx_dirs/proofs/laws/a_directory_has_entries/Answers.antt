use Rattle.bx_dirs.proofs.Directories.{has_entries}
use Rattle.bx_dirs.proofs.laws.a_directory_has_entries.Goals as goal

pub returns : goal.returns
returns c = has_entries
