use Rattle.bx_truth.proofs.Dirs.{entries_anew}
use Rattle.bx_truth.proofs.directories.a_directory_is_anew.Goals as goal

pub returns : goal.returns
returns c = entries_anew
