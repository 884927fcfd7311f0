use Rattle.bx_truth.proofs.Dirs.{file_anew}
use Rattle.bx_truth.proofs.files.an_inode_is_anew.Goals as goal

pub returns : goal.returns
returns c = file_anew
