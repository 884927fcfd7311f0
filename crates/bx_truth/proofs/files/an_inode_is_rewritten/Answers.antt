use Rattle.bx_truth.proofs.Rewrite.{rewritten_stands}
use Rattle.bx_truth.proofs.files.an_inode_is_rewritten.Goals as goal

pub returns : goal.returns
returns c = λ areas truth tree handle block after file file_now old new is chunk there has_old has_new same_header keeps fields same_handle same_body.
    rewritten_stands areas truth tree handle block after file file_now old new is chunk there has_old has_new same_header keeps fields same_handle same_body
