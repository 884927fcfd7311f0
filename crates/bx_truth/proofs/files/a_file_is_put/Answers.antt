use Rattle.bx_truth.proofs.Put.{shown, put}
use Rattle.bx_truth.proofs.files.a_file_is_put.Goals as goal

pub returns-clause-shown : goal.returns-clause-shown
returns-clause-shown c = shown

pub returns-clause-put : goal.returns-clause-put
returns-clause-put c = put
