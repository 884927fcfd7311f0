use Rattle.bx_tree_laws.proofs.Rereads.{read_after_write}
use Rattle.bx_tree_laws.proofs.answers.what_was_written_is_read.Goals as goal

pub returns : goal.returns
returns c = read_after_write
