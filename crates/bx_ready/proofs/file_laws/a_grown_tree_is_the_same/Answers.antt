use Rattle.bx_ready.proofs.Grown.{tree_grown}
use Rattle.bx_ready.proofs.file_laws.a_grown_tree_is_the_same.Goals as goal

pub returns : goal.returns
returns c = tree_grown
