use Rattle.bx_tree_files.proofs.Kept.{All-files}
use Rattle.bx_tree_files.proofs.files.Files.iter.Goals as goal

pub returns-clause-are_files : goal.returns-clause-are_files
returns-clause-are_files c = rw (← c.self.view_is) (All-files c.self.inside.by_handle.entries c.self.invariant.at)
