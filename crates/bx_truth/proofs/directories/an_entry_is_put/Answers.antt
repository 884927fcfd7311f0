use Rattle.bx_truth.proofs.Adding.{entry_added, entry_taken}
use Rattle.bx_truth.proofs.directories.an_entry_is_put.Goals as goal

pub returns-clause-added : goal.returns-clause-added
returns-clause-added c = entry_added

pub returns-clause-taken : goal.returns-clause-taken
returns-clause-taken c = entry_taken
