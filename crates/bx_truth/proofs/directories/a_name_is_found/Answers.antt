use Rattle.bx_truth.proofs.Adding.{name_found, name_absent}
use Rattle.bx_truth.proofs.directories.a_name_is_found.Goals as goal

pub returns-clause-found : goal.returns-clause-found
returns-clause-found c = name_found

pub returns-clause-absent : goal.returns-clause-absent
returns-clause-absent c = name_absent
