use Rattle.bx_truth.proofs.Named.{named, free_names_none}
use Rattle.bx_truth.proofs.PieceKeys.{chunk_fits}
use Rattle.bx_truth.proofs.truths.what_is_in_use_has_a_name.Goals as goal

pub returns-clause-name : goal.returns-clause-name
returns-clause-name c = named

pub returns-clause-fits : goal.returns-clause-fits
returns-clause-fits c = chunk_fits

pub returns-clause-free : goal.returns-clause-free
returns-clause-free c = free_names_none
