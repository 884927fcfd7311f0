use Rattle.bx_volume.proofs.OneLog.{one_has_log}
use Rattle.bx_volume.proofs.OneTruth.{one_truth}
use Rattle.bx_volume.proofs.truths.one_truth.Goals as goal

pub returns-clause-log : goal.returns-clause-log
returns-clause-log c = one_has_log

pub returns-clause-truth : goal.returns-clause-truth
returns-clause-truth c = one_truth
