use Rattle.std.proofs.Common.{rules}
use Rattle.bx_lease.proofs.detector.Detector.suspects.Goals as goal

pub returns-clause-silent : goal.returns-clause-silent
returns-clause-silent c = search rules
