use Rattle.std.proofs.Common.{rules}
use Rattle.bx_lease.proofs.detector.Detector.heard.Goals as goal

pub returns-clause-heard : goal.returns-clause-heard
returns-clause-heard c = search rules
