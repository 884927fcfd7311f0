use Rattle.std.proofs.Common.{drop}
use Rattle.bx_host.specs.Steps.{owed}
use Rattle.bx_host.proofs.Sendings.{SentSome}
use Rattle.bx_host.proofs.answers.send_all.Given as goal

abbrev pub invariant-loop-outcome : goal.invariant-loop-outcome
invariant-loop-outcome g l = SentSome g.L.Link (owed l.fn.outcomes) (owed (drop l.outcome-index l.outcomes)) l.fn.link l.link l.fn.sent l.count
