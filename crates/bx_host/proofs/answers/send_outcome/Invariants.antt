use Rattle.std.proofs.Common.{drop}
use Rattle.bx_host.specs.Steps.{replies_of}
use Rattle.bx_host.proofs.Sendings.{SentSome}
use Rattle.bx_host.proofs.answers.send_outcome.Given as goal

abbrev pub invariant-loop-reply : goal.invariant-loop-reply
invariant-loop-reply g l = SentSome g.L.Link (replies_of l.reply-items) (replies_of (drop l.reply-index l.reply-items)) l.fn.link l.link l.fn.sent l.count
