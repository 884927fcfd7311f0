use Rattle.std.proofs.Common.{◌≡◌}
use Rattle.bx_replies.specs.Answers.{reply_of}
use Rattle.bx_replies.specs.Calls.{kept}
use Rattle.bx_replies.proofs.replies.Replies.find.Given as goal

-- the answers that are still to come have the reply that all have
abbrev pub invariant-loop-call : goal.invariant-loop-call
invariant-loop-call l = reply_of (kept l.call-iterator.iter) l.client l.bytes ≡ reply_of l.self l.client l.bytes
