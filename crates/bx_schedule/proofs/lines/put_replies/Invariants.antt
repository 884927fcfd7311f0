use Rattle.std.proofs.Common.{◌≡◌, ◌++◌, map, take}
use Rattle.bx_cluster.specs.Steps.{reply_line}
use Rattle.bx_schedule.proofs.lines.put_replies.Given as goal

abbrev pub invariant-loop-reply : goal.invariant-loop-reply
invariant-loop-reply l = l.lines.items ≡ l.fn.lines.items ++ map reply_line (take l.reply-index l.replies)
