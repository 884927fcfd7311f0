use Rattle.std.proofs.Common.{drop, take}
use Rattle.bx_lock_tables.proofs.Waiting.{AreKept}
use Rattle.bx_lock_tables.proofs.queue.Queue.keep_live.Given as goal

abbrev pub invariant-loop-want : goal.invariant-loop-want
invariant-loop-want l = AreKept l.known (take l.want-index l.want-items) (drop l.want-index l.want-items) l.self
