use Rattle.std.proofs.Common.{length}
use Rattle.bx_node_steps.proofs.marks.+waits_since.Given as goal

abbrev pub decreases-waits_since : goal.decreases-waits_since
decreases-waits_since l = length l.calls.now
