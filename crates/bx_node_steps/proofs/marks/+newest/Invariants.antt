use Rattle.std.proofs.Common.{length}
use Rattle.bx_node_steps.proofs.marks.+newest.Given as goal

abbrev pub decreases-newest : goal.decreases-newest
decreases-newest l = length l.calls.now
